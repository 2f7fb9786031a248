use Rattle.std.proofs.Common.{◌∙◌, ℕ, List, sym, subst}
use Rattle.hex.specs.Hex.{encode_lower}
use Rattle.script_text.specs.ScriptGrammar.{write}
use Rattle.apei_script.specs.Plays.{IsPlayable}
use Rattle.apei_script.specs.Sessions.{state_of}
use Rattle.apei_cli.specs.Generated.{IsRefusedIf}
use Rattle.apei_cli.proofs.RecordLemmas.{record_playable}
use Rattle.apei_cli.proofs.GenerateLemmas.{write_refused, read_refused, clear_refused, next_refused}
use Rattle.apei_script.specs.Bridged.{changes_in}
use Rattle.apei_cli.proofs.generate.generator.play.Goals as goal

pub write-requires : goal.write-requires
write-requires g c =
    let size = rw c.in-Write.is at c.requires in
    record { playable = subst (λ (bytes : List ℕ). IsPlayable (write (encode_lower bytes))) (sym c.sample_record-record.ensures) (record_playable c.in-Write.id c.in-Write.size size.0 size.1) }

pub returns-in-Write-clause-played : goal.returns-in-Write-clause-played
returns-in-Write-clause-played g c =
    rw c.in-Write.is (subst (λ (bytes : List ℕ). IsRefusedIf c.is_err.result g.F.Flash.tells (state_of c.args.player.now.session) (write (encode_lower bytes))
    (state_of c.write.new.self.session)) c.sample_record-record.ensures
    (record { words = _; played = c.write.ensures.played; refused_is = c.is_err.ensures.value ∙ write_refused _ c.write.result (changes_in (state_of c.write.new.self.session).machine) }))

pub returns-in-Clear-clause-played : goal.returns-in-Clear-clause-played
returns-in-Clear-clause-played g c =
    rw c.in-Clear.is (record {
      words = _;
      played = c.clear.ensures.played;
      refused_is = c.is_err-in-Clear.ensures.value ∙ clear_refused c.in-Clear.id c.clear.result (changes_in (state_of c.clear.new.self.session).machine);
    })

pub returns-in-Read-clause-played : goal.returns-in-Read-clause-played
returns-in-Read-clause-played g c =
    let played = c.read.ensures.played in
    rw c.in-Read.is (record {
      words = _;
      played = played.played;
      refused_is = c.is_err-in-Read.ensures.value ∙ read_refused played.asked.shown c.read.result (changes_in (state_of c.read.new.self.session).machine);
    })

pub returns-in-Next-clause-played : goal.returns-in-Next-clause-played
returns-in-Next-clause-played g c =
    rw c.in-Next.is (record {
      words = _;
      played = c.next.ensures.played;
      refused_is = c.is_err-in-Next.ensures.value ∙ next_refused c.next.result (changes_in (state_of c.next.new.self.session).machine);
    })
