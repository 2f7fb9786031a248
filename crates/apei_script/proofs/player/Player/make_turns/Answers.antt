use Rattle.std.proofs.Common.{refl}
use Rattle.std.proofs.lemmas.Result.{on_ok_weaker, on_err_weaker}
use Rattle.script_text.specs.ScriptGrammar.{turns}
use Rattle.apei_script.specs.Sessions.{state_of}
use Rattle.apei_script.proofs.SessionLines.{is_off}
use Rattle.apei_script.proofs.PlayLemmas.{occurred_played, occurred_unwritten, other_machine}
use Rattle.apei_script.proofs.player.Player.make_turns.Goals as goal

pub returns-else-is_on : goal.returns-else-is_on
returns-else-is_on g c =
    let off = is_off c.args.self.now.session.bridge c.is_on.result c.is_on.ensures c.if-is_on.false in
    let then = other_machine c.args.self.now.session c.turns.new.session c.turns.ensures.clients c.turns.ensures.bridge in
    record {
      played = on_ok_weaker c.turns.result (λ h. occurred_played _ _ _ (state_of c.args.self.now.session) (state_of c.turns.new.session) _ _
          (turns c.args.letters.now) _ _ refl off then h) c.turns.ensures.occurred;
      unwritten = on_err_weaker c.turns.result (λ h. occurred_unwritten _ _ _ (state_of c.args.self.now.session) (state_of c.turns.new.session) _ _
          (turns c.args.letters.now) _ _ refl off then h) c.turns.ensures.unwritten;
      cause = c.turns.ensures.cause;
    }
