use Rattle.std.proofs.Common.{[], ◌∷◌}
use Rattle.script_text.specs.ScriptText.{line_of}
use Rattle.apei_script.specs.Words.{said_at}
use Rattle.apei_script.specs.Sessions.{state_of}
use Rattle.apei_script.proofs.LawLemmas.{own_programs}
use Rattle.apei_script.proofs.PlayLemmas.{line_answered}
use Rattle.apei_script.proofs.PlayedLemmas.{line_played}
use Rattle.apei_script.specs.Bridged.{changes_in}
use Rattle.apei_script.proofs.player.Player.answer.Goals as goal

pub returns-clause-answered : goal.returns-clause-answered
returns-clause-answered g c =
    line_answered g.F.Flash.tells (state_of c.args.self.now.session) (line_of c.args.line.now) (state_of c.carry_out.new.self) c.carry_out.new.self.buffers.reply c.end_line.new.reply c.steps.result
    (λ words counts plays.
    line_played g.F.Flash.tells (own_programs g.F.Flash.tells) counts (state_of c.args.self.now.session) (line_of c.args.line.now)
    (said_at (changes_in (state_of c.carry_out.new.self).machine) (words ∷ [])) [] [] (state_of c.carry_out.new.self) c.stands.ensures.machine
    c.requires.playable.valid plays)
    c.in_ok-carry_out.ensures.made c.steps.ensures.value c.end_line.ensures
