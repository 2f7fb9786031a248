use Rattle.std.proofs.Common.{sym, subst}
use Rattle.std.specs.Prelude.{IfErr}
use Rattle.script_text.specs.ScriptText.{line_of}
use Rattle.script_text.specs.declared.script_line.ScriptLine.{ScriptLine}
use Rattle.apei_script.specs.declared.player.PlayStop.{PlayStop}
use Rattle.apei_script.specs.Plays.{Stops}
use Rattle.apei_script.specs.Sessions.{state_of}
use Rattle.apei_script.proofs.session.Session.carry_out.Goals as goal

pub returns-in-Table-clause-stopped : goal.returns-in-Table-clause-stopped
returns-in-Table-clause-stopped g c =
    subst (λ (line : ScriptLine). IfErr c.give_table.result (λ (stop : PlayStop). Stops g.F.Flash.tells (state_of c.args.self.now) (line_of line)
    (state_of c.give_table.new.self) stop)) (sym c.in-Table.is) c.give_table.ensures.stopped

pub returns-in-TableShadow-clause-stopped : goal.returns-in-TableShadow-clause-stopped
returns-in-TableShadow-clause-stopped g c =
    subst (λ (line : ScriptLine). IfErr c.use_shadow_table.result (λ (stop : PlayStop). Stops g.F.Flash.tells (state_of c.args.self.now) (line_of line)
    (state_of c.use_shadow_table.new.self) stop)) (sym c.in-TableShadow.is)
    c.use_shadow_table.ensures.stopped

pub returns-in-Reset-clause-stopped : goal.returns-in-Reset-clause-stopped
returns-in-Reset-clause-stopped g c =
    subst (λ (line : ScriptLine). IfErr c.reset.result (λ (stop : PlayStop). Stops g.F.Flash.tells (state_of c.args.self.now) (line_of line)
    (state_of c.reset.new.self) stop)) (sym c.in-Reset.is) c.reset.ensures.stopped

pub returns-in-Power-clause-stopped : goal.returns-in-Power-clause-stopped
returns-in-Power-clause-stopped g c =
    subst (λ (line : ScriptLine). IfErr c.power.result (λ (stop : PlayStop). Stops g.F.Flash.tells (state_of c.args.self.now) (line_of line)
    (state_of c.power.new.self) stop)) (sym c.in-Power.is) c.power.ensures.stopped
