use Rattle.std.proofs.Common.{◌∙◌, ℕ, ap, arith}
use Rattle.std.specs.Prelude.{codes}
use Rattle.apei_script.specs.Words.{refused}
use Rattle.erst_bridge.specs.Bridges.{Awaits}
use Rattle.apei_script.proofs.Made.{made_word}
use Rattle.apei_script.proofs.SessionLines.{by_bridge, no_id, no_off, no_idle, is_off, idle_by}
use Rattle.apei_script.proofs.session.Session.enter_bridge.Goals as goal

pub returns-in_default : goal.returns-in_default
returns-in_default g c =
    no_id g.F.Flash.tells c.args.self.now.machine c.args.self.now.own c.args.self.now.steps c.args.self.now.bridge c.args.self.now.other c.args.id _ c.in_default.ensures
    (made_word _ (refused (codes "id")) (omega arith) c.begin.ensures)

pub returns-then-is_on : goal.returns-then-is_on
returns-then-is_on g c =
    no_off g.F.Flash.tells c.args.self.now.machine c.args.self.now.own c.args.self.now.steps c.args.self.now.bridge c.args.self.now.other c.args.id _ c.in-Some.ensures.1
    (c.is_on.ensures.0 c.if-is_on.true) (made_word _ (refused (codes "on")) (omega arith) c.begin-then-is_on.ensures)

pub returns-then-not-reader_idle : goal.returns-then-not-reader_idle
returns-then-not-reader_idle g c =
    let stood = c.reader_idle.ensures.some in
    no_idle g.F.Flash.tells c.args.self.now.machine c.args.self.now.own c.args.self.now.steps c.args.self.now.bridge c.args.self.now.other c.args.id _ c.in-Some.ensures.1
    (is_off c.args.self.now.bridge c.is_on.result c.is_on.ensures c.if-is_on.false)
    (idle_by c.reader_idle.result c.args.self.now.machine stood.0 stood.1 (c.reader_idle.ensures.idle stood.0 stood.1) ∙ c.if-not-reader_idle.true)
    (made_word _ (refused (codes "reading")) (omega arith) c.begin-then-not-reader_idle.ensures)

pub returns : goal.returns
returns g c =
    let stood = c.reader_idle.ensures.some in
    by_bridge g.F.Flash.tells c.args.self.now.machine c.args.self.now.own c.args.self.now.steps c.args.self.now.bridge c.args.self.now.other c.args.id _ _ c.in-Some.ensures.1
    (is_off c.args.self.now.bridge c.is_on.result c.is_on.ensures c.if-is_on.false)
    (idle_by c.reader_idle.result c.args.self.now.machine stood.0 stood.1 (c.reader_idle.ensures.idle stood.0 stood.1) ∙ c.if-not-reader_idle.false)
    (c.enter.ensures ∙ ap (λ (n : ℕ). Awaits n) c.in-Some.ensures.0)
    c.put_number.ensures
