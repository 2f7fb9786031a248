use Rattle.std.proofs.Common.{◌∙◌, Some, ap, refl, sym, subst}
use Rattle.apei_script.specs.Players.{Asker}
use Rattle.apei_script.specs.Asked.{ReadAsked}
use Rattle.apei_script.proofs.SessionLines.{in_use}
use Rattle.apei_script.proofs.CommandLemmas.{read_played, same_asker}
use Rattle.apei_script.proofs.session.Session.read.Goals as goal

pub returns-in-Some : goal.returns-in-Some
returns-in-Some g c =
    let own = c.args.self.now.own in
    let other = c.args.self.now.other in
    read_played g.F.Flash.tells c.args.self.now.machine own c.args.self.now.steps c.args.self.now.bridge c.stands.ensures.machine own other _ c.args.id _ _
    (ap Some c.read_by.ensures.kept ∙ sym c.in-Some.is) refl c.ranges.id.fits
    (subst (λ (asker : Asker). ReadAsked g.F.Flash.tells asker c.args.self.now.machine c.args.id c.read_by.result c.read_by.new.machine)
    (same_asker c.in-Some.client (in_use own other) _ _ (ap (in_use own) c.in-Some.is) c.budget-steps.ensures)
    c.read_by.ensures.asked)

pub returns-in-None : goal.returns-in-None
returns-in-None g c =
    let own = c.args.self.now.own in
    let other = c.args.self.now.other in
    read_played g.F.Flash.tells c.args.self.now.machine own c.args.self.now.steps c.args.self.now.bridge c.stands.ensures.machine _ other other c.args.id _ _
    refl c.read_by-in-None.ensures.kept c.ranges.id.fits
    (subst (λ (asker : Asker). ReadAsked g.F.Flash.tells asker c.args.self.now.machine c.args.id c.read_by-in-None.result c.read_by-in-None.new.machine)
    (same_asker own (in_use own other) _ _ (ap (in_use own) c.in-None.is) c.budget-steps.ensures)
    c.read_by-in-None.ensures.asked)
