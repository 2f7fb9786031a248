use Rattle.std.proofs.Common.{◌∙◌, Some, ap}
use Rattle.script_text.specs.ScriptGrammar.{clear}
use Rattle.apei_script.proofs.SessionLines.{in_use}
use Rattle.apei_script.proofs.Asking.{asked_to_clear}
use Rattle.apei_script.proofs.CommandLemmas.{played_by_other, played_by_own, answers_clear}
use Rattle.apei_script.proofs.session.Session.clear.Goals as goal

pub returns-in-Some-clause-played : goal.returns-in-Some-clause-played
returns-in-Some-clause-played g c =
    played_by_other g.F.Flash.tells c.args.self.now.machine c.args.self.now.own c.args.self.now.steps c.args.self.now.bridge c.stands.ensures.machine
    c.in-Some.client c.args.self.now.other _ (clear c.args.id) _ _ c.in-Some.is (ap Some c.clear.ensures.kept) c.ranges.id.fits
    (asked_to_clear g.F.Flash.tells c.in-Some.client _ c.args.self.now.machine c.args.id c.clear.result _ _ _ (c.new.ensures ∙ c.budget-steps.ensures) c.clear.ensures.clears c.clear.ensures.reaches)

pub returns-in-None-clause-played : goal.returns-in-None-clause-played
returns-in-None-clause-played g c =
    played_by_own g.F.Flash.tells c.args.self.now.machine c.args.self.now.own c.args.self.now.steps c.args.self.now.bridge c.stands.ensures.machine _
    c.args.self.now.other c.args.self.now.other (clear c.args.id) _ _ c.in-None.is c.in-None.is c.clear-in-None.ensures.kept c.ranges.id.fits
    (asked_to_clear g.F.Flash.tells c.args.self.now.own _ c.args.self.now.machine c.args.id c.clear-in-None.result _ _ _
    (c.new-in-None.ensures ∙ c.budget-steps.ensures) c.clear-in-None.ensures.clears c.clear-in-None.ensures.reaches)

pub returns-in-Some-clause-answers : goal.returns-in-Some-clause-answers
returns-in-Some-clause-answers g c =
    answers_clear g.F.Flash.tells c.args.self.now.machine c.in-Some.client (in_use c.args.self.now.own c.args.self.now.other) _ _
    (ap (in_use c.args.self.now.own) c.in-Some.is) (c.new.ensures ∙ c.budget-steps.ensures) c.args.id _ _ _ c.clear.ensures.clears

pub returns-in-None-clause-answers : goal.returns-in-None-clause-answers
returns-in-None-clause-answers g c =
    answers_clear g.F.Flash.tells c.args.self.now.machine c.args.self.now.own (in_use c.args.self.now.own c.args.self.now.other) _ _
    (ap (in_use c.args.self.now.own) c.in-None.is) (c.new-in-None.ensures ∙ c.budget-steps.ensures) c.args.id _ _ _ c.clear-in-None.ensures.clears
