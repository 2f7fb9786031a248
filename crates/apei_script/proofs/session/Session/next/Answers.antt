use Rattle.std.proofs.Common.{◌∙◌, Some, ap}
use Rattle.script_text.specs.ScriptGrammar.{next}
use Rattle.apei_script.proofs.SessionLines.{in_use}
use Rattle.apei_script.proofs.Asking.{asked_for_next}
use Rattle.apei_script.proofs.CommandLemmas.{played_by_other, played_by_own, answers_next}
use Rattle.apei_script.proofs.session.Session.next.Goals as goal

pub returns-in-Some-clause-played : goal.returns-in-Some-clause-played
returns-in-Some-clause-played g c =
    played_by_other g.F.Flash.tells c.args.self.now.machine c.args.self.now.own c.args.self.now.steps c.args.self.now.bridge c.stands.ensures.machine
    c.in-Some.client c.args.self.now.other _ next _ _ c.in-Some.is (ap Some c.next.ensures.kept) tt
    (asked_for_next g.F.Flash.tells c.in-Some.client _ c.args.self.now.machine c.next.result _ _ _ (c.new.ensures ∙ c.budget-steps.ensures) c.next.ensures.names c.next.ensures.reaches)

pub returns-in-None-clause-played : goal.returns-in-None-clause-played
returns-in-None-clause-played g c =
    played_by_own g.F.Flash.tells c.args.self.now.machine c.args.self.now.own c.args.self.now.steps c.args.self.now.bridge c.stands.ensures.machine _
    c.args.self.now.other c.args.self.now.other next _ _ c.in-None.is c.in-None.is c.next-in-None.ensures.kept tt
    (asked_for_next g.F.Flash.tells c.args.self.now.own _ c.args.self.now.machine c.next-in-None.result _ _ _ (c.new-in-None.ensures ∙ c.budget-steps.ensures)
    c.next-in-None.ensures.names c.next-in-None.ensures.reaches)

pub returns-in-Some-clause-answers : goal.returns-in-Some-clause-answers
returns-in-Some-clause-answers g c =
    answers_next g.F.Flash.tells c.args.self.now.machine c.in-Some.client (in_use c.args.self.now.own c.args.self.now.other) _ _
    (ap (in_use c.args.self.now.own) c.in-Some.is) (c.new.ensures ∙ c.budget-steps.ensures) _ _ _ c.next.ensures.names

pub returns-in-None-clause-answers : goal.returns-in-None-clause-answers
returns-in-None-clause-answers g c =
    answers_next g.F.Flash.tells c.args.self.now.machine c.args.self.now.own (in_use c.args.self.now.own c.args.self.now.other) _ _
    (ap (in_use c.args.self.now.own) c.in-None.is) (c.new-in-None.ensures ∙ c.budget-steps.ensures) _ _ _ c.next-in-None.ensures.names
