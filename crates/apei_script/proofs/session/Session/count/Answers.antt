use Rattle.std.proofs.Common.{◌∙◌, Some, ap}
use Rattle.script_text.specs.ScriptGrammar.{count}
use Rattle.apei_script.proofs.SessionLines.{in_use}
use Rattle.apei_script.proofs.Asking.{asked_to_count}
use Rattle.apei_script.proofs.CommandLemmas.{played_by_other, played_by_own, answers_count}
use Rattle.apei_script.proofs.session.Session.count.Goals as goal

pub returns-in-Some-clause-played : goal.returns-in-Some-clause-played
returns-in-Some-clause-played g c =
    played_by_other g.F.Flash.tells c.args.self.now.machine c.args.self.now.own c.args.self.now.steps c.args.self.now.bridge c.stands.ensures.machine
    c.in-Some.client c.args.self.now.other _ count _ _ c.in-Some.is (ap Some c.count.ensures.kept) tt
    (asked_to_count g.F.Flash.tells c.in-Some.client _ c.args.self.now.machine c.count.result _ _ _ (c.new.ensures ∙ c.budget-steps.ensures) c.count.ensures.counts c.count.ensures.reaches)

pub returns-in-None-clause-played : goal.returns-in-None-clause-played
returns-in-None-clause-played g c =
    played_by_own g.F.Flash.tells c.args.self.now.machine c.args.self.now.own c.args.self.now.steps c.args.self.now.bridge c.stands.ensures.machine _
    c.args.self.now.other c.args.self.now.other count _ _ c.in-None.is c.in-None.is c.count-in-None.ensures.kept tt
    (asked_to_count g.F.Flash.tells c.args.self.now.own _ c.args.self.now.machine c.count-in-None.result _ _ _ (c.new-in-None.ensures ∙ c.budget-steps.ensures)
    c.count-in-None.ensures.counts c.count-in-None.ensures.reaches)

pub returns-in-Some-clause-answers : goal.returns-in-Some-clause-answers
returns-in-Some-clause-answers g c =
    answers_count g.F.Flash.tells c.args.self.now.machine c.in-Some.client (in_use c.args.self.now.own c.args.self.now.other) _ _
    (ap (in_use c.args.self.now.own) c.in-Some.is) (c.new.ensures ∙ c.budget-steps.ensures) _ _ _ c.count.ensures.counts

pub returns-in-None-clause-answers : goal.returns-in-None-clause-answers
returns-in-None-clause-answers g c =
    answers_count g.F.Flash.tells c.args.self.now.machine c.args.self.now.own (in_use c.args.self.now.own c.args.self.now.other) _ _
    (ap (in_use c.args.self.now.own) c.in-None.is) (c.new-in-None.ensures ∙ c.budget-steps.ensures) _ _ _ c.count-in-None.ensures.counts
