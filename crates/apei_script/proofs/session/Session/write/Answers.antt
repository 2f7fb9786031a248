use Rattle.std.proofs.Common.{◌∙◌, Some, ap, arith}
use Rattle.hex.specs.Hex.{encode_lower}
use Rattle.script_text.specs.ScriptGrammar.{write}
use Rattle.apei_script.proofs.SessionLines.{in_use}
use Rattle.apei_script.proofs.Asking.{asked_to_write}
use Rattle.apei_script.proofs.CommandLemmas.{are_decoded, played_by_other, played_by_own, answers_write}
use Rattle.apei_script.proofs.session.Session.write.Goals as goal

pub returns-in-Some-clause-played : goal.returns-in-Some-clause-played
returns-in-Some-clause-played g c =
    played_by_other g.F.Flash.tells c.args.self.now.machine c.args.self.now.own c.args.self.now.steps c.args.self.now.bridge c.stands.ensures.machine
    c.in-Some.client c.args.self.now.other _ (write (encode_lower c.args.bytes.now)) _ _ c.in-Some.is (ap Some c.write.ensures.kept) c.requires.playable.valid
    (asked_to_write g.F.Flash.tells c.in-Some.client _ c.args.self.now.machine _ _ c.write.result _ _ _
    (are_decoded c.args.bytes.now (λ k. omega (arith, c.type_inv.bytes k))) (c.new.ensures ∙ c.budget-steps.ensures) c.write.ensures.writes
    c.write.ensures.reaches)

pub returns-in-None-clause-played : goal.returns-in-None-clause-played
returns-in-None-clause-played g c =
    played_by_own g.F.Flash.tells c.args.self.now.machine c.args.self.now.own c.args.self.now.steps c.args.self.now.bridge c.stands.ensures.machine _
    c.args.self.now.other c.args.self.now.other (write (encode_lower c.args.bytes.now)) _ _ c.in-None.is c.in-None.is c.write-in-None.ensures.kept
    c.requires.playable.valid
    (asked_to_write g.F.Flash.tells c.args.self.now.own _ c.args.self.now.machine _ _ c.write-in-None.result _ _ _
    (are_decoded c.args.bytes.now (λ k. omega (arith, c.type_inv.bytes k))) (c.new-in-None.ensures ∙ c.budget-steps.ensures) c.write-in-None.ensures.writes
    c.write-in-None.ensures.reaches)

pub returns-in-Some-clause-answers : goal.returns-in-Some-clause-answers
returns-in-Some-clause-answers g c =
    answers_write g.F.Flash.tells c.args.self.now.machine c.in-Some.client (in_use c.args.self.now.own c.args.self.now.other) _ _
    (ap (in_use c.args.self.now.own) c.in-Some.is) (c.new.ensures ∙ c.budget-steps.ensures) c.args.bytes.now _ _ _ c.write.ensures.writes

pub returns-in-None-clause-answers : goal.returns-in-None-clause-answers
returns-in-None-clause-answers g c =
    answers_write g.F.Flash.tells c.args.self.now.machine c.args.self.now.own (in_use c.args.self.now.own c.args.self.now.other) _ _
    (ap (in_use c.args.self.now.own) c.in-None.is) (c.new-in-None.ensures ∙ c.budget-steps.ensures) c.args.bytes.now _ _ _ c.write-in-None.ensures.writes
