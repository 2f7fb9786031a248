use Rattle.std.proofs.Common.{◌∙◌, arith}
use Rattle.image_survey.proofs.ErasedLemmas.{erased_by_pairs}
use Rattle.image_survey.proofs.survey.are_erased.Goals as goal

pub returns-then-first : goal.returns-then-first
returns-then-first c =
    c.are_equal.ensures ∙ erased_by_pairs c.args.bytes.now c.in-Some.rest.now c.in-Some.first.now _ c.in-Some.ensures.cases.0 c.if-first.true (omega arith)
