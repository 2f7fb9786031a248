use Rattle.std.proofs.Common.{◌<◌, arith}
use Rattle.image_survey.proofs.KindLemmas.{none-found}
use Rattle.image_survey.proofs.finding.find.Goals as goal

pub returns-clause-found : goal.returns-clause-found
returns-clause-found c image shown =
    none-found c.args.geometry.now.slot_size c.args.geometry.now.slots c.args.id image
    (λ k h first. let low : k < c.loop-slot.slot = omega arith in c.loop-slot.invariant image shown k low first)
