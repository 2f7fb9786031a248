use Rattle.std.proofs.Common.{ℕ}
use Rattle.record_model.specs.Records.{slot_at}
use Rattle.record_slots.specs.declared.found.Look.{Look}
use Rattle.record_slots.specs.Looks.{IsSeen}
use Rattle.image_survey.proofs.LookLemmas.{pushed}
use Rattle.image_survey.proofs.looks.look_at_slots.Goals as goal

pub loop-slot-preserved : goal.loop-slot-preserved
loop-slot-preserved c =
    let Fact = λ (k : ℕ) (look : Look). IsSeen (slot_at c.args.geometry.now.slot_size c.args.image.now k) look in
    let grown =
    pushed Fact c.loop-slot.slot c.loop-slot.looks.items c.push.new.self.items c.look_at.result c.in_ok-push.ensures.items c.loop-slot.invariant.long c.look_at.ensures c.loop-slot.invariant.seen in
    record { long = grown.0; seen = grown.1 }
