use Rattle.std.proofs.Common.{ℕ}
use Rattle.image_survey.specs.declared.survey.SlotView.{SlotView}
use Rattle.image_survey.specs.Shown.{IsShown}
use Rattle.image_survey.proofs.LookLemmas.{pushed}
use Rattle.image_survey.proofs.survey.view_slots.Goals as goal

pub loop-slot-preserved : goal.loop-slot-preserved
loop-slot-preserved c =
    let Fact = λ (k : ℕ) (view : SlotView). IsShown c.args.geometry.now.slot_size c.args.geometry.now.slots c.args.image.now k view in
    let grown =
    pushed Fact c.loop-slot.slot c.loop-slot.views.items c.push.new.self.items c.view.result c.in_ok-push.ensures.items c.loop-slot.invariant.long c.view.ensures c.loop-slot.invariant.shown in
    record { long = grown.0; shown = grown.1 }
