use Rattle.std.proofs.Common.{◌≡◌, ◌<◌, ℕ, List, ap, ◌∙◌, arith}
use Rattle.record_model.specs.Records.{count_below, one_if}
use Rattle.image_survey.specs.Heads.{is_unknown}
use Rattle.image_survey.specs.Kinds.{kind_at}
use Rattle.image_survey.proofs.CountLemmas.{unknown_more, count_none}
use Rattle.image_survey.proofs.files.count_unknown.Goals as goal

pub loop-slot-init : goal.loop-slot-init
loop-slot-init c = record {
  few = omega arith;
  counted = λ image shown. count_none (λ (k : ℕ). is_unknown (kind_at c.args.geometry.now.slot_size c.args.geometry.now.slots image k));
}

pub loop-slot-preserved : goal.loop-slot-preserved
loop-slot-preserved c =
    let size = c.args.geometry.now.slot_size in
    let slots = c.args.geometry.now.slots in
    let low : c.loop-slot.slot < slots = omega arith in
    record {
      few = let had = c.loop-slot.invariant.few in let one = c.one_if-found.ensures.few in omega arith;
      counted = λ image shown.
          unknown_more size slots image c.loop-slot.slot _ _ _ (shown c.loop-slot.slot _ low) (c.loop-slot.invariant.counted image shown)
          (c.one_if-found.ensures.value ∙ ap one_if c.is_unknown.ensures);
    }

pub returns : goal.returns
returns c image shown =
    let size = c.args.geometry.now.slot_size in
    let slots = c.args.geometry.now.slots in
    let end : c.loop-slot.slot ≡ slots = omega arith in
    c.loop-slot.invariant.counted image shown ∙ ap (count_below (λ (k : ℕ). is_unknown (kind_at size slots image k))) end
