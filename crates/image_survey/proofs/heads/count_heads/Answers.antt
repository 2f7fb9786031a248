use Rattle.std.proofs.Common.{◌≡◌, ℕ, ◌-◌, ap, sym, ◌∙◌, refl, arith}
use Rattle.record_model.specs.Records.{count_below, one_if, slot_at}
use Rattle.image_survey.specs.Heads.{has_head, heads_in}
use Rattle.image_survey.proofs.CountLemmas.{count_more, count_none}
use Rattle.image_survey.proofs.heads.count_heads.Goals as goal

pub loop-slot-init : goal.loop-slot-init
loop-slot-init c =
    let test = λ (k : ℕ). has_head (c.args.geometry.now.slot_size - 64) c.args.geometry.now.slots (slot_at c.args.geometry.now.slot_size c.args.image.now k) in
    record { few = omega arith; counted = count_none test }

pub loop-slot-preserved : goal.loop-slot-preserved
loop-slot-preserved c =
    let test = λ (k : ℕ). has_head (c.args.geometry.now.slot_size - 64) c.args.geometry.now.slots (slot_at c.args.geometry.now.slot_size c.args.image.now k) in
    record {
      few = let had = c.loop-slot.invariant.few in let one = c.one_if-found.ensures.few in omega arith;
      counted = count_more test c.loop-slot.slot c.loop-slot.heads c.one_if-found.result c.loop-slot.invariant.counted
          (c.one_if-found.ensures.value ∙ ap one_if c.has_head.ensures);
    }

pub returns : goal.returns
unfolding heads_in
returns c =
    let test = λ (k : ℕ). has_head (c.args.geometry.now.slot_size - 64) c.args.geometry.now.slots (slot_at c.args.geometry.now.slot_size c.args.image.now k) in
    let end : c.loop-slot.slot ≡ c.args.geometry.now.slots = omega arith in
    c.loop-slot.invariant.counted ∙ ap (count_below test) end
