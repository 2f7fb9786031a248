-- A slot that is being filled, as a first or as a further slot: it is not upright at any step, whatever is torn, and each
-- change leads to the next step.
use Rattle.std.proofs.Common.{◌≡◌, ◌≢◌, ℕ, ◌+◌, ◌-◌, ◌*◌, ◌<◌, ◌≤◌, false, List, sym, ap, subst, ◌∙◌, arith, inl, inr}
use Rattle.std.proofs.lemmas.Bool.{cases_eq}
use Rattle.std.proofs.Math.Nat.{add-mul, mul-le-mul_right, mul_comm}
use Rattle.base_model.specs.Bytes.{SameOutside, number_at}
use Rattle.base_model.proofs.BytesLemmas.{number_at-before}
use Rattle.base_model.specs.Flash.{IsErased}
use Rattle.base_model.specs.Layout.{Layout}
use Rattle.record_model.specs.Records.{tail_at, slot_at, is_up, gate_open, tail_mark}
use Rattle.record_model.specs.Filling.{IsCleanFromHead, IsCleanFromTail}
use Rattle.record_model.proofs.SlotLemmas.{head_at-before, tail_at-after, down_by_gate, down_by_tail, down_by_head, erased_byte}
use Rattle.base_model.proofs.ErasedLemmas.{IsErased-before, IsErased-after, IsErased-append}
use Rattle.record_model.proofs.MarkLemmas.{open_is_not_erased, tail_is_not_erased}
use Rattle.record_model.proofs.Words.{StaysDown}

-- while the gate is closed and not touched
pub StaysDown-gate : (size slots slot at len : ℕ) (image : List ℕ) → slot * size + 1 ≤ at → number_at image (slot * size) 1 ≢ gate_open → StaysDown at len size slots slot image
StaysDown-gate size slots slot at len image low closed other same =
    down_by_gate size slots slot other (λ is. closed (sym (number_at-before at len (slot * size) 1 image other same low) ∙ is))

-- while the tail mark is not set and not touched
pub StaysDown-tail : (size slots slot at len : ℕ) (image : List ℕ) → 1 ≤ size → at + len ≤ slot * size + (size - 1) →
    tail_at image (slot * size) size ≢ tail_mark → StaysDown at len size slots slot image
StaysDown-tail size slots slot at len image some high unmarked other same =
    down_by_tail size slots slot other (λ is. unmarked (sym (tail_at-after at len (slot * size) size image other same some high) ∙ is))

-- while it is not upright by its head, and that is not touched
pub StaysDown-head : (size slots slot at len : ℕ) (image : List ℕ) → slot * size + 26 ≤ at → is_up (size - 64) slots (slot_at size image slot) ≡ false
    → tail_at image (slot * size) size ≡ tail_mark → StaysDown at len size slots slot image
StaysDown-head size slots slot at len image low down marked other same =
    down_by_head size slots slot image other down marked (head_at-before at len (slot * size) image other same low)

erased_gate : (image : List ℕ) (place len : ℕ) → IsErased image place len → 1 ≤ len → number_at image place 1 ≢ gate_open
erased_gate image place len erased some open_gate =
    open_is_not_erased open_gate (erased_byte image place len place erased (omega arith) (omega arith))

-- how far sectors reach within a slot
pub record Reach (per_slot size sector_size done : ℕ) : Type 0 where
  pub whole : (per_slot - done) * sector_size + done * sector_size ≡ size
  pub some : 1 ≤ done → sector_size ≤ done * sector_size
  pub next : (done + 1) * sector_size ≡ done * sector_size + sector_size
  pub none : done ≡ 0 → done * sector_size ≡ 0

pub reach : (per_slot size sector_size done : ℕ) → done ≤ per_slot → size ≡ sector_size * per_slot → Reach per_slot size sector_size done
reach per_slot size sector_size done few product = record {
  whole =
      sym (add-mul (per_slot - done) done sector_size)
      ∙ ap (λ (k : ℕ). k * sector_size) (omega arith)
      ∙ mul_comm per_slot sector_size ∙ sym product;
  some = λ h. let least : 1 * sector_size ≤ done * sector_size = mul-le-mul_right sector_size h in omega arith;
  next = add-mul done 1 sector_size ∙ (omega arith);
  none = λ e. ap (λ (k : ℕ). k * sector_size) e ∙ (omega arith);
}

-- the next sector from the head: the first is free by the tail mark, the others by the closed gate
pub StaysDown-from_head : (layout : Layout) (slot done : ℕ) (image : List ℕ) → done < layout.per_slot → IsCleanFromHead layout.slot_size layout.sector slot done image
    → StaysDown (slot * layout.slot_size + done * layout.sector) layout.sector layout.slot_size layout.slots slot image
StaysDown-from_head layout slot done image within clean =
    let size = layout.slot_size in
    let sector = layout.sector in
    let least : 256 ≤ sector = layout.least_sector in
    let large : 512 ≤ size = layout.least_slot in
    let r = reach layout.per_slot size sector done (omega arith) layout.product in
    elim (cases_eq done 0) [
      | inl first ↦
          let one = reach layout.per_slot size sector 1 (omega (arith, layout.few_sectors)) layout.product in
          let two : (layout.per_slot - 1) * sector + 1 * sector ≡ size = one.whole in
          let more : 1 * sector ≤ (layout.per_slot - 1) * sector = mul-le-mul_right sector (omega (arith, layout.few_sectors)) in
          let at : done * sector ≡ 0 = r.none first in
          StaysDown-tail size layout.slots slot (slot * size + done * sector) sector image (omega arith) (omega arith) (clean.unmarked first)
      | inr later ↦
          let long : sector ≤ done * sector = r.some (omega arith) in
          StaysDown-gate size layout.slots slot (slot * size + done * sector) sector image (omega arith)
          (erased_gate image (slot * size) (done * sector) clean.erased (omega arith))
    ]

-- one more sector from the head
pub IsCleanFromHead-more : (layout : Layout) (slot done : ℕ) (old new : List ℕ) → done < layout.per_slot → IsCleanFromHead layout.slot_size layout.sector slot done old
    → SameOutside (slot * layout.slot_size + done * layout.sector) layout.sector old new
    → IsErased new (slot * layout.slot_size + done * layout.sector) layout.sector
    → IsCleanFromHead layout.slot_size layout.sector slot (done + 1) new
IsCleanFromHead-more layout slot done old new within clean same erased =
    let size = layout.slot_size in
    let sector = layout.sector in
    let r = reach layout.per_slot size sector done (omega arith) layout.product in
    record {
      unmarked = λ none. absurd (omega arith);
      erased = subst (λ (k : ℕ). IsErased new (slot * size) k) (sym r.next)
          (IsErased-append new (slot * size) (done * sector) sector
          (IsErased-before (slot * size + done * sector) sector (slot * size) (done * sector) old new same (omega arith) clean.erased)
          erased);
    }

erased_tail : (layout : Layout) (slot done : ℕ) (image : List ℕ) → done ≤ layout.per_slot → 1 ≤ done →
    IsErased image (slot * layout.slot_size + (layout.per_slot - done) * layout.sector) (done * layout.sector)
    → tail_at image (slot * layout.slot_size) layout.slot_size ≢ tail_mark
unfolding tail_at
erased_tail layout slot done image few some erased marked =
    let size = layout.slot_size in
    let sector = layout.sector in
    let r = reach layout.per_slot size sector done few layout.product in
    let whole : (layout.per_slot - done) * sector + done * sector ≡ size = r.whole in
    let long : sector ≤ done * sector = r.some some in
    let least : 256 ≤ sector = layout.least_sector in
    tail_is_not_erased marked
    (erased_byte image (slot * size + (layout.per_slot - done) * sector) (done * sector) (slot * size + (size - 1)) erased (omega arith) (omega arith))

-- the next sector from the tail: the last is free by the head, the others by the missing tail mark
pub StaysDown-from_tail : (layout : Layout) (slot done : ℕ) (image : List ℕ) → done < layout.per_slot → is_up (layout.slot_size - 64) layout.slots (slot_at layout.slot_size image slot) ≡ false
    → IsCleanFromTail layout.slot_size layout.sector layout.per_slot slot done image
    → StaysDown (slot * layout.slot_size + (layout.per_slot - 1 - done) * layout.sector) layout.sector layout.slot_size layout.slots slot image
StaysDown-from_tail layout slot done image within free clean =
    let size = layout.slot_size in
    let sector = layout.sector in
    let least : 256 ≤ sector = layout.least_sector in
    let large : 512 ≤ size = layout.least_slot in
    elim (cases_eq done 0) [
      | inl first ↦
          let more : 1 * sector ≤ (layout.per_slot - 1 - done) * sector = mul-le-mul_right sector (omega (arith, layout.few_sectors)) in
          StaysDown-head size layout.slots slot (slot * size + (layout.per_slot - 1 - done) * sector) sector image (omega arith) free (clean.marked first)
      | inr later ↦
          let r = reach layout.per_slot size sector done (omega arith) layout.product in
          let whole : (layout.per_slot - done) * sector + done * sector ≡ size = r.whole in
          let long : sector ≤ done * sector = r.some (omega arith) in
          let spread : ((layout.per_slot - 1 - done) + 1) * sector ≡ (layout.per_slot - 1 - done) * sector + 1 * sector = add-mul (layout.per_slot - 1 - done) 1 sector in
          let at_top : ((layout.per_slot - 1 - done) + 1) * sector ≡ (layout.per_slot - done) * sector = ap (λ (k : ℕ). k * sector) (omega arith) in
          StaysDown-tail size layout.slots slot (slot * size + (layout.per_slot - 1 - done) * sector) sector image (omega arith) (omega arith)
          (erased_tail layout slot done image (omega arith) (omega arith) clean.erased)
    ]

-- one more sector from the tail
pub IsCleanFromTail-more : (layout : Layout) (slot done : ℕ) (old new : List ℕ) → done < layout.per_slot
    → IsCleanFromTail layout.slot_size layout.sector layout.per_slot slot done old
    → SameOutside (slot * layout.slot_size + (layout.per_slot - 1 - done) * layout.sector) layout.sector old new
    → IsErased new (slot * layout.slot_size + (layout.per_slot - 1 - done) * layout.sector) layout.sector
    → IsCleanFromTail layout.slot_size layout.sector layout.per_slot slot (done + 1) new
IsCleanFromTail-more layout slot done old new within clean same erased =
    let place = slot * layout.slot_size in
    let size = layout.sector in
    let r = reach layout.per_slot layout.slot_size layout.sector done (omega arith) layout.product in
    let last : layout.per_slot - (done + 1) ≡ layout.per_slot - 1 - done = omega arith in
    let spread : ((layout.per_slot - 1 - done) + 1) * size ≡ (layout.per_slot - 1 - done) * size + 1 * size = add-mul (layout.per_slot - 1 - done) 1 size in
    let at_top : ((layout.per_slot - 1 - done) + 1) * size ≡ (layout.per_slot - done) * size = ap (λ (k : ℕ). k * size) (omega arith) in
    let start : place + (layout.per_slot - done) * size ≡ place + (layout.per_slot - 1 - done) * size + size = omega arith in
    let grown : size + done * size ≡ (done + 1) * size = let n = r.next in omega arith in
    record {
      marked = λ none. absurd (omega arith);
      erased =
          let above : IsErased new (place + (layout.per_slot - done) * size) (done * size) =
          IsErased-after (place + (layout.per_slot - 1 - done) * size) size (place + (layout.per_slot - done) * size) (done * size) old new same (omega arith) clean.erased in
          let joined : IsErased new (place + (layout.per_slot - 1 - done) * size) (size + done * size) =
          IsErased-append new (place + (layout.per_slot - 1 - done) * size) size (done * size) erased
          (subst (λ (k : ℕ). IsErased new k (done * size)) start above) in
          subst (λ (k : ℕ). IsErased new (place + k * size) ((done + 1) * size)) (sym last)
          (subst (λ (n : ℕ). IsErased new (place + (layout.per_slot - 1 - done) * size) n) grown joined);
    }
