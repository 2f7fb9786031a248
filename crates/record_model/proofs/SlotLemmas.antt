-- What a change of bytes does to what is seen of a slot. Nothing above these lemmas speaks of a slot's bytes.
use Rattle.std.proofs.Common.{◌≡◌, ◌≢◌, ℕ, ◌+◌, ◌-◌, ◌*◌, ◌<◌, ◌≤◌, true, false, List, [], ◌∷◌, ◌++◌, replicate, Option, sym, ap, ◌∙◌, arith, inl, inr}
use Rattle.std.specs.Prelude.{take, drop}
use Rattle.std.proofs.Math.Nat.{add-mul, mul_comm, mul-le-mul_right}
use Rattle.std.proofs.lemmas.List.{take-replicate, drop-replicate, replicate-append-replicate}
use Rattle.std.proofs.lemmas.Bool.{cases_eq, cases_order, eqb-true, and_parts, both_ways, false_from_ne_true}
use Rattle.base_model.specs.Bytes.{part, little, number_at, SameOutside}
use Rattle.base_model.proofs.BytesLemmas.{part-before, part-after, number_at-before, number_at-after, part-part, part-append, SameOutside-wider}
use Rattle.base_model.specs.Flash.{IsErased}
use Rattle.base_model.proofs.ErasedLemmas.{slots_apart}
use Rattle.record_model.specs.Records.{Head, Slot, head_at, tail_at, is_upright, slot_at, is_up, Entry, entry_at, selected, stored_in, is_taken, OnlyFirstUp, gate_open, tail_mark, not_killed}
use Rattle.record_model.proofs.LiveLemmas.{law_entries, law_only, IsKilled}
use Rattle.record_model.proofs.Words.{DiffersInFreeSlot}

-- a slot lies within all of them
pub slot_within : (slot size slots : ℕ) → slot < slots → slot * size + size ≤ size * slots
slot_within slot size slots h =
    let below = slots_apart slot slots size h in
    let turned = mul_comm size slots in
    omega arith

-- a head whose numbers are the same is the same
head_at-same : (at : ℕ) (old new : List ℕ) → ((place n : ℕ) → at ≤ place → place + n ≤ at + 26 → number_at new place n ≡ number_at old place n) → head_at new at ≡ head_at old at
unfolding head_at
head_at-same at old new same =
    let gate = same at 1 (omega arith) (omega arith) in
    let kill = same (at + 1) 1 (omega arith) (omega arith) in
    let format = same (at + 2) 2 (omega arith) (omega arith) in
    let generation = same (at + 4) 4 (omega arith) (omega arith) in
    let id = same (at + 8) 8 (omega arith) (omega arith) in
    let size = same (at + 16) 4 (omega arith) (omega arith) in
    let one = same (at + 20) 2 (omega arith) (omega arith) in
    let two = same (at + 22) 2 (omega arith) (omega arith) in
    let three = same (at + 24) 2 (omega arith) (omega arith) in
    λ i. record { gate = gate i; kill = kill i; format = format i; generation = generation i; id = id i; len = size i; next = one i ∷ two i ∷ three i ∷ [] }

-- a head or a tail mark outside the range is the same
pub head_at-before : (place len at : ℕ) (old new : List ℕ) → SameOutside place len old new → at + 26 ≤ place → head_at new at ≡ head_at old at
head_at-before place len at old new same h = head_at-same at old new (λ k n from to. number_at-before place len k n old new same (omega arith))

pub head_at-after : (place len at : ℕ) (old new : List ℕ) → SameOutside place len old new → place + len ≤ at → head_at new at ≡ head_at old at
head_at-after place len at old new same h = head_at-same at old new (λ k n from to. number_at-after place len k n old new same (omega arith))

pub tail_at-before : (place len at size : ℕ) (old new : List ℕ) → SameOutside place len old new → 1 ≤ size → at + size ≤ place → tail_at new at size ≡ tail_at old at size
unfolding tail_at
tail_at-before place len at size old new same some h = number_at-before place len (at + (size - 1)) 1 old new same (omega arith)

pub tail_at-after : (place len at size : ℕ) (old new : List ℕ) → SameOutside place len old new → 1 ≤ size → place + len ≤ at + (size - 1) → tail_at new at size ≡ tail_at old at size
unfolding tail_at
tail_at-after place len at size old new same some h = number_at-after place len (at + (size - 1)) 1 old new same h

-- slots of which the same is seen
seen_same : (a b : Slot) → a.head ≡ b.head → a.tail ≡ b.tail → a.body ≡ b.body → a ≡ b
seen_same a b head tail body = λ i. record { head = head i; tail = tail i; body = body i }

-- a change within slot j leaves what is seen of every other slot
pub slot_at-other : (size j k : ℕ) (old new : List ℕ) → 64 ≤ size → SameOutside (j * size) size old new → k ≢ j → slot_at size new k ≡ slot_at size old k
unfolding slot_at
slot_at-other size j k old new some same apart = elim (cases_order k j) [
  | inl equal ↦ absurd (apart equal)
  | inr order ↦ elim order [
    | inl before ↦
        let gap = slots_apart k j size before in
        seen_same (slot_at size new k) (slot_at size old k) (head_at-before (j * size) size (k * size) old new same (omega arith))
        (tail_at-before (j * size) size (k * size) size old new same (omega arith) (omega arith))
        (part-before (j * size) size (k * size + 32) (size - 64) old new same (omega arith))
    | inr after ↦
        let gap = slots_apart j k size after in
        seen_same (slot_at size new k) (slot_at size old k) (head_at-after (j * size) size (k * size) old new same (omega arith))
        (tail_at-after (j * size) size (k * size) size old new same (omega arith) (omega arith))
        (part-after (j * size) size (k * size + 32) (size - 64) old new same (omega arith))
  ]
]

-- what an upright slot has
pub record UprightParts (head : Head) (tail : ℕ) : Type 0 where
  pub gate : head.gate ≡ gate_open
  pub kill : head.kill ≡ not_killed
  pub mark : tail ≡ tail_mark

pub upright_parts : (room slots : ℕ) (head : Head) (tail : ℕ) → is_upright room slots head tail ≡ true → UprightParts head tail
unfolding is_upright
upright_parts room slots head tail up =
    let a = and_parts _ _ up in
    let b = and_parts _ _ a.0 in
    let c = and_parts _ _ b.0 in
    let d = and_parts _ _ c.0 in
    let e = and_parts _ _ d.0 in
    record { gate = eqb-true head.gate gate_open e.0; kill = eqb-true head.kill not_killed e.1; mark = eqb-true tail tail_mark d.1 }

-- a slot is not upright with its gate closed, without its tail mark, or killed
pub down_by_gate : (size slots k : ℕ) (image : List ℕ) → number_at image (k * size) 1 ≢ gate_open → is_up (size - 64) slots (slot_at size image k) ≡ false
unfolding is_up slot_at head_at
down_by_gate size slots k image gate = false_from_ne_true _ (λ up. gate (upright_parts (size - 64) slots (head_at image (k * size)) (tail_at image (k * size) size) up).gate)

pub down_by_tail : (size slots k : ℕ) (image : List ℕ) → tail_at image (k * size) size ≢ tail_mark → is_up (size - 64) slots (slot_at size image k) ≡ false
unfolding is_up slot_at
down_by_tail size slots k image mark = false_from_ne_true _ (λ up. mark (upright_parts (size - 64) slots (head_at image (k * size)) (tail_at image (k * size) size) up).mark)

pub down_by_kill : (size slots k : ℕ) (image : List ℕ) → number_at image (k * size + 1) 1 ≢ not_killed → is_up (size - 64) slots (slot_at size image k) ≡ false
unfolding is_up slot_at head_at
down_by_kill size slots k image mark = false_from_ne_true _ (λ up. mark (upright_parts (size - 64) slots (head_at image (k * size)) (tail_at image (k * size) size) up).kill)

-- one with its tail mark is not upright by its head, whatever becomes of the mark
pub down_by_head : (size slots k : ℕ) (old new : List ℕ) → is_up (size - 64) slots (slot_at size old k) ≡ false → tail_at old (k * size) size ≡ tail_mark
    → head_at new (k * size) ≡ head_at old (k * size) → is_up (size - 64) slots (slot_at size new k) ≡ false
unfolding is_up slot_at
down_by_head size slots k old new down mark same = false_from_ne_true _ (λ up.
    both_ways (is_upright (size - 64) slots (head_at old (k * size)) (tail_at old (k * size) size)) down
    (ap (is_upright (size - 64) slots (head_at old (k * size))) (mark ∙ sym (upright_parts (size - 64) slots (head_at new (k * size)) (tail_at new (k * size) size) up).mark)
    ∙ ap (λ (h : Head). is_upright (size - 64) slots h (tail_at new (k * size) size)) (sym same) ∙ up))

-- the law on an image: it differs from the first one only in a slot that is free in it, and is not upright there
pub differs_entries : (size slots j : ℕ) (first image : List ℕ) → 64 ≤ size → j < slots → OnlyFirstUp size slots first → is_taken (entry_at size slots first) slots j ≡ false
    → DiffersInFreeSlot size slots j first image → entry_at size slots image ≡ entry_at size slots first
unfolding entry_at
differs_entries size slots j first image some within only free differs =
    law_entries (size - 64) slots (slot_at size first) (slot_at size image) j only free
    (λ n apart. slot_at-other size j n first image some differs.same apart) differs.down within

pub differs_only : (size slots j : ℕ) (first image : List ℕ) → 64 ≤ size → j < slots → OnlyFirstUp size slots first → is_taken (entry_at size slots first) slots j ≡ false
    → DiffersInFreeSlot size slots j first image → OnlyFirstUp size slots image
unfolding entry_at
differs_only size slots j first image some within only free differs =
    law_only (size - 64) slots (slot_at size first) (slot_at size image) j only free
    (λ n apart. slot_at-other size j n first image some differs.same apart) differs.down within

pub differs_stored : (size slots j : ℕ) (first image : List ℕ) → 64 ≤ size → j < slots → OnlyFirstUp size slots first → is_taken (entry_at size slots first) slots j ≡ false
    → DiffersInFreeSlot size slots j first image → stored_in size slots image ≡ stored_in size slots first
unfolding stored_in
differs_stored size slots j first image some within only free differs =
    ap (λ (entry : ℕ → Option Entry). selected entry slots) (differs_entries size slots j first image some within only free differs)

-- a byte of an erased range
pub erased_byte : (image : List ℕ) (place len at : ℕ) → IsErased image place len → place ≤ at → at < place + len → number_at image at 1 ≡ 0xFF
unfolding number_at part
erased_byte image place len at erased low high =
    let inner : place + (at - place) ≡ at = omega arith in
    let fits : (at - place) + 1 ≤ len = omega arith in
    let rest : 1 ≤ len - (at - place) = omega arith in
    ap (λ (k : ℕ). little (part image k 1)) (sym inner)
    ∙ ap little (sym (part-part image place len (at - place) 1 fits))
    ∙ ap (λ (xs : List ℕ). little (take 1 (drop (at - place) xs))) erased
    ∙ ap (λ (xs : List ℕ). little (take 1 xs)) (drop-replicate (at - place) len 0xFF)
    ∙ ap little (take-replicate 1 (len - (at - place)) 0xFF rest)

-- a change of the kill byte of an upright slot: it is as it was, or not upright
pub kill_byte : (size slots j : ℕ) (old new : List ℕ) → 64 ≤ size → is_up (size - 64) slots (slot_at size old j) ≡ true → SameOutside (j * size + 1) 1 old new
    → IsKilled (size - 64) slots (slot_at size old) (slot_at size new) j
unfolding slot_at is_up head_at tail_at
kill_byte size slots j old new some up same = record {
  same = λ n apart. slot_at-other size j n old new some (SameOutside-wider (j * size + 1) 1 (j * size) size old new (omega arith) (omega arith) same) apart;
  up = up;
  gate = gate;
  here = elim (cases_eq (number_at new (j * size + 1) 1) not_killed) [
    | inr apart ↦ inr (down_by_kill size slots j new apart)
    | inl mark ↦ inl (stays (mark ∙ sym (upright_parts (size - 64) slots (head_at old (j * size)) (tail_at old (j * size) size) up).kill))
  ];
}
  where
    gate : number_at new (j * size) 1 ≡ number_at old (j * size) 1
    gate = number_at-before (j * size + 1) 1 (j * size) 1 old new same (omega arith)

    stays : number_at new (j * size + 1) 1 ≡ number_at old (j * size + 1) 1 → slot_at size new j ≡ slot_at size old j
    stays mark =
        let at = j * size in
        let format = number_at-after (at + 1) 1 (at + 2) 2 old new same (omega arith) in
        let generation = number_at-after (at + 1) 1 (at + 4) 4 old new same (omega arith) in
        let id = number_at-after (at + 1) 1 (at + 8) 8 old new same (omega arith) in
        let len = number_at-after (at + 1) 1 (at + 16) 4 old new same (omega arith) in
        let one = number_at-after (at + 1) 1 (at + 20) 2 old new same (omega arith) in
        let two = number_at-after (at + 1) 1 (at + 22) 2 old new same (omega arith) in
        let three = number_at-after (at + 1) 1 (at + 24) 2 old new same (omega arith) in
        let tail = number_at-after (at + 1) 1 (at + (size - 1)) 1 old new same (omega arith) in
        let body = part-after (at + 1) 1 (at + 32) (size - 64) old new same (omega arith) in
        λ i. record {
          head = record { gate = gate i; kill = mark i; format = format i; generation = generation i; id = id i; len = len i; next = one i ∷ two i ∷ three i ∷ [] };
          tail = tail i;
          body = body i;
        }
