-- The head, the bytes and the tail mark of a slot that is being filled.
use Rattle.std.proofs.Common.{◌≡◌, ◌≢◌, ℕ, ◌+◌, ◌-◌, ◌*◌, ◌^◌, ◌<◌, ◌≤◌, List, [], ◌∷◌, ◌++◌, length, take, drop, refl, sym, ap, ◌∙◌, arith, length-drop}
use Rattle.std.specs.Prelude.{min}
use Rattle.std.proofs.lemmas.Bool.{eq-eqb}
use Rattle.std.proofs.Math.Seq.{take-add}
use Rattle.std.proofs.lemmas.List.{take_all, take-take, length-take}
use Rattle.base_model.specs.Bytes.{SameOutside, number_at, part, spelled}
use Rattle.base_model.proofs.BytesLemmas.{part-before, part-after, part-append, number_at-part, number_at-after, little-spelled}
use Rattle.base_model.specs.Flash.{IsErased}
use Rattle.record_model.specs.Records.{Head, head_at, tail_at, slot_at, is_part, part_len, first_head, HasPart, gate_open, tail_mark, gate_closed, not_killed}
use Rattle.record_model.specs.Filling.{Target, first_target, part_target, IsBegun, IsFilled}
use Rattle.record_model.proofs.SlotLemmas.{head_at-before, tail_at-after, erased_byte}
use Rattle.base_model.proofs.ErasedLemmas.{IsErased-within, IsErased-after}
use Rattle.record_model.proofs.FillLemmas.{StaysDown-gate, StaysDown-tail}
use Rattle.record_model.proofs.MarkLemmas.{tail_is_not_erased}
use Rattle.record_model.proofs.Words.{StaysDown}

-- the first 26 bytes of a slot
abbrev pub head_26 : ℕ → ℕ → ℕ → ℕ → ℕ → ℕ → ℕ → ℕ → ℕ → List ℕ
head_26 gate kill format generation id len a b c =
    gate ∷ kill ∷ (spelled 2 format ++ spelled 4 generation ++ spelled 8 id ++ spelled 4 len ++ spelled 2 a ++ spelled 2 b ++ spelled 2 c)

-- numbers that fit their fields
pub record FitFields (format generation id len a b c : ℕ) : Type 0 where
  pub format_fits : format < 2 ^ 16
  pub generation_fits : generation < 2 ^ 32
  pub id_fits : id < 2 ^ 64
  pub len_fits : len < 2 ^ 32
  pub a_fits : a < 2 ^ 16
  pub b_fits : b < 2 ^ 16
  pub c_fits : c < 2 ^ 16

at_field : (image : List ℕ) (place inner n x : ℕ) (bytes : List ℕ) → part image place 26 ≡ bytes → inner + n ≤ 26 → number_at bytes inner n ≡ x → number_at image (place + inner) n ≡ x
at_field image place inner n x bytes stands fits is =
    sym (number_at-part image place 26 inner n fits) ∙ ap (λ (xs : List ℕ). number_at xs inner n) stands ∙ is

pub head_read : (image : List ℕ) (place gate kill format generation id len a b c : ℕ) → FitFields format generation id len a b c
    → part image place 26 ≡ head_26 gate kill format generation id len a b c
    → head_at image place ≡ record { gate = gate; kill = kill; format = format; generation = generation; id = id; len = len; next = a ∷ b ∷ c ∷ [] }
unfolding head_at number_at part spelled
head_read image place gate kill format generation id len a b c fits stands =
    let bytes = head_26 gate kill format generation id len a b c in
    let at_gate = ap (λ (k : ℕ). number_at image k 1) (omega arith) ∙ at_field image place 0 1 gate bytes stands (omega arith) (omega arith) in
    let at_kill = at_field image place 1 1 kill bytes stands (omega arith) (omega arith) in
    let at_format = at_field image place 2 2 format bytes stands (omega arith) (little-spelled 2 format fits.format_fits) in
    let at_generation = at_field image place 4 4 generation bytes stands (omega arith) (little-spelled 4 generation fits.generation_fits) in
    let at_id = at_field image place 8 8 id bytes stands (omega arith) (little-spelled 8 id fits.id_fits) in
    let at_len = at_field image place 16 4 len bytes stands (omega arith) (little-spelled 4 len fits.len_fits) in
    let at_a = at_field image place 20 2 a bytes stands (omega arith) (little-spelled 2 a fits.a_fits) in
    let at_b = at_field image place 22 2 b bytes stands (omega arith) (little-spelled 2 b fits.b_fits) in
    let at_c = at_field image place 24 2 c bytes stands (omega arith) (little-spelled 2 c fits.c_fits) in
    λ i. record { gate = at_gate i; kill = at_kill i; format = at_format i; generation = at_generation i; id = at_id i; len = at_len i; next = at_a i ∷ at_b i ∷ at_c i ∷ [] }

part-nothing : (image : List ℕ) (at : ℕ) → part image at 0 ≡ []
unfolding part
part-nothing image at = refl

-- bytes 2 to 25 of a first slot were programmed into an erased slot
pub IsBegun-first : (size : ℕ) (target : Target) (format generation id len a b c : ℕ) (old new : List ℕ) → 512 ≤ size
    → target.head ≡ record { gate = gate_closed; kill = not_killed; format = format; generation = generation; id = id; len = len; next = a ∷ b ∷ c ∷ [] }
    → FitFields format generation id len a b c → IsErased old (target.slot * size) size → SameOutside (target.slot * size + 2) 24 old new
    → part new (target.slot * size + 2) 24 ≡ spelled 2 format ++ spelled 4 generation ++ spelled 8 id ++ spelled 4 len ++ spelled 2 a ++ spelled 2 b ++ spelled 2 c
    → IsBegun size target 0 new
IsBegun-first size target format generation id len a b c old new large is fits blank same fields =
    let place = target.slot * size in
    let front : part new place 2 ≡ gate_closed ∷ not_killed ∷ [] =
    part-before (place + 2) 24 place 2 old new same (omega arith) ∙ IsErased-within old place size place 2 blank (omega arith) (omega arith) in
    let whole : part new place 26 ≡ head_26 gate_closed not_killed format generation id len a b c =
    sym (part-append new place 2 24) ∙ ap (λ (xs : List ℕ). xs ++ part new (place + 2) 24) front ∙ ap (λ (xs : List ℕ). gate_closed ∷ not_killed ∷ xs) fields in
    record {
      head = head_read new place gate_closed not_killed format generation id len a b c fits whole ∙ sym is;
      begun = part-nothing new (place + 32);
      rest = IsErased-after (place + 2) 24 (place + 32 + 0) (size - 32 - 0) old new same (omega arith)
          (IsErased-within old place size (place + 32 + 0) (size - 32 - 0) blank (omega arith) (omega arith));
    }

-- bytes 0 to 23 of a further slot were
pub IsBegun-further : (size : ℕ) (target : Target) (gate kill format generation id len a b : ℕ) (old new : List ℕ) → 512 ≤ size
    → target.head ≡ record { gate = gate; kill = kill; format = format; generation = generation; id = id; len = len; next = a ∷ b ∷ 0xFFFF ∷ [] }
    → FitFields format generation id len a b 0xFFFF → IsErased old (target.slot * size) size → SameOutside (target.slot * size) 24 old new
    → part new (target.slot * size) 24 ≡ gate ∷ kill ∷ (spelled 2 format ++ spelled 4 generation ++ spelled 8 id ++ spelled 4 len ++ spelled 2 a ++ spelled 2 b)
    → IsBegun size target 0 new
unfolding spelled
IsBegun-further size target gate kill format generation id len a b old new large is fits blank same fields =
    let place = target.slot * size in
    let behind : part new (place + 24) 2 ≡ 0xFF ∷ 0xFF ∷ [] =
    part-after place 24 (place + 24) 2 old new same (omega arith) ∙ IsErased-within old place size (place + 24) 2 blank (omega arith) (omega arith) in
    let whole : part new place 26 ≡ head_26 gate kill format generation id len a b 0xFFFF =
    sym (part-append new place 24 2) ∙ ap (λ (xs : List ℕ). xs ++ part new (place + 24) 2) fields
    ∙ ap (λ (xs : List ℕ). (gate ∷ kill ∷ (spelled 2 format ++ spelled 4 generation ++ spelled 8 id ++ spelled 4 len ++ spelled 2 a ++ spelled 2 b)) ++ xs) behind in
    record {
      head = head_read new place gate kill format generation id len a b 0xFFFF fits whole ∙ sym is;
      begun = part-nothing new (place + 32);
      rest = IsErased-after place 24 (place + 32 + 0) (size - 32 - 0) old new same (omega arith)
          (IsErased-within old place size (place + 32 + 0) (size - 32 - 0) blank (omega arith) (omega arith));
    }

-- the next bytes of the part were programmed
pub IsBegun-more : (size : ℕ) (target : Target) (count more : ℕ) (old new : List ℕ) → 512 ≤ size → count + more ≤ size - 64
    → IsBegun size target count old → SameOutside (target.slot * size + 32 + count) more old new
    → part new (target.slot * size + 32 + count) more ≡ take more (drop count target.bytes)
    → IsBegun size target (count + more) new
IsBegun-more size target count more old new large fits begun same here =
    let place = target.slot * size in
    let at = place + 32 + count in
    record {
      head = head_at-before at more place old new same (omega arith) ∙ begun.head;
      begun = sym (part-append new (place + 32) count more)
          ∙ ap (λ (xs : List ℕ). xs ++ part new at more) (part-before at more (place + 32) count old new same (omega arith) ∙ begun.begun)
          ∙ ap (λ (xs : List ℕ). take count target.bytes ++ xs) here
          ∙ sym (take-add count more target.bytes);
      rest = IsErased-after at more (place + 32 + (count + more)) (size - 32 - (count + more)) old new same (omega arith)
          (IsErased-within old at (size - 32 - count) (place + 32 + (count + more)) (size - 32 - (count + more)) begun.rest (omega arith) (omega arith));
    }

-- the tail mark was programmed behind the whole part
pub IsFilled-tail : (size : ℕ) (target : Target) (old new : List ℕ) → 512 ≤ size → length target.bytes ≤ size - 64
    → IsBegun size target (length target.bytes) old → SameOutside (target.slot * size + (size - 1)) 1 old new → tail_at new (target.slot * size) size ≡ tail_mark
    → IsFilled size target new
IsFilled-tail size target old new large room begun same tail =
    let place = target.slot * size in
    record {
      head = head_at-before (place + (size - 1)) 1 place old new same (omega arith) ∙ begun.head;
      bytes = part-before (place + (size - 1)) 1 (place + 32) (length target.bytes) old new same (omega arith) ∙ begun.begun
          ∙ take_all (length target.bytes) target.bytes (omega arith);
      tail = tail;
    }

-- the tail mark of an erased slot, and of one of which the part is begun, is not set
erased_mark : (size slot place len : ℕ) (image : List ℕ) → IsErased image place len → place ≤ slot * size + (size - 1) → slot * size + (size - 1) < place + len
    → tail_at image (slot * size) size ≢ tail_mark
unfolding tail_at
erased_mark size slot place len image erased low high marked =
    tail_is_not_erased marked (erased_byte image place len (slot * size + (size - 1)) erased low high)

-- so the slot stays down while its head, and while its part, is programmed, whatever is torn
pub StaysDown-erased : (size slots slot at len : ℕ) (image : List ℕ) → 512 ≤ size → IsErased image (slot * size) size → at + len ≤ slot * size + (size - 1) → StaysDown at len size slots slot image
StaysDown-erased size slots slot at len image large blank high =
    StaysDown-tail size slots slot at len image (omega arith) high (erased_mark size slot (slot * size) size image blank (omega arith) (omega arith))

pub StaysDown-begun : (size slots : ℕ) (target : Target) (count at len : ℕ) (image : List ℕ) → 512 ≤ size → count ≤ size - 64 → IsBegun size target count image
    → at + len ≤ target.slot * size + (size - 1) → StaysDown at len size slots target.slot image
StaysDown-begun size slots target count at len image large fits begun high =
    StaysDown-tail size slots target.slot at len image (omega arith) high
    (erased_mark size target.slot (target.slot * size + 32 + count) (size - 32 - count) image begun.rest (omega arith) (omega arith))

gate_is : (image : List ℕ) (place : ℕ) → number_at image place 1 ≡ (head_at image place).gate
unfolding head_at
gate_is image place = refl

-- and while its tail mark is, since the gate of no target is open
pub StaysDown-mark : (size slots : ℕ) (target : Target) (count at len : ℕ) (image : List ℕ) → target.head.gate ≢ gate_open → IsBegun size target count image
    → target.slot * size + 1 ≤ at → StaysDown at len size slots target.slot image
StaysDown-mark size slots target count at len image closed begun low =
    StaysDown-gate size slots target.slot at len image low
    (λ is. closed (ap (λ (h : Head). h.gate) (sym begun.head) ∙ sym (gate_is image (target.slot * size)) ∙ is))

pub length-bytes : (room number : ℕ) (body : List ℕ) → length (part body (number * room) (part_len room (length body) number)) ≡ part_len room (length body) number
unfolding part part_len
length-bytes room number body =
    let cut = length-take (min room (length body - number * room)) (drop (number * room) body) in
    let left = length-drop (number * room) body in
    omega arith

pub length-first : (room : ℕ) (body : List ℕ) → length (part body 0 (part_len room (length body) 0)) ≡ part_len room (length body) 0
unfolding part part_len
length-first room body =
    let cut = length-take (min room (length body - 0 * room)) (drop 0 body) in
    let left = length-drop 0 body in
    omega arith

-- the bytes of a filled slot, as far as they are seen
filled_body : (size slot : ℕ) (bytes image : List ℕ) (n : ℕ) → length bytes ≡ n → n ≤ size - 64 → part image (slot * size + 32) (length bytes) ≡ bytes
    → take n (slot_at size image slot).body ≡ bytes
unfolding slot_at part
filled_body size slot bytes image n long fits is =
    take-take n (size - 64) (drop (slot * size + 32) image) fits ∙ ap (λ (m : ℕ). take m (drop (slot * size + 32) image)) (sym long) ∙ is

pub part_len-le : (room len number : ℕ) → part_len room len number ≤ room
unfolding part_len
part_len-le room len number = omega arith

-- a further slot that is filled has its part
pub HasPart-filled : (size k id generation number slot : ℕ) (further body image : List ℕ) → IsFilled size (part_target (size - 64) k id generation body number slot) image
    → HasPart (size - 64) k id generation further body number (slot_at size image slot)
unfolding is_part slot_at
HasPart-filled size k id generation number slot further body image filled = record {
  is =
      ap (λ (h : Head). is_part (size - 64) k (first_head id generation further body) number (record {
        head = h;
        tail = tail_at image (slot * size) size;
        body =
            part image (slot * size + 32) (size - 64);
      })) filled.head
      ∙ ap (λ (t : ℕ). is_part (size - 64) k (first_head id generation further body) number
      (record { head = (part_target (size - 64) k id generation body number slot).head; tail = t; body = part image (slot * size + 32) (size - 64) }))
      filled.tail
      ∙ (rw (
        eq-eqb generation generation refl,
        eq-eqb id id refl,
        eq-eqb (part_len (size - 64) (length body) number) (part_len (size - 64) (length body) number) refl,
        eq-eqb number number refl,
        eq-eqb k k refl,
      ) refl);
  its_body = filled_body size slot (part body (number * (size - 64)) (part_len (size - 64) (length body) number)) image (part_len (size - 64) (length body) number)
      (length-bytes (size - 64) number body) (part_len-le (size - 64) (length body) number) filled.bytes;
}

-- a first slot that is filled, behind its gate
pub record StandsFirst (size k id generation : ℕ) (further body image : List ℕ) : Type 0 where
  pub head : (slot_at size image k).head ≡ first_head id generation further body
  pub tail : (slot_at size image k).tail ≡ tail_mark
  pub bytes : take (part_len (size - 64) (length body) 0) (slot_at size image k).body ≡ part body 0 (part_len (size - 64) (length body) 0)

with_gate : (image : List ℕ) (place gate : ℕ) (old : List ℕ) → SameOutside place 1 old image → number_at image place 1 ≡ gate
    → head_at image place ≡ record (head_at old place) { gate = gate }
unfolding head_at
with_gate image place gate old same is =
    let kill = number_at-after place 1 (place + 1) 1 old image same (omega arith) in
    let format = number_at-after place 1 (place + 2) 2 old image same (omega arith) in
    let generation = number_at-after place 1 (place + 4) 4 old image same (omega arith) in
    let id = number_at-after place 1 (place + 8) 8 old image same (omega arith) in
    let len = number_at-after place 1 (place + 16) 4 old image same (omega arith) in
    let one = number_at-after place 1 (place + 20) 2 old image same (omega arith) in
    let two = number_at-after place 1 (place + 22) 2 old image same (omega arith) in
    let three = number_at-after place 1 (place + 24) 2 old image same (omega arith) in
    λ i. record { gate = is i; kill = kill i; format = format i; generation = generation i; id = id i; len = len i; next = one i ∷ two i ∷ three i ∷ [] }

pub StandsFirst-opened : (size k id generation : ℕ) (further body old new : List ℕ) → 512 ≤ size → IsFilled size (first_target (size - 64) k id generation further body) old
    → SameOutside (k * size) 1 old new → number_at new (k * size) 1 ≡ gate_open → StandsFirst size k id generation further body new
unfolding slot_at
StandsFirst-opened size k id generation further body old new large filled same gate = record {
  head = with_gate new (k * size) gate_open old same gate ∙ ap (λ (h : Head). record h { gate = gate_open }) filled.head;
  tail = tail_at-after (k * size) 1 (k * size) size old new same (omega arith) (omega arith) ∙ filled.tail;
  bytes = ap (take (part_len (size - 64) (length body) 0)) (part-after (k * size) 1 (k * size + 32) (size - 64) old new same (omega arith)) ∙ first_body;
}
  where
    first_body : take (part_len (size - 64) (length body) 0) (slot_at size old k).body ≡ part body 0 (part_len (size - 64) (length body) 0)
    first_body = filled_body size k (part body 0 (part_len (size - 64) (length body) 0)) old (part_len (size - 64) (length body) 0)
        (length-first (size - 64) body) (part_len-le (size - 64) (length body) 0) filled.bytes
