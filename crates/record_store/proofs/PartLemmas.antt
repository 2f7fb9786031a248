-- A record that is read part by part.
use Rattle.std.proofs.Common.{◌≡◌, ℕ, zero, suc, ◌+◌, ◌-◌, ◌*◌, ◌/◌, ◌%◌, ◌<◌, ◌≤◌, min, List, [], ◌∷◌, ◌++◌, length, take, drop, get_or, Some, refl, sym, ap}
use Rattle.std.proofs.Common.{◌∙◌, arith, inl, inr, length-append, length-drop}
use Rattle.std.proofs.Math.Nat.{add-mul, mul-le-mul_right}
use Rattle.std.proofs.lemmas.Nat.{div-add-mod'}
use Rattle.std.proofs.lemmas.Bool.{cases_lt}
use Rattle.std.proofs.lemmas.Slice.{take-put_mid}
use borrow.Rule.Slice.PartMut.{put_mid}
use Rattle.std.proofs.lemmas.List.{length-take, take_all, take_more}
use Rattle.flash_model.specs.declared.geometry.Geometry.{Geometry}
use Rattle.base_model.specs.Flash.{FlashState}
use Rattle.base_model.specs.Layout.{reach_of}
use Rattle.record_model.specs.Records.{Entry, Slot, slot_at, entry_at, record_of, parts_of, part_len, parts_joined}
use Rattle.record_model.proofs.LiveLemmas.{live_record}
use Rattle.record_model.proofs.PartsLemmas.{parts_of-few, parts_of-some, parts_of-enough, parts_joined-push, entry_len}
use Rattle.record_slots.specs.declared.found.SlotOf.{SlotOf}
use Rattle.record_store.specs.Index.{IsEntryOf, slots_at}
use Rattle.record_store.specs.Reading.{slot_of_part, bytes_at}
use Rattle.record_store.proofs.IndexLemmas.{slots_of_entry}
use Rattle.record_store.proofs.ReadLemmas.{HasRead}

-- a record has one part to four
pub record PartsOf (geometry : Geometry) (len : ℕ) : Type 0 where
  pub some : 1 ≤ parts_of (geometry.slot_size - 64) len
  pub few : parts_of (geometry.slot_size - 64) len ≤ 4
  pub enough : len ≤ parts_of (geometry.slot_size - 64) len * (geometry.slot_size - 64)

reach_le : (room : ℕ) → reach_of room ≤ 4 * room
unfolding reach_of
reach_le room = omega arith

pub reach_small : (room : ℕ) → reach_of room ≤ 65536
unfolding reach_of
reach_small room = omega arith

pub parts_of_len : (geometry : Geometry) (len : ℕ) → 128 ≤ len → len ≤ reach_of (geometry.slot_size - 64) → PartsOf geometry len
parts_of_len geometry len least most =
    let room = geometry.slot_size - 64 in
    let large : 512 ≤ geometry.slot_size = geometry.least_slot in
    let reach = reach_le room in
    record {
      some = parts_of-some room len (omega arith) (omega arith);
      few = parts_of-few room len (omega arith) (omega arith);
      enough = parts_of-enough room len (omega arith);
    }

-- so many further slots are named
pub further_count : (room : ℕ) (place : SlotOf) → length place.next ≡ 3 → parts_of room place.len ≤ 4 → 1 ≤ parts_of room place.len → length (slots_at room place) ≡ parts_of room place.len
further_count room place three few some = let t = length-take (parts_of room place.len - 1) place.next in omega arith

-- the slot of a part is the one at its number
get_take : (xs : List ℕ) (n i : ℕ) → i < n → get_or (take n xs) i 0 ≡ get_or xs i 0
get_take xs zero i h = absurd (omega arith)
get_take [] (suc n) i h = refl
get_take (x ∷ xs) (suc n) zero h = refl
get_take (x ∷ xs) (suc n) (suc i) h = get_take xs n i (omega arith)

pub slot_is : (room : ℕ) (place : SlotOf) (number : ℕ) → number < parts_of room place.len → get_or (slots_at room place) number 0 ≡ slot_of_part place number
slot_is room place zero h = refl
slot_is room place (suc n) h = get_take place.next (parts_of room place.len - 1) n (omega arith)

-- the parts in the first slots and in one more
pub joined_more : (room len : ℕ) (slot : ℕ → Slot) (slots : List ℕ) (number n : ℕ) → number < length slots → get_or slots number 0 ≡ n
    → parts_joined room len slot 0 (take (number + 1) slots) ≡ parts_joined room len slot 0 (take number slots) ++ take (part_len room len number) (slot n).body
joined_more room len slot slots number n h is =
    let front = length-take number slots in
    let long : 0 + length (take number slots) ≡ number = omega arith in
    ap (parts_joined room len slot 0) (take_more slots number 0 h)
    ∙ parts_joined-push room len slot 0 (take number slots) (get_or slots number 0)
    ∙ ap (λ (m : ℕ). parts_joined room len slot 0 (take number slots) ++ take (part_len room len m) (slot (get_or slots number 0)).body) long
    ∙ ap (λ (m : ℕ). parts_joined room len slot 0 (take number slots) ++ take (part_len room len number) (slot m).body) is

-- the parts in all slots
pub joined_all : (room : ℕ) (place : SlotOf) (slot : ℕ → Slot) (buffer : List ℕ) (n : ℕ) → length (slots_at room place) ≡ parts_of room place.len →
    n ≡ parts_of room place.len → length buffer ≡ place.len → place.len ≤ parts_of room place.len * room
    → take (n * room) buffer ≡ parts_joined room place.len slot 0 (take n (slots_at room place)) → buffer ≡ parts_joined room place.len slot 0 (slots_at room place)
joined_all room place slot buffer n count is long enough same =
    let whole : n * room ≡ parts_of room place.len * room = ap (λ (m : ℕ). m * room) is in
    sym (take_all (n * room) buffer (omega arith)) ∙ same ∙ ap (parts_joined room place.len slot 0) (take_all n (slots_at room place) (omega arith))

-- a part that is read into its place, up to the end of the part, which is the end of the whole where the part is the last one
part_put : (before piece : List ℕ) (start k end : ℕ) → start + k ≤ length before → length piece ≡ k → min end (length before) ≡ start + k
    → take end (put_mid start k before piece) ≡ take start before ++ piece
part_put before piece start k end fits long ends = elim (cases_lt end (length before)) [
  | inl inside ↦ take-put_mid start k before piece end (omega arith) (omega arith)
  | inr past ↦
      let front = length-take start before in
      let behind = length-drop start before in
      let rest = length-drop k (drop start before) in
      let last = length-append piece (drop k (drop start before)) in
      let all = length-append (take start before) (piece ++ drop k (drop start before)) in
      take_all end (put_mid start k before piece) (omega arith) ∙ sym (take_all (start + k) (put_mid start k before piece) (omega arith))
      ∙ take-put_mid start k before piece (start + k) (omega arith) (omega arith)
]

-- the first parts were read into a buffer
pub record HasReadParts (tells : Type 0) (geometry : Geometry) (place : SlotOf) (n : ℕ) (old now : FlashState) (buffer : List ℕ) : Type 0 where
  pub reads : HasRead tells n old now
  pub whole : length buffer ≡ place.len
  pub bytes : tells → take (n * (geometry.slot_size - 64)) buffer
      ≡ parts_joined (geometry.slot_size - 64) place.len (slot_at geometry.slot_size old.told.image) 0 (take n (slots_at (geometry.slot_size - 64) place))

-- a part lies within the record
pub record PartFits (room len number : ℕ) : Type 0 where
  pub start : number * room < len
  pub end : number * room + part_len room len number ≤ len
  pub short : part_len room len number ≤ room
  pub ends : min ((number + 1) * room) len ≡ number * room + part_len room len number

pub part_fits : (room len number : ℕ) → 1 ≤ room → number < parts_of room len → PartFits room len number
unfolding parts_of part_len
part_fits room len number some h =
    let whole : (len + (room - 1)) / room * room + (len + (room - 1)) % room ≡ len + (room - 1) = div-add-mod' (len + (room - 1)) room in
    let below : (number + 1) * room ≤ (len + (room - 1)) / room * room = mul-le-mul_right room (omega arith) in
    let next : (number + 1) * room ≡ number * room + 1 * room = add-mul number 1 room in
    let one : 1 * room ≡ room = omega arith in
    record { start = omega arith; end = omega arith; short = omega arith; ends = omega arith }

-- a slice of a buffer that a part was read into
pub part_read : (room len number start k : ℕ) (before piece image_part : List ℕ) → PartFits room len number → start ≡ number * room → k ≡ part_len room len number → length before ≡ len
    → length piece ≡ k → piece ≡ image_part → take ((number + 1) * room) (put_mid start k before piece) ≡ take (number * room) before ++ image_part
part_read room len number start k before piece image_part fits at count long equal same =
    let end = fits.end in
    let ends = fits.ends in
    part_put before piece start k ((number + 1) * room) (omega arith) equal (omega arith)
    ∙ ap (λ (n : ℕ). take n before ++ piece) at ∙ ap (λ (xs : List ℕ). take (number * room) before ++ xs) same

-- the slice is as long as the part
pub part_slice : (room len number start k : ℕ) (buffer : List ℕ) → PartFits room len number → start ≡ number * room → k ≡ part_len room len number → length buffer ≡ len
    → length (take k (drop start buffer)) ≡ k
part_slice room len number start k buffer fits at count long =
    let end = fits.end in
    let rest = length-drop start buffer in
    let cut = length-take k (drop start buffer) in
    omega arith

-- the bytes that stand in the slots of a record are its body
pub bytes_are : (geometry : Geometry) (image : List ℕ) (id : ℕ) (place : SlotOf) (e : Entry) → length image ≡ geometry.slot_size * geometry.slots
    → entry_at geometry.slot_size geometry.slots image place.slot ≡ Some e → IsEntryOf id place e → bytes_at geometry.slot_size image place ≡ e.body
unfolding entry_at record_of slot_at
bytes_are geometry image id place e sized here of =
    let size = geometry.slot_size in
    let room = size - 64 in
    let large : 65 ≤ size = omega (arith, geometry.least_slot) in
    let slot = slot_at size image in
    let lens = entry_len size geometry.slots place.slot image e large sized here in
    let whole : e ≡ record_of room slot place.slot = live_record room geometry.slots slot place.slot e here in
    let len : place.len ≡ (slot place.slot).head.len = sym of.len ∙ lens.0 in
    let slots : slots_at room place ≡ place.slot ∷ e.further = slots_of_entry room id place e of lens.1 in
    ap (λ (n : ℕ). parts_joined room n slot 0 (slots_at room place)) len
    ∙ ap (λ (xs : List ℕ). parts_joined room (slot place.slot).head.len slot 0 xs) slots
    ∙ ap (λ (x : Entry). parts_joined room (slot place.slot).head.len slot 0 (place.slot ∷ x.further)) whole
    ∙ sym (ap (λ (x : Entry). x.body) whole)
