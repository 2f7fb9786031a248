-- A record that is read part by part.
use Rattle.std.proofs.Common.{◌≡◌, ℕ, zero, suc, ◌+◌, ◌-◌, ◌<◌, ◌≤◌, List, [], ◌∷◌, ◌++◌, length, take, get_or, Some, refl, sym, ap, subst, ◌∙◌, arith}
use Rattle.std.specs.FinMap.{get}
use Rattle.std.proofs.lemmas.List.{length-take, take_all, take_more}
use Rattle.record_model.specs.Records.{Head, Slot, Entry, slot_at, entry_at, record_of, further_of, parts_of, part_len, parts_joined, stored_in, selected}
use Rattle.record_model.proofs.ChosenLemmas.{get-chosen}
use Rattle.record_model.proofs.FirstLemmas.{is_first-chosen}
use Rattle.record_model.proofs.LiveLemmas.{live_record}
use Rattle.record_model.proofs.PartsLemmas.{parts_joined-push}
use Rattle.image_survey.specs.declared.kinds.SlotKind.TheVariants.{First}
use Rattle.image_survey.specs.Kinds.{kind_at}
use Rattle.image_survey.specs.Reading.{slot_of_part, IsRecordOf}
use Rattle.image_survey.proofs.KindLemmas.{first_of_kind}

pub part_short : (room len number : ℕ) → part_len room len number ≤ room
unfolding part_len
part_short room len number = omega arith

get_take : (xs : List ℕ) (n i : ℕ) → i < n → get_or (take n xs) i 0 ≡ get_or xs i 0
get_take xs zero i h = absurd (omega arith)
get_take [] (suc n) i h = refl
get_take (x ∷ xs) (suc n) zero h = refl
get_take (x ∷ xs) (suc n) (suc i) h = get_take xs n i (omega arith)

slot_is : (room k : ℕ) (head : Head) (number : ℕ) → number < parts_of room head.len
    → get_or (k ∷ take (parts_of room head.len - 1) head.next) number 0 ≡ slot_of_part k head number
slot_is room k head zero h = refl
slot_is room k head (suc n) h = get_take head.next (parts_of room head.len - 1) n (omega arith)

-- the parts in the first slots and in one more
pub joined_more : (room k : ℕ) (head : Head) (slot : ℕ → Slot) (number : ℕ) → length head.next ≡ 3 → parts_of room head.len ≤ 4 → number < parts_of room head.len
    → parts_joined room head.len slot 0 (take (number + 1) (k ∷ take (parts_of room head.len - 1) head.next))
    ≡ parts_joined room head.len slot 0 (take number (k ∷ take (parts_of room head.len - 1) head.next)) ++ take (part_len room head.len number) (slot (slot_of_part k head number)).body
joined_more room k head slot number three few h =
    let slots = k ∷ take (parts_of room head.len - 1) head.next in
    let all : length slots ≡ parts_of room head.len = let t = length-take (parts_of room head.len - 1) head.next in omega arith in
    let front = length-take number slots in
    let long : 0 + length (take number slots) ≡ number = omega arith in
    ap (parts_joined room head.len slot 0) (take_more slots number 0 (omega arith))
    ∙ parts_joined-push room head.len slot 0 (take number slots) (get_or slots number 0)
    ∙ ap (λ (m : ℕ). parts_joined room head.len slot 0 (take number slots) ++ take (part_len room head.len m) (slot (get_or slots number 0)).body) long
    ∙ ap (λ (m : ℕ). parts_joined room head.len slot 0 (take number slots) ++ take (part_len room head.len number) (slot m).body) (slot_is room k head number h)

-- the parts in all slots
pub joined_all : (room k : ℕ) (head : Head) (slot : ℕ → Slot) (n : ℕ) → length head.next ≡ 3 → n ≡ parts_of room head.len → 1 ≤ parts_of room head.len
    → parts_joined room head.len slot 0 (take n (k ∷ take (parts_of room head.len - 1) head.next))
    ≡ parts_joined room head.len slot 0 (k ∷ take (parts_of room head.len - 1) head.next)
joined_all room k head slot n three is some =
    let t = length-take (parts_of room head.len - 1) head.next in
    ap (parts_joined room head.len slot 0) (take_all n (k ∷ take (parts_of room head.len - 1) head.next) (omega arith))

-- these bytes are what a boot finds
pub stored_first : (size slots k : ℕ) (image bytes : List ℕ) (head : Head) → head ≡ (slot_at size image k).head → k < slots → kind_at size slots image k ≡ First
    → bytes ≡ parts_joined (size - 64) head.len (slot_at size image) 0 (k ∷ take (parts_of (size - 64) head.len - 1) head.next) → IsRecordOf size slots image k bytes
unfolding stored_in entry_at record_of further_of
stored_first size slots k image bytes head is within first read =
    let chosen = is_first-chosen (entry_at size slots image) slots k within (first_of_kind size slots k image first) in
    let whole : chosen.0 ≡ record_of (size - 64) (slot_at size image) k = live_record (size - 64) slots (slot_at size image) k chosen.0 (chosen.1).here in
    let stored = get-chosen (entry_at size slots image) slots k chosen.0 chosen.1 in
    let of_head : get (selected (entry_at size slots image) slots) (record_of (size - 64) (slot_at size image) k).id
    ≡ Some ((record_of (size - 64) (slot_at size image) k).body, (record_of (size - 64) (slot_at size image) k).generation) =
    subst (λ (e : Entry). get (selected (entry_at size slots image) slots) e.id ≡ Some (e.body, e.generation)) whole stored in
    let bytes_are : bytes ≡ (record_of (size - 64) (slot_at size image) k).body =
    read ∙ ap (λ (h : Head). parts_joined (size - 64) h.len (slot_at size image) 0 (k ∷ take (parts_of (size - 64) h.len - 1) h.next)) is in
    of_head ∙ ap (λ (body : List ℕ). Some (body, (slot_at size image k).head.generation)) (sym bytes_are)
