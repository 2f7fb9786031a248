-- What the kind of a slot says.
use Rattle.std.proofs.Common.{◌≡◌, ℕ, ◌-◌, ◌<◌, Bool, true, false, not, List, length, Some, None, refl, sym, ap, ◌∙◌, inl, inr}
use Rattle.std.specs.Prelude.{◌==◌, ◌&&◌, if◌then◌else◌}
use Rattle.std.specs.FinMap.{get}
use Rattle.flash_model.specs.declared.geometry.Geometry.{Geometry}
use Rattle.record_model.specs.Records.{Head, Entry, slot_at, is_upright, is_up, entry_of, entry_at, is_first, is_taken, stored_in, record_of, gate_open}
use Rattle.record_model.specs.Records.{gate_closed, gate_further, not_killed, tail_mark}
use Rattle.record_model.proofs.ChosenLemmas.{chosen_or_none, get-no_slot}
use Rattle.record_model.proofs.FirstLemmas.{chosen-is_first, is_first-chosen}
use Rattle.record_model.proofs.LiveLemmas.{live_record, up_entry}
use Rattle.record_slots.specs.Listed.{first_records}
use Rattle.record_slots.specs.Slots.{numbers_of}
use Rattle.image_survey.specs.declared.kinds.SlotKind.{SlotKind}
use Rattle.image_survey.specs.declared.kinds.SlotKind.TheVariants.{First, Orphan, Filling, Killed, Unknown}
use Rattle.record_slots.specs.declared.found.Look.{Look}
use Rattle.record_slots.specs.Looks.{IsSeen}
use Rattle.image_survey.specs.Kinds.{kind_by, is_erased, kind_at}
use Rattle.image_survey.specs.Counts.{is_record, is_second_copy}
use Rattle.image_survey.specs.Shown.{IsFirstOf}
use Rattle.record_slots.proofs.LookLemmas.{NamesParts, seen_up, names_parts}

-- a test that fails of each kind which marks tell
choice_fails : (test : SlotKind → Bool) → test Unknown ≡ false → test Killed ≡ false → test Orphan ≡ false → test Filling ≡ false → (a b c d e : Bool)
    → test (if a then (if b then Unknown else Killed) else (if c then (if d then Orphan else Filling) else (if e then Filling else Unknown))) ≡ false
choice_fails test unknown killed orphan filling true true c d e = unknown
choice_fails test unknown killed orphan filling true false c d e = killed
choice_fails test unknown killed orphan filling false b true true e = orphan
choice_fails test unknown killed orphan filling false b true false e = filling
choice_fails test unknown killed orphan filling false b false d true = filling
choice_fails test unknown killed orphan filling false b false d false = unknown

-- marks tell of no record and of no second copy
marks_fail : (test : SlotKind → Bool) → test Unknown ≡ false → test Killed ≡ false → test Orphan ≡ false → test Filling ≡ false
    → (head : Head) (tail : ℕ) → test (kind_by false false false false head tail) ≡ false
marks_fail test unknown killed orphan filling head tail =
    choice_fails test unknown killed orphan filling (head.gate == gate_open) (head.kill == not_killed) (head.gate == gate_further && head.format == 3) (tail == tail_mark) (head.gate == gate_closed)

pub by-record : (first up taken erased : Bool) (head : Head) (tail : ℕ) → is_record (kind_by first up taken erased head tail) ≡ first
by-record true up taken erased head tail = refl
by-record false true taken erased head tail = refl
by-record false false true erased head tail = refl
by-record false false false true head tail = refl
by-record false false false false head tail = marks_fail is_record refl refl refl refl head tail

pub by-copy : (first up taken erased : Bool) (head : Head) (tail : ℕ) → is_second_copy (kind_by first up taken erased head tail) ≡ (up && not first)
by-copy true true taken erased head tail = refl
by-copy true false taken erased head tail = refl
by-copy false true taken erased head tail = refl
by-copy false false true erased head tail = refl
by-copy false false false true head tail = refl
by-copy false false false false head tail = marks_fail is_second_copy refl refl refl refl head tail

pub record_kind : (size slots k : ℕ) (image : List ℕ) → is_record (kind_at size slots image k) ≡ is_first (entry_at size slots image) slots k
unfolding kind_at
record_kind size slots k image =
    by-record (is_first (entry_at size slots image) slots k) (is_up (size - 64) slots (slot_at size image k))
    (is_taken (first_records (entry_at size slots image) slots) slots k) (is_erased size image k) (slot_at size image k).head (slot_at size image k).tail

pub copy_kind : (size slots k : ℕ) (image : List ℕ)
    → is_second_copy (kind_at size slots image k) ≡ (is_up (size - 64) slots (slot_at size image k) && not (is_first (entry_at size slots image) slots k))
unfolding kind_at
copy_kind size slots k image =
    by-copy (is_first (entry_at size slots image) slots k) (is_up (size - 64) slots (slot_at size image k))
    (is_taken (first_records (entry_at size slots image) slots) slots k) (is_erased size image k) (slot_at size image k).head (slot_at size image k).tail

pub first_of_kind : (size slots k : ℕ) (image : List ℕ) → kind_at size slots image k ≡ First → is_first (entry_at size slots image) slots k ≡ true
first_of_kind size slots k image is = sym (record_kind size slots k image) ∙ ap is_record is

pub kind_of_first : (size slots k : ℕ) (image : List ℕ) → is_first (entry_at size slots image) slots k ≡ true → kind_at size slots image k ≡ First
unfolding kind_at
kind_of_first size slots k image first =
    ap (λ (b : Bool). kind_by b (is_up (size - 64) slots (slot_at size image k)) (is_taken (first_records (entry_at size slots image) slots) slots k) (is_erased size image k)
    (slot_at size image k).head (slot_at size image k).tail) first

-- the kind by what was found
pub kind_from : (size slots k : ℕ) (image : List ℕ) (look : Look) (kind : SlotKind) (first up taken erased : Bool) → IsSeen (slot_at size image k) look
    → kind ≡ kind_by first up taken erased (numbers_of look.head) look.tail
    → first ≡ is_first (entry_of (size - 64) slots (slot_at size image)) slots k
    → up ≡ is_upright (size - 64) slots (numbers_of look.head) look.tail
    → taken ≡ is_taken (first_records (entry_of (size - 64) slots (slot_at size image)) slots) slots k
    → erased ≡ is_erased size image k → kind ≡ kind_at size slots image k
unfolding kind_at entry_at
kind_from size slots k image look kind first up taken erased seen is one two three four =
    let upright = seen_up (size - 64) slots (slot_at size image k) look up seen two in
    is ∙ (λ i. kind_by (one i) (upright i) (three i) (four i) (seen.head i) (seen.tail i))

head_id : (size slots k : ℕ) (image : List ℕ) (e : Entry) → entry_at size slots image k ≡ Some e → (slot_at size image k).head.id ≡ e.id
unfolding entry_at record_of
head_id size slots k image e here = sym (ap (λ (x : Entry). x.id) (live_record (size - 64) slots (slot_at size image) k e here))

-- where no slot is the first one of the identifier, it has no record
pub none-found : (size slots id : ℕ) (image : List ℕ) → ((k : ℕ) → k < slots → IsFirstOf size slots image k id → ⊥) → get (stored_in size slots image) id ≡ None
unfolding stored_in
none-found size slots id image none = elim (chosen_or_none (entry_at size slots image) id slots) [
  | inr nowhere ↦ get-no_slot (entry_at size slots image) slots id nowhere
  | inl some ↦ absurd (none some.0 (some.2).within (record {
    first = kind_of_first size slots some.0 image (chosen-is_first (entry_at size slots image) slots some.0 some.1 some.2);
    of_id = head_id size slots some.0 image some.1 (some.2).here ∙ some.3;
  }))
]

-- a first slot is upright
pub first_up : (size slots k : ℕ) (image : List ℕ) (head : Head) → head ≡ (slot_at size image k).head → k < slots → kind_at size slots image k ≡ First
    → (tail : ℕ) × (is_upright (size - 64) slots head tail ≡ true)
unfolding entry_at is_up
first_up size slots k image head is within first =
    let chosen = is_first-chosen (entry_at size slots image) slots k within (first_of_kind size slots k image first) in
    let up = up_entry (size - 64) slots (slot_at size image) k chosen.0 (chosen.1).here in
    ((slot_at size image k).tail, ap (λ (h : Head). is_upright (size - 64) slots h (slot_at size image k).tail) is ∙ up.1)

-- what the head of a first slot names
pub first_names : (geometry : Geometry) (k : ℕ) (image : List ℕ) (head : Head) → head ≡ (slot_at geometry.slot_size image k).head → k < geometry.slots
    → kind_at geometry.slot_size geometry.slots image k ≡ First → length head.next ≡ 3 → NamesParts geometry head
first_names geometry k image head is within first three =
    let up = first_up geometry.slot_size geometry.slots k image head is within first in
    names_parts geometry head up.0 up.1 three
