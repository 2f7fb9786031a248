-- What is written of an image's slots as text: a picture, what its letters mean, and a line for each slot that is not erased.
use Rattle.std.specs.Prelude.{ℕ, zero, suc, ◌-◌, ◌%◌, ◌==◌, if◌then◌else◌, List, [], ◌∷◌, ◌++◌, length, replicate, slice_index, codes, decimal}
use Rattle.apei_bytes.specs.Guid.{digits}
use Rattle.record_model.specs.Records.{Head, slot_at, gate_further}
use Rattle.record_model.specs.Slots.{further_of}
use Rattle.image_survey.specs.Kinds.{kind_at}
use Rattle.image_survey.specs.declared.kinds.SlotKind.{SlotKind}
use Rattle.image_survey.specs.declared.kinds.SlotKind.TheVariants.{First, Further, SecondCopy, Orphan, Filling, Killed, Erased, Unknown}
use Rattle.apei_look.specs.Texts.{space, identity_text, slot_numbers}
use Rattle.apei_look.specs.Words.{letter_of, word_of}

-- what is said of each of the first n slots, one after another
abbrev pub of_slots : (of_slot : ℕ → List ℕ) → (n : ℕ) → List ℕ
of_slots of_slot zero = []
of_slots of_slot (suc n) = of_slots of_slot n ++ of_slot n

-- a number at the right end of so many columns
abbrev pub right_aligned : (columns number : ℕ) → List ℕ
right_aligned columns number = replicate (columns - length (decimal number)) space ++ decimal number

-- a row has 64 slots, and begins with the number of its first one
abbrev pub row_start : (k : ℕ) → List ℕ
row_start k = codes "\n" ++ right_aligned 5 k ++ codes " "

abbrev pub row_text : (k : ℕ) → List ℕ
row_text k = if k % 64 == 0 then row_start k else []

-- slot k, which is of this kind, in the picture
abbrev pub letter_text : (k : ℕ) → SlotKind → List ℕ
letter_text k kind = row_text k ++ letter_of kind ∷ []

abbrev pub slot_letter : (slot_size slots : ℕ) → (image : List ℕ) → (k : ℕ) → List ℕ
slot_letter slot_size slots image k = letter_text k (kind_at slot_size slots image k)

abbrev pub picture_text : (slot_size slots : ℕ) → (image : List ℕ) → List ℕ
picture_text slot_size slots image = of_slots (slot_letter slot_size slots image) slots ++ codes "\n\n"

-- what the letters mean
abbrev pub legend_text : List ℕ
legend_text =
    codes "R first slot of a record  + further slot of a record  2 second copy  o orphan\n"
    ++ codes "w being filled or erased  k killed  . erased  ? unknown\n\n"

-- the further slots that a head names, where it names any
abbrev pub further_text : List ℕ → List ℕ
further_text [] = []
further_text (slot ∷ slots) = codes " further" ++ slot_numbers space (slot ∷ slots)

-- the head of a first slot
abbrev pub first_text : (slot_size : ℕ) → Head → List ℕ
first_text slot_size head = codes " id " ++ identity_text head ++ further_text (further_of (slot_size - 64) head)

-- the head of a further slot, which has the number of its part and its first slot where that of a first slot names further ones
abbrev pub part_text : Head → List ℕ
part_text head =
    codes " id " ++ identity_text head ++ codes " part " ++ decimal (slice_index head.next 0)
    ++ codes " of slot " ++ decimal (slice_index head.next 1)

-- of a slot that is being filled or erased, whose head may not be programmed yet
abbrev pub filling_text : (slot_size : ℕ) → Head → List ℕ
filling_text slot_size head =
    if head.gate == gate_further then part_text head else if head.format == 0xFFFF then codes " no head" else first_text slot_size head

-- the marks of a slot of no known form
abbrev pub gate_text : Head → List ℕ
gate_text head = codes " gate 0x" ++ digits (head.gate ∷ []) ++ codes " kill 0x" ++ digits (head.kill ∷ [])

abbrev pub marks_text : Head → (tail : ℕ) → List ℕ
marks_text head tail = gate_text head ++ codes " format " ++ decimal head.format ++ codes " tail 0x" ++ digits (tail ∷ [])

-- what the head of a slot of this kind says, or its marks
abbrev pub seen_text : (slot_size : ℕ) → SlotKind → Head → (tail : ℕ) → List ℕ
seen_text slot_size First head tail = first_text slot_size head
seen_text slot_size SecondCopy head tail = first_text slot_size head
seen_text slot_size Killed head tail = first_text slot_size head
seen_text slot_size Further head tail = part_text head
seen_text slot_size Orphan head tail = part_text head
seen_text slot_size Filling head tail = filling_text slot_size head
seen_text slot_size Unknown head tail = marks_text head tail
seen_text slot_size Erased head tail = []

-- the line of slot k, which is of this kind
abbrev pub line_text : (slot_size k : ℕ) → SlotKind → Head → (tail : ℕ) → List ℕ
line_text slot_size k kind head tail = codes "slot " ++ decimal k ++ codes " " ++ word_of kind ++ seen_text slot_size kind head tail ++ codes "\n"

abbrev pub kind_line : (slot_size k : ℕ) → SlotKind → Head → (tail : ℕ) → List ℕ
kind_line slot_size k Erased head tail = []
kind_line slot_size k kind head tail = line_text slot_size k kind head tail

abbrev pub slot_line : (slot_size slots : ℕ) → (image : List ℕ) → (k : ℕ) → List ℕ
slot_line slot_size slots image k =
    kind_line slot_size k (kind_at slot_size slots image k) (slot_at slot_size image k).head (slot_at slot_size image k).tail

abbrev pub slots_text : (slot_size slots : ℕ) → (image : List ℕ) → List ℕ
slots_text slot_size slots image = of_slots (slot_line slot_size slots image) slots
