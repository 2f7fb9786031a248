-- The block that the writer leaves, byte for byte.
use Rattle.std.proofs.Common.{◌≡◌, ◌∙◌, ℕ, ◌+◌, ◌≤◌, List, [], ◌∷◌, ◌++◌, length, take, get_or, refl, sym, ap, subst, arith, length-append, append_assoc}
use Rattle.std.proofs.lemmas.List.{append-nil, length-take-le, nil_from_length}
use Rattle.std.proofs.lemmas.List.Elements.{All-head}
use Rattle.base_model.specs.Bytes.{number_at, little, spelled, joined, put_at}
use Rattle.apei_bytes.proofs.Parts.{parts, parts_of, number_of, part-take}
use Rattle.apei_bytes.proofs.Puts.{joined-append}
use Rattle.ghes_block.specs.declared.entry.EntryHead.{EntryHead}
use Rattle.ghes_block.specs.Grammar.{EntryValue, BlockValue, entry_front, entry_bytes, entries_bytes, IsEntry, IsBlock}
use Rattle.ghes_block.specs.Writer.{IsWritten}
use Rattle.ghes_block.proofs.Terms.{block_head}
use Rattle.ghes_block.proofs.Blocks.{head_sizes, head_sized, length-head}
use Rattle.ghes_block.proofs.EntryLaws.{length-entry_bytes}
use Rattle.item_makers.specs.declared.blocks.BlockFields.{BlockFields}
use Rattle.item_makers.specs.Severities.{severity_number}
use Rattle.item_makers.specs.Given.{number_given}
use Rattle.item_makers.specs.Blocks.{status_for, block_bytes, entry_head, made_block}
use Rattle.item_makers.proofs.Fronts.{put_first}

abbrev entry_of : BlockFields → List ℕ → EntryValue
entry_of fields section = record { head = entry_head fields; body = section }

-- the fields of the block's head
abbrev head_of : BlockFields → (offset len : ℕ) → List (List ℕ)
head_of fields offset len = block_head (status_for fields.severity) offset 0 len (severity_number fields.severity)

-- the fields are those of the head and of the entry
fields_are : (fields : BlockFields) (section : List ℕ) → block_bytes fields section ≡ joined (head_of fields 0 (72 + length section)) ++ entry_bytes (entry_of fields section)
unfolding block_bytes entry_bytes
fields_are fields section =
    let head = head_of fields 0 (72 + length section) in
    let front = entry_front (entry_head fields) (length section) in
    let stamp = spelled 8 (number_given fields.timestamp) in
    joined-append head (front ++ stamp ∷ section ∷ [])
    ∙ ap (λ (xs : List ℕ). joined head ++ xs)
    (joined-append front (stamp ∷ section ∷ [])
    ∙ ap (λ (xs : List ℕ). joined front ++ (stamp ++ xs)) (append-nil section)
    ∙ sym (append_assoc (joined front) stamp section))

one_entry : (entry : EntryValue) → entries_bytes (entry ∷ []) ≡ entry_bytes entry
unfolding entries_bytes
one_entry entry = append-nil (entry_bytes entry)

-- of a block whose raw data has the offset 0, the bytes are the fields
is_made : (fields : BlockFields) (section bytes : List ℕ) → IsBlock (made_block fields section) bytes → number_at bytes 4 4 ≡ 0 → bytes ≡ block_bytes fields section
is_made fields section bytes is none =
    let entry = entry_of fields section in
    let well : IsEntry entry = All-head IsEntry entry [] is.entries in
    let content = entries_bytes (entry ∷ []) in
    let content_is : content ≡ entry_bytes entry = one_entry entry in
    let content_long : length content ≡ 72 + length section = ap length content_is ∙ length-entry_bytes entry well.head in
    let offset = is.spelling.0 in
    let rest = is.spelling.1 in
    let head = head_of fields offset (length content) in
    let all : bytes ≡ joined head ++ content ++ rest = is.spelling.3 in
    let size : length bytes ≡ 20 + length content = is.spelling.4 in
    let head_long : length (joined head) ≡ 20 = length-head (status_for fields.severity) offset 0 (length content) (severity_number fields.severity) in
    let parts_are : parts head_sizes 0 bytes ≡ head =
    parts_of head head_sizes (content ++ rest) bytes (head_sized (status_for fields.severity) offset 0 (length content) (severity_number fields.severity))
    (all ∙ append_assoc (joined head) content rest) in
    let offset_is : offset ≡ 0 = sym (number_of bytes 4 4 offset (ap (λ (xss : List (List ℕ)). get_or xss 1 []) parts_are) is.spelling.2) ∙ none in
    let rest_none : rest ≡ [] = nil_from_length rest (omega (arith, ap length all, length-append (joined head ++ content) rest, length-append (joined head) content, head_long, size)) in
    all
    ∙ ap (λ (xs : List ℕ). joined head ++ content ++ xs) rest_none
    ∙ append-nil (joined head ++ content)
    ∙ ap (λ (xs : List ℕ). joined head ++ xs) content_is
    ∙ ap (λ (n : ℕ). joined (head_of fields n (length content)) ++ entry_bytes entry) offset_is
    ∙ ap (λ (n : ℕ). joined (head_of fields 0 n) ++ entry_bytes entry) content_long
    ∙ sym (fields_are fields section)

-- what the writer left at the front of the bytes
pub made : (fields : BlockFields) (section before now : List ℕ) (end : ℕ) → 92 + length section ≤ length now → IsWritten (made_block fields section) end before
    now → now ≡ put_at before 0 (block_bytes fields section)
unfolding number_at
made fields section before now end room written =
    let size = 92 + length section in
    let none : number_at (take size now) 4 4 ≡ 0 = ap little (part-take now size 4 4 (omega arith)) ∙ written.raw_offset in
    let first : take size now ≡ block_bytes fields section = is_made fields section (take size now) written.is_block none in
    put_first (block_bytes fields section) before now size first (ap length (sym first) ∙ length-take-le size now room) written.after

-- of a status, a severity and an entry that say what was given
pub left : (fields : BlockFields) (section before now : List ℕ) (end size status severity : ℕ) (head : EntryHead) → status ≡ status_for fields.severity →
    severity ≡ severity_number fields.severity → head ≡ entry_head fields → size ≡ 92 + length section
    → IsWritten (record { status = status; severity = severity; entries = (record { head = head; body = section }) ∷ []; raw = []; size = size }) end before now
    → IsWritten (made_block fields section) end before now
left fields section before now end size status severity head status_is severity_is head_is size_is written =
    let same : ◌≡◌ {A = BlockValue} (record { status = status; severity = severity; entries = (record { head = head; body = section }) ∷ []; raw = []; size = size }) (made_block fields section) =
    rw (status_is, severity_is, head_is, size_is) refl in
    subst (λ (value : BlockValue). IsWritten value end before now) same written
