-- The record that the writer leaves, byte for byte.
use Rattle.std.proofs.Common.{◌≡◌, ◌∙◌, ℕ, ◌+◌, ◌≤◌, List, [], ◌∷◌, ◌++◌, length, take, refl, sym, ap, subst, arith, length-append, append_assoc}
use Rattle.std.proofs.lemmas.List.{append-nil, length-take-le}
use Rattle.std.proofs.lemmas.List.Elements.{All-head}
use Rattle.base_model.specs.Bytes.{part, joined, put_at}
use Rattle.apei_bytes.proofs.Parts.{part-second}
use Rattle.apei_bytes.proofs.Puts.{joined-append}
use Rattle.cper_frame.specs.declared.heads.RecordHead.{RecordHead}
use Rattle.cper_frame.specs.declared.heads.SectionHead.{SectionHead}
use Rattle.cper_frame.specs.Grammar.{SectionValue, RecordValue, header, descriptor_fields, descriptors, IsSectionOf, IsRecord}
use Rattle.cper_frame.specs.Writer.{written_record, IsWritten}
use Rattle.cper_frame.proofs.Laws.{length-header, length-descriptor}
use Rattle.item_makers.specs.declared.records.RecordFields.{RecordFields}
use Rattle.item_makers.specs.Records.{record_head, section_head, record_bytes, made_record}
use Rattle.item_makers.proofs.Fronts.{put_first}

abbrev section_of : RecordFields → List ℕ → SectionValue
section_of fields section = record { head = section_head fields; offset = 200; body = section }

abbrev header_of : RecordFields → List ℕ → List (List ℕ)
header_of fields section = header (record_head fields) 1 (200 + length section)

abbrev descriptor_of : RecordFields → List ℕ → List (List ℕ)
descriptor_of fields section = descriptor_fields (section_head fields) 200 (length section)

-- the fields are those of the header and of the descriptor, and the section
fields_are : (fields : RecordFields) (section : List ℕ) → record_bytes fields section ≡ joined (header_of fields section) ++ joined (descriptor_of fields section) ++ section
unfolding record_bytes
fields_are fields section =
    let head = header_of fields section in
    let descriptor = descriptor_of fields section in
    joined-append head (descriptor ++ section ∷ [])
    ∙ ap (λ (xs : List ℕ). joined head ++ xs)
    (joined-append descriptor (section ∷ []) ∙ ap (λ (xs : List ℕ). joined descriptor ++ xs) (append-nil section))
    ∙ sym (append_assoc (joined head) (joined descriptor) section)

one_descriptor : (fields : RecordFields) (section : List ℕ) → descriptors (section_of fields section ∷ []) ≡ joined (descriptor_of fields section)
unfolding descriptors
one_descriptor fields section = append-nil (joined (descriptor_of fields section))

-- of a record that ends with its section, the bytes are the fields
is_made : (fields : RecordFields) (section bytes : List ℕ) → length bytes ≡ 200 + length section → IsRecord (made_record fields section) bytes → bytes ≡ record_bytes fields section
is_made fields section bytes size is =
    let head = joined (header_of fields section) in
    let descriptor = joined (descriptor_of fields section) in
    let rest = is.spelling.0 in
    let all : bytes ≡ head ++ descriptor ++ rest =
    is.spelling.1
    ∙ ap (λ (n : ℕ). joined (header (record_head fields) 1 n) ++ descriptors (section_of fields section ∷ []) ++ rest) size
    ∙ ap (λ (xs : List ℕ). head ++ xs ++ rest) (one_descriptor fields section) in
    let there : IsSectionOf 200 bytes (section_of fields section) = All-head (IsSectionOf 200 bytes) (section_of fields section) [] is.sections in
    let long : length (head ++ descriptor) ≡ 200 =
    omega (arith, length-append head descriptor, length-header (record_head fields) 1 (200 + length section) is.head, length-descriptor (section_of fields section) there.head) in
    let rest_long : length rest ≡ length section = omega (arith, ap length all, length-append (head ++ descriptor) rest, long) in
    let body : section ≡ part bytes 200 (length section) = there.body in
    let behind : part bytes 200 (length section) ≡ rest =
    ap (λ (xs : List ℕ). part xs 200 (length section)) all ∙ part-second (head ++ descriptor) rest 200 (length section) long rest_long in
    all ∙ ap (λ (xs : List ℕ). head ++ descriptor ++ xs) (sym (body ∙ behind)) ∙ sym (fields_are fields section)

-- what the writer left at the front of the bytes
pub made : (fields : RecordFields) (section before now : List ℕ) (size : ℕ) → size ≡ 200 + length section → size ≤ length now →
    IsWritten (made_record fields section) size before now → now ≡ put_at before 0 (record_bytes fields section)
made fields section before now size size_is room written =
    let first : take size now ≡ record_bytes fields section = is_made fields section (take size now) (length-take-le size now room ∙ size_is) written.is_record in
    put_first (record_bytes fields section) before now size first (ap length (sym first) ∙ length-take-le size now room) written.after

-- of a head and a section that say what was given
pub left : (fields : RecordFields) (section before now : List ℕ) (size : ℕ) (head : RecordHead) (described : SectionHead) → head ≡ record_head fields → described ≡ section_head fields
    → IsWritten (written_record head ((record { head = described; body = section }) ∷ [])) size before now → IsWritten (made_record fields section) size before now
left fields section before now size head described head_is described_is written =
    let same : ◌≡◌ {A = RecordValue} (written_record head ((record { head = described; body = section }) ∷ [])) (made_record fields section) = rw (head_is, described_is) refl in
    subst (λ (value : RecordValue). IsWritten value size before now) same written
