-- The record of a block, as the writer makes it and as a reader finds it.
use Rattle.std.proofs.Common.{◌≡◌, ◌∙◌, ℕ, ◌+◌, ◌-◌, ◌^◌, ◌<◌, ◌≤◌, Bool, true, false, lit<, List, [], ◌∷◌, ◌++◌, length, take, drop, get_or, Ok, refl, sym, ap}
use Rattle.std.proofs.Common.{subst, arith, length-append, append_assoc}
use Rattle.std.specs.Prelude.{nat_lt, if◌then◌else◌}
use Rattle.std.proofs.lemmas.Bool.Decides.{nat_tests}
use Rattle.std.proofs.lemmas.List.{append-nil, length-take-le}
use Rattle.std.proofs.lemmas.List.Elements.{All-cons, All-nil, All-head}
use Rattle.std.proofs.Math.Seq.{drop-append_seam}
use Rattle.base_model.specs.Bytes.{part, number_at, joined}
use Rattle.apei_bytes.proofs.Parts.{part-second, parts, parts_of, number_of}
use Rattle.cper_frame.specs.declared.heads.RecordHead.{RecordHead}
use Rattle.cper_frame.specs.declared.heads.SectionHead.{SectionHead}
use Rattle.cper_frame.specs.Grammar.{SectionValue, RecordValue, header, descriptor_fields, descriptors, IsRecordHead, IsSectionHead, IsSectionOf, IsRecord}
use Rattle.cper_frame.specs.Reading.{checked, IsWhole}
use Rattle.cper_frame.specs.Writer.{Given, written_record, IsWritten}
use Rattle.cper_frame.proofs.Laws.{length-header, length-descriptor, header_sizes, header_sized}
use Rattle.cper_frame.proofs.Complete.{found_again}
use Rattle.erst_bridge.specs.BridgedRecord.{severity_in, bridged_head, bridged_section, bridged}

severity_fits : (block : List ℕ) → severity_in block < 2 ^ 32
severity_fits block = by_test (nat_lt (number_at block 16 4) 4) refl
  where
    by_test : (b : Bool) → nat_lt (number_at block 16 4) 4 ≡ b → (if b then number_at block 16 4 else 3) < 2 ^ 32
    by_test true e = grind (arith, nat_tests)
    by_test false e = lit< tt

head_fits : (block : List ℕ) (id : ℕ) → id < 2 ^ 64 → IsRecordHead (bridged_head block id)
head_fits block id small = record {
  revision = lit< tt;
  severity = severity_fits block;
  validation = lit< tt;
  timestamp = lit< tt;
  platform = refl;
  partition = refl;
  creator = refl;
  notification = refl;
  id = small;
  flags = lit< tt;
  persistence = refl;
  reserved = refl;
}

section_fits : (block : List ℕ) → IsSectionHead (bridged_section block)
section_fits block = record {
  revision = lit< tt;
  validation = lit< tt;
  reserved = lit< tt;
  flags = lit< tt;
  kind = refl;
  fru = refl;
  severity = severity_fits block;
  fru_text = refl;
}

-- the section that is given to the writer, and the record that it is then asked for
abbrev pub given : List ℕ → Given
given block = record { head = bridged_section block; body = block }

abbrev pub value_of : List ℕ → ℕ → RecordValue
value_of block id = written_record (bridged_head block id) (given block ∷ [])

abbrev section_value : List ℕ → SectionValue
section_value block = record { head = bridged_section block; offset = 200; body = block }

-- the bytes of header and descriptor
abbrev header_bytes : List ℕ → ℕ → List ℕ
header_bytes block id = joined (header (bridged_head block id) 1 (200 + length block))

abbrev descriptor_bytes : List ℕ → List ℕ
descriptor_bytes block = joined (descriptor_fields (bridged_section block) 200 (length block))

length-header_bytes : (block : List ℕ) (id : ℕ) → id < 2 ^ 64 → length (header_bytes block id) ≡ 128
length-header_bytes block id small = length-header (bridged_head block id) 1 (200 + length block) (head_fits block id small)

length-descriptor_bytes : (block : List ℕ) → length (descriptor_bytes block) ≡ 72
length-descriptor_bytes block = length-descriptor (section_value block) (section_fits block)

length-before : (block : List ℕ) (id : ℕ) → id < 2 ^ 64 → length (header_bytes block id ++ descriptor_bytes block) ≡ 200
length-before block id small = omega (arith, length-append (header_bytes block id) (descriptor_bytes block), length-header_bytes block id small, length-descriptor_bytes block)

pub length-bridged : (block : List ℕ) (id : ℕ) → id < 2 ^ 64 → length (bridged block id) ≡ 200 + length block
unfolding bridged
length-bridged block id small = omega (arith, length-append (header_bytes block id ++ descriptor_bytes block) block, length-before block id small)

one_descriptor : (block : List ℕ) → descriptors (section_value block ∷ []) ≡ descriptor_bytes block
unfolding descriptors
one_descriptor block = append-nil (descriptor_bytes block)

pub body_is : (block : List ℕ) (id : ℕ) → id < 2 ^ 64 → part (bridged block id) 200 (length block) ≡ block
unfolding bridged
body_is block id small = part-second (header_bytes block id ++ descriptor_bytes block) block 200 (length block) (length-before block id small) refl

pub drop-bridged : (block : List ℕ) (id : ℕ) → id < 2 ^ 64 → drop 200 (bridged block id) ≡ block
unfolding bridged
drop-bridged block id small =
    let before = header_bytes block id ++ descriptor_bytes block in
    subst (λ (n : ℕ). drop n (before ++ block) ≡ block) (length-before block id small) (drop-append_seam before block)

spelling : (block : List ℕ) (id : ℕ) → id < 2 ^ 64
    → bridged block id ≡ joined (header (bridged_head block id) 1 (length (bridged block id))) ++ descriptors (section_value block ∷ []) ++ block
unfolding bridged
spelling block id small =
    ap (λ (n : ℕ). joined (header (bridged_head block id) 1 n) ++ descriptor_bytes block ++ block) (sym (length-bridged block id small))
    ∙ ap (λ (xs : List ℕ). joined (header (bridged_head block id) 1 (length (bridged block id))) ++ xs ++ block) (sym (one_descriptor block))

is_record : (block : List ℕ) (id : ℕ) → id < 2 ^ 64 → length block ≤ 4096 → IsRecord (value_of block id) (bridged block id)
is_record block id small short =
    let size = length-bridged block id small in
    record {
      few = lit< tt;
      short = omega arith;
      head = head_fits block id small;
      sections = All-cons (IsSectionOf 200 (bridged block id)) (section_value block) []
          (record { head = section_fits block; behind = omega arith; within = omega arith; body = sym (body_is block id small) })
          (All-nil (IsSectionOf 200 (bridged block id)));
      spelling = (block, spelling block id small);
    }

-- of two records of one length, with the same head and section, the bytes are the same
is_bridged : (block : List ℕ) (id : ℕ) (bytes : List ℕ) → id < 2 ^ 64 → length bytes ≡ 200 + length block → IsRecord (value_of block id) bytes → bytes ≡ bridged block id
unfolding bridged
is_bridged block id bytes small size is =
    let rest = is.spelling.0 in
    let all : bytes ≡ header_bytes block id ++ descriptor_bytes block ++ rest =
    is.spelling.1
    ∙ ap (λ (n : ℕ). joined (header (bridged_head block id) 1 n) ++ descriptors (section_value block ∷ []) ++ rest) size
    ∙ ap (λ (xs : List ℕ). header_bytes block id ++ xs ++ rest) (one_descriptor block) in
    let long = length-before block id small in
    let rest_long : length rest ≡ length block = omega (arith, ap length all, length-append (header_bytes block id ++ descriptor_bytes block) rest, long) in
    let body : block ≡ part bytes 200 (length block) = (All-head (IsSectionOf 200 bytes) (section_value block) [] is.sections).body in
    let there : part bytes 200 (length block) ≡ rest =
    ap (λ (xs : List ℕ). part xs 200 (length block)) all ∙ part-second (header_bytes block id ++ descriptor_bytes block) rest 200 (length block) long rest_long in
    all ∙ ap (λ (xs : List ℕ). header_bytes block id ++ descriptor_bytes block ++ xs) (sym (body ∙ there))

pub whole : (block : List ℕ) (id : ℕ) → id < 2 ^ 64 → length block ≤ 4096 → IsWhole (bridged block id)
whole block id small short =
    let size = length-bridged block id small in
    let again : checked (2 ^ 32 - 1) (bridged block id ++ []) ≡ Ok (length (bridged block id)) =
    found_again (2 ^ 32 - 1) (value_of block id) (bridged block id) [] (is_record block id small short) (omega arith) in
    ap (checked (2 ^ 32 - 1)) (sym (append-nil (bridged block id))) ∙ again

pub name : (block : List ℕ) (id : ℕ) → id < 2 ^ 64 → number_at (bridged block id) 96 8 ≡ id
name block id small =
    let len = length (bridged block id) in
    let rest = descriptors (section_value block ∷ []) ++ block in
    let is = head_fits block id small in
    let fields : parts header_sizes 0 (bridged block id) ≡ header (bridged_head block id) 1 len =
    parts_of (header (bridged_head block id) 1 len) header_sizes rest (bridged block id) (header_sized (bridged_head block id) 1 len is)
    (spelling block id small ∙ append_assoc (joined (header (bridged_head block id) 1 len)) (descriptors (section_value block ∷ [])) block) in
    number_of (bridged block id) 96 8 id (ap (λ (xss : List (List ℕ)). get_or xss 12 []) fields) small

-- what the writer left at the front of a buffer
pub made : (block : List ℕ) (id : ℕ) (before now : List ℕ) (size : ℕ) (head : RecordHead) (section : SectionHead) → id < 2 ^ 64 → size ≡ 200 + length block → size ≤ length now
    → head ≡ bridged_head block id → section ≡ bridged_section block → IsWritten (written_record head ((record { head = section; body = block }) ∷ [])) size
    before now → take size now ≡ bridged block id
made block id before now size head section small size_is room head_is section_is written =
    let same : IsRecord (value_of block id) (take size now) =
    subst (λ (h : RecordHead). IsRecord (written_record h (given block ∷ [])) (take size now)) head_is
    (subst (λ (s : SectionHead). IsRecord (written_record head ((record { head = s; body = block }) ∷ [])) (take size now)) section_is written.is_record) in
    is_bridged block id (take size now) small (length-take-le size now room ∙ size_is) same
