-- The grammar and the reading agree, both ways.
use Rattle.std.proofs.Common.{◌≡◌, ℕ, ◌-◌, ◌<◌, ◌^◌, List, [], ◌∷◌, ◌++◌, length, map, get_or, refl, ap, ◌∙◌, arith}
use Rattle.std.specs.Prelude.{codes}
use Rattle.base_model.specs.Bytes.{part, number_at, little, spelled, joined}
use Rattle.base_model.proofs.BytesLemmas.{length-joined}
use Rattle.cper_frame.specs.declared.heads.RecordHead.{RecordHead}
use Rattle.cper_frame.specs.Grammar.{SectionValue, header, descriptor_fields, IsRecordHead, IsSectionHead}
use Rattle.cper_frame.specs.Reading.{head_at, section_head_at}
use Rattle.apei_bytes.proofs.Parts.{parts, parts_of, number_of}
use Rattle.base_model.proofs.Terms.{total}
use Rattle.cper_frame.proofs.Terms.{signature, section_count, record_length}

-- how long the fields of a header and of a descriptor are
abbrev pub header_sizes : List ℕ
header_sizes = 4 ∷ 2 ∷ 4 ∷ 2 ∷ 4 ∷ 4 ∷ 4 ∷ 8 ∷ 16 ∷ 16 ∷ 16 ∷ 16 ∷ 8 ∷ 4 ∷ 8 ∷ 12 ∷ []

abbrev pub descriptor_sizes : List ℕ
descriptor_sizes = 4 ∷ 4 ∷ 2 ∷ 1 ∷ 1 ∷ 4 ∷ 16 ∷ 16 ∷ 4 ∷ 20 ∷ []

pub header_sized : (head : RecordHead) (n len : ℕ) → IsRecordHead head → map length (header head n len) ≡ header_sizes
unfolding spelled
header_sized head n len is = rw (is.platform, is.partition, is.creator, is.notification, is.persistence, is.reserved) refl

abbrev pub descriptor : SectionValue → List (List ℕ)
descriptor section = descriptor_fields section.head section.offset (length section.body)

pub descriptor_sized : (section : SectionValue) → IsSectionHead section.head → map length (descriptor section) ≡ descriptor_sizes
unfolding spelled
descriptor_sized section is = rw (is.kind, is.fru, is.fru_text) refl

pub length-header : (head : RecordHead) (n len : ℕ) → IsRecordHead head → length (joined (header head n len)) ≡ 128
length-header head n len is = length-joined (header head n len) ∙ ap total (header_sized head n len is)

pub length-descriptor : (section : SectionValue) → IsSectionHead section.head → length (joined (descriptor section)) ≡ 72
length-descriptor section is = length-joined (descriptor section) ∙ ap total (descriptor_sized section is)

number_at_codes : (bytes : List ℕ) → part bytes 0 4 ≡ codes "CPER" → number_at bytes 0 4 ≡ signature
unfolding number_at
number_at_codes bytes h = ap little h

-- what a header that stands first says
pub record HeaderReads (head : RecordHead) (n len : ℕ) (bytes : List ℕ) : Type 0 where
  pub start : number_at bytes 0 4 ≡ signature
  pub end : number_at bytes 6 4 ≡ 2 ^ 32 - 1
  pub count : section_count bytes ≡ n
  pub length : record_length bytes ≡ len
  pub head_is : head_at bytes ≡ head

pub header_reads : (head : RecordHead) (n len : ℕ) (bytes rest : List ℕ) → IsRecordHead head → n < 2 ^ 16 → len < 2 ^ 32
    → bytes ≡ joined (header head n len) ++ rest → HeaderReads head n len bytes
header_reads head n len bytes rest is few short e =
    let fields : parts header_sizes 0 bytes ≡ header head n len = parts_of (header head n len) header_sizes rest bytes (header_sized head n len is) e in
    let field = λ (k : ℕ). ap (λ (xss : List (List ℕ)). get_or xss k []) fields in
    let revision = number_of bytes 4 2 head.revision (field 1) is.revision in
    let severity = number_of bytes 12 4 head.severity (field 4) is.severity in
    let validation = number_of bytes 16 4 head.validation (field 5) is.validation in
    let timestamp = number_of bytes 24 8 head.timestamp (field 7) is.timestamp in
    let id = number_of bytes 96 8 head.id (field 12) is.id in
    let flags = number_of bytes 104 4 head.flags (field 13) is.flags in
    record {
      start = number_at_codes bytes (field 0);
      end = number_of bytes 6 4 (2 ^ 32 - 1) (field 2) (omega arith);
      count = number_of bytes 10 2 n (field 3) few;
      length = number_of bytes 20 4 len (field 6) short;
      head_is = rw (revision, severity, validation, timestamp, field 8, field 9, field 10, field 11, id, flags, field 14, field 15) refl;
    }

-- what a descriptor says
pub record DescriptorReads (section : SectionValue) (bytes : List ℕ) : Type 0 where
  pub offset : number_at bytes 0 4 ≡ section.offset
  pub length : number_at bytes 4 4 ≡ length section.body
  pub head_is : section_head_at bytes ≡ section.head

pub descriptor_reads : (section : SectionValue) (bytes rest : List ℕ) → IsSectionHead section.head → section.offset < 2 ^ 32 → length section.body < 2 ^ 32
    → bytes ≡ joined (descriptor section) ++ rest → DescriptorReads section bytes
descriptor_reads section bytes rest is low short e =
    let fields : parts descriptor_sizes 0 bytes ≡ descriptor section = parts_of (descriptor section) descriptor_sizes rest bytes (descriptor_sized section is) e in
    let field = λ (k : ℕ). ap (λ (xss : List (List ℕ)). get_or xss k []) fields in
    let head = section.head in
    let revision = number_of bytes 8 2 head.revision (field 2) is.revision in
    let validation = number_of bytes 10 1 head.validation (field 3) is.validation in
    let reserved = number_of bytes 11 1 head.reserved (field 4) is.reserved in
    let flags = number_of bytes 12 4 head.flags (field 5) is.flags in
    let severity = number_of bytes 48 4 head.severity (field 8) is.severity in
    record {
      offset = number_of bytes 0 4 section.offset (field 0) low;
      length = number_of bytes 4 4 (length section.body) (field 1) short;
      head_is = rw (revision, validation, reserved, flags, field 6, field 7, severity, field 9) refl;
    }
