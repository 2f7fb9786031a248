-- One structure: what is read of it is spelled so, and what is spelled so is read again.
use Rattle.std.proofs.Common.{◌≡◌, ℕ, ◌+◌, ◌<◌, ◌≤◌, ◌^◌, if◌then◌else◌, ◌==◌, List, [], ◌∷◌, ◌++◌, length, map, get_or, Option, Some, None, IfSome, refl, sym}
use Rattle.std.proofs.Common.{ap, subst, ◌∙◌, arith, length-append, append_assoc}
use Rattle.std.proofs.lemmas.List.{append-nil}
use Rattle.base_model.specs.Bytes.{part, number_at, spelled, joined, AreBytes}
use Rattle.base_model.proofs.BytesLemmas.{spelled-number_at, number_at-lt, length-part, part-part, part-append, part-append_right, part-whole, length-joined, AreBytes-part}
use Rattle.apei_bytes.proofs.Parts.{parts, joined-parts, parts_of, number_of, part-first}
use Rattle.apei_bytes.specs.Writing.{Wrote}
use Rattle.apei_bytes.proofs.Puts.{spelled-one, wrote_then}
use Rattle.apei_tables.specs.declared.structure.Gas.{Gas}
use Rattle.apei_tables.specs.GasLayout.{spelling, IsGas}
use Rattle.hest_sources.specs.declared.sources.Ghes.{Ghes}
use Rattle.hest_sources.specs.declared.sources.Ack.{Ack}
use Rattle.hest_sources.specs.Layout.{type_of, size_of, ghes_fields, ghes_bytes, IsGhes, gas_at, front_at}
use Rattle.hest_sources.proofs.Terms.{ack_at, IsAck, ack_bytes}
use Rattle.base_model.proofs.Terms.{total}

-- registers
gas_fields : Gas → List (List ℕ)
gas_fields gas = spelled 1 gas.space ∷ spelled 1 gas.width ∷ spelled 1 gas.offset ∷ spelled 1 gas.access ∷ spelled 8 gas.address ∷ []

gas_joined : (gas : Gas) → IsGas gas → joined (gas_fields gas) ≡ spelling gas
unfolding gas_fields
gas_joined gas is =
    let a = spelled-one gas.space is.space in
    let b = spelled-one gas.width is.width in
    let d = spelled-one gas.offset is.offset in
    let e = spelled-one gas.access is.access in
    rw (a, b, d, e) (ap (λ (xs : List ℕ). gas.space ∷ gas.width ∷ gas.offset ∷ gas.access ∷ xs) (append-nil (spelled 8 gas.address)))

abbrev gas_sizes : List ℕ
gas_sizes = 1 ∷ 1 ∷ 1 ∷ 1 ∷ 8 ∷ []

gas_sized : (gas : Gas) → map length (gas_fields gas) ≡ gas_sizes
unfolding spelled gas_fields
gas_sized gas = refl

pub length-gas : (gas : Gas) → IsGas gas → length (spelling gas) ≡ 12
length-gas gas is = ap length (sym (gas_joined gas is)) ∙ length-joined (gas_fields gas) ∙ ap total (gas_sized gas)

pub is_gas : (bytes : List ℕ) → AreBytes bytes → length bytes ≡ 12 → IsGas (gas_at bytes)
is_gas bytes h k = record {
  space = number_at-lt bytes 0 1 h (omega arith);
  width = number_at-lt bytes 1 1 h (omega arith);
  offset = number_at-lt bytes 2 1 h (omega arith);
  access = number_at-lt bytes 3 1 h (omega arith);
  address = number_at-lt bytes 4 8 h (omega arith);
}

pub gas_again : (bytes : List ℕ) → AreBytes bytes → length bytes ≡ 12 → spelling (gas_at bytes) ≡ bytes
unfolding gas_fields
gas_again bytes h k =
    let again = λ (at m : ℕ) (low : at + m ≤ 12). spelled-number_at bytes at m h (omega arith) in
    let fields : gas_fields (gas_at bytes) ≡ parts gas_sizes 0 bytes = rw (
      again 0 1 (omega arith),
      again 1 1 (omega arith),
      again 2 1 (omega arith),
      again 3 1 (omega arith),
      again 4 8 (omega arith),
    ) refl in
    sym (gas_joined (gas_at bytes) (is_gas bytes h k)) ∙ ap joined fields ∙ joined-parts gas_sizes 0 bytes ∙ part-whole bytes 12 (omega arith)

pub gas_reads : (gas : Gas) → IsGas gas → gas_at (spelling gas) ≡ gas
unfolding gas_fields
gas_reads gas is =
    let bytes = spelling gas in
    let fields : parts gas_sizes 0 bytes ≡ gas_fields gas = parts_of (gas_fields gas) gas_sizes [] bytes (gas_sized gas) (sym (gas_joined gas is) ∙ sym (append-nil (joined (gas_fields gas)))) in
    let field = λ (k : ℕ). ap (λ (xss : List (List ℕ)). get_or xss k []) fields in
    let space = number_of bytes 0 1 gas.space (field 0) is.space in
    let width = number_of bytes 1 1 gas.width (field 1) is.width in
    let offset = number_of bytes 2 1 gas.offset (field 2) is.offset in
    let access = number_of bytes 3 1 gas.access (field 3) is.access in
    let address = number_of bytes 4 8 gas.address (field 4) is.address in
    rw (space, width, offset, access, address) refl

-- generic sources
abbrev pub ack_fields : Ack → List (List ℕ)
ack_fields ack = spelling ack.register ∷ spelled 8 ack.preserve ∷ spelled 8 ack.write ∷ []

abbrev pub ack_by_type : ℕ → List ℕ → Option Ack
ack_by_type kind bytes = if kind == 10 then Some (ack_at bytes) else None

abbrev pub ghes_sizes : List ℕ
ghes_sizes = 2 ∷ 2 ∷ 2 ∷ 1 ∷ 1 ∷ 4 ∷ 4 ∷ 4 ∷ 12 ∷ 28 ∷ 4 ∷ []

abbrev pub ack_sizes : List ℕ
ack_sizes = 12 ∷ 8 ∷ 8 ∷ []

ghes_sized : (source : Ghes) → IsGhes source → map length (ghes_fields source) ≡ ghes_sizes
unfolding spelled
ghes_sized source is = let status = length-gas source.status is.status in rw (status, is.notify) refl

ack_sized : (ack : Ack) → IsAck ack → map length (ack_fields ack) ≡ ack_sizes
unfolding spelled
ack_sized ack is = let register = length-gas ack.register is.0 in rw register refl

length-fields : (source : Ghes) → IsGhes source → length (joined (ghes_fields source)) ≡ 64
length-fields source is = length-joined (ghes_fields source) ∙ ap total (ghes_sized source is)

length-ack_bytes : (ack : Option Ack) → IfSome ack IsAck → 64 + length (ack_bytes ack) ≡ size_of ack
length-ack_bytes None is = refl
length-ack_bytes (Some ack) is = ap (λ (n : ℕ). 64 + n) (length-joined (ack_fields ack) ∙ ap total (ack_sized ack is))

pub length-ghes : (source : Ghes) → IsGhes source → length (ghes_bytes source) ≡ size_of source.ack
unfolding ghes_bytes
length-ghes source is =
    length-append (joined (ghes_fields source)) (ack_bytes source.ack) ∙ ap (λ (n : ℕ). n + length (ack_bytes source.ack)) (length-fields source is) ∙ length-ack_bytes source.ack is.ack

-- the acknowledgement behind 64 bytes
ack_reads : (ack : Option Ack) (front more bytes : List ℕ) → IfSome ack IsAck → length front ≡ 64 → bytes ≡ (front ++ ack_bytes ack) ++ more → ack_by_type (type_of ack) bytes ≡ ack
ack_reads None front more bytes is size e = refl
ack_reads (Some ack) front more bytes is size e =
    let fields = ack_fields ack in
    let inner : part bytes 64 28 ≡ joined fields =
    ap (λ (xs : List ℕ). part xs 64 28) (e ∙ append_assoc front (joined fields) more)
    ∙ part-append_right front (joined fields ++ more) 64 0 28 (omega arith)
    ∙ part-first (joined fields) more 28 (length-joined fields ∙ ap total (ack_sized ack is)) in
    let cut : parts ack_sizes 0 (part bytes 64 28) ≡ fields = parts_of fields ack_sizes [] (part bytes 64 28) (ack_sized ack is) (inner ∙ sym (append-nil (joined fields))) in
    let field = λ (k : ℕ). ap (λ (xss : List (List ℕ)). get_or xss k []) cut in
    let register : gas_at (part bytes 64 12) ≡ ack.register = ap gas_at (sym (part-part bytes 64 28 0 12 (omega arith)) ∙ field 0) ∙ gas_reads ack.register is.0 in
    let preserve : number_at bytes 76 8 ≡ ack.preserve = number_of bytes 76 8 ack.preserve (sym (part-part bytes 64 28 12 8 (omega arith)) ∙ field 1) is.1 in
    let write : number_at bytes 84 8 ≡ ack.write = number_of bytes 84 8 ack.write (sym (part-part bytes 64 28 20 8 (omega arith)) ∙ field 2) is.2 in
    rw (register, preserve, write) refl

small_type : (ack : Option Ack) → type_of ack < 2 ^ 16
small_type None = omega arith
small_type (Some ack) = omega arith

-- a generic source that stands first is read again
pub record GhesReads (source : Ghes) (bytes : List ℕ) : Type 0 where
  pub kind_is : number_at bytes 0 2 ≡ type_of source.ack
  pub source_is : front_at bytes (ack_by_type (number_at bytes 0 2) bytes) ≡ source

pub ghes_reads : (source : Ghes) (bytes more : List ℕ) → IsGhes source → bytes ≡ ghes_bytes source ++ more → GhesReads source bytes
unfolding ghes_bytes
ghes_reads source bytes more is e =
    let front = joined (ghes_fields source) in
    let fields : parts ghes_sizes 0 bytes ≡ ghes_fields source =
    parts_of (ghes_fields source) ghes_sizes (ack_bytes source.ack ++ more) bytes (ghes_sized source is) (e ∙ append_assoc front (ack_bytes source.ack) more) in
    let field = λ (k : ℕ). ap (λ (xss : List (List ℕ)). get_or xss k []) fields in
    let kind = number_of bytes 0 2 (type_of source.ack) (field 0) (small_type source.ack) in
    let id = number_of bytes 2 2 source.id (field 1) is.id in
    let related = number_of bytes 4 2 source.related (field 2) is.related in
    let flags = number_of bytes 6 1 source.flags (field 3) is.flags in
    let enabled = number_of bytes 7 1 source.enabled (field 4) is.enabled in
    let records = number_of bytes 8 4 source.records (field 5) is.records in
    let sections = number_of bytes 12 4 source.sections (field 6) is.sections in
    let raw = number_of bytes 16 4 source.raw (field 7) is.raw in
    let status : gas_at (part bytes 20 12) ≡ source.status = ap gas_at (field 8) ∙ gas_reads source.status is.status in
    let block_len = number_of bytes 60 4 source.block_len (field 10) is.block_len in
    let ack : ack_by_type (number_at bytes 0 2) bytes ≡ source.ack =
    ap (λ (k : ℕ). ack_by_type k bytes) kind ∙ ack_reads source.ack front more bytes is.ack (length-fields source is) e in
    record { kind_is = kind; source_is = rw (id, related, flags, enabled, records, sections, raw, status, field 9, block_len, ack) refl }

-- what is read of a generic source is spelled so
is_ack : (bytes : List ℕ) → AreBytes bytes → 92 ≤ length bytes → IsAck (ack_at bytes)
is_ack bytes h k =
    (is_gas (part bytes 64 12) (AreBytes-part bytes 64 12 h) (length-part bytes 64 12 (omega arith)), number_at-lt bytes 76 8 h (omega arith), number_at-lt bytes 84 8 h (omega arith))

is_front : (bytes : List ℕ) (ack : Option Ack) → AreBytes bytes → 64 ≤ length bytes → IfSome ack IsAck → IsGhes (front_at bytes ack)
is_front bytes ack h k fits = record {
  id = number_at-lt bytes 2 2 h (omega arith);
  related = number_at-lt bytes 4 2 h (omega arith);
  flags = number_at-lt bytes 6 1 h (omega arith);
  enabled = number_at-lt bytes 7 1 h (omega arith);
  records = number_at-lt bytes 8 4 h (omega arith);
  sections = number_at-lt bytes 12 4 h (omega arith);
  raw = number_at-lt bytes 16 4 h (omega arith);
  status = is_gas (part bytes 20 12) (AreBytes-part bytes 20 12 h) (length-part bytes 20 12 (omega arith));
  notify = length-part bytes 32 28 (omega arith);
  block_len = number_at-lt bytes 60 4 h (omega arith);
  ack = fits;
}

front_again : (bytes : List ℕ) (ack : Option Ack) → AreBytes bytes → 64 ≤ length bytes → number_at bytes 0 2 ≡ type_of ack → joined (ghes_fields (front_at bytes ack)) ≡ part bytes 0 64
front_again bytes ack h k kind =
    let again = λ (at m : ℕ) (low : at + m ≤ 64). spelled-number_at bytes at m h (omega arith) in
    let a0 : spelled 2 (type_of ack) ≡ part bytes 0 2 = ap (spelled 2) (sym kind) ∙ again 0 2 (omega arith) in
    let status = gas_again (part bytes 20 12) (AreBytes-part bytes 20 12 h) (length-part bytes 20 12 (omega arith)) in
    let fields : ghes_fields (front_at bytes ack) ≡ parts ghes_sizes 0 bytes = rw (
      a0,
      again 2 2 (omega arith),
      again 4 2 (omega arith),
      again 6 1 (omega arith),
      again 7 1 (omega arith),
      again 8 4 (omega arith),
      again 12 4 (omega arith),
      again 16 4 (omega arith),
      again 60 4 (omega arith),
      status,
    ) refl in
    ap joined fields ∙ joined-parts ghes_sizes 0 bytes

ack_again : (bytes : List ℕ) → AreBytes bytes → 92 ≤ length bytes → joined (ack_fields (ack_at bytes)) ≡ part bytes 64 28
ack_again bytes h k =
    let a76 = spelled-number_at bytes 76 8 h (omega arith) in
    let a84 = spelled-number_at bytes 84 8 h (omega arith) in
    let register = gas_again (part bytes 64 12) (AreBytes-part bytes 64 12 h) (length-part bytes 64 12 (omega arith)) in
    let fields : ack_fields (ack_at bytes) ≡ parts ack_sizes 64 bytes = rw (register, a76, a84) refl in
    ap joined fields ∙ joined-parts ack_sizes 64 bytes

pub record GhesAgain (bytes : List ℕ) (n : ℕ) : Type 0 where
  pub is_ghes : IsGhes (front_at bytes (ack_by_type (number_at bytes 0 2) bytes))
  pub bytes_are : part bytes 0 n ≡ ghes_bytes (front_at bytes (ack_by_type (number_at bytes 0 2) bytes))

both_again : (bytes : List ℕ) (ack : Option Ack) (n : ℕ) → ack_by_type (number_at bytes 0 2) bytes ≡ ack → IsGhes (front_at bytes ack) →
    part bytes 0 n ≡ ghes_bytes (front_at bytes ack) → GhesAgain bytes n
both_again bytes ack n e is same = record {
  is_ghes = subst (λ (a : Option Ack). IsGhes (front_at bytes a)) (sym e) is;
  bytes_are = same ∙ ap (λ (a : Option Ack). ghes_bytes (front_at bytes a)) (sym e);
}

pub ghes_nine : (bytes : List ℕ) → AreBytes bytes → 64 ≤ length bytes → number_at bytes 0 2 ≡ 9 → GhesAgain bytes 64
unfolding ghes_bytes
ghes_nine bytes h k kind =
    both_again bytes None 64 (ap (λ (n : ℕ). ack_by_type n bytes) kind) (is_front bytes None h k tt)
    (sym (append-nil (joined (ghes_fields (front_at bytes None))) ∙ front_again bytes None h k kind))

pub ghes_ten : (bytes : List ℕ) → AreBytes bytes → 92 ≤ length bytes → number_at bytes 0 2 ≡ 10 → GhesAgain bytes 92
unfolding ghes_bytes
ghes_ten bytes h k kind =
    let ack = ack_at bytes in
    both_again bytes (Some ack) 92 (ap (λ (n : ℕ). ack_by_type n bytes) kind) (is_front bytes (Some ack) h (omega arith) (is_ack bytes h k))
    (sym (ap (λ (xs : List ℕ). xs ++ joined (ack_fields ack)) (front_again bytes (Some ack) h (omega arith) kind) ∙ ap (λ (xs : List ℕ). part bytes 0 64 ++ xs)
    (ack_again bytes h k) ∙ part-append bytes 0 64 28))

-- what `put` writes
pub wrote_nine : (source : Ghes) (old new : List ℕ) → source.ack ≡ None → Wrote old new 0 64 (joined (ghes_fields source)) → Wrote old new 0 64 (ghes_bytes source)
unfolding ghes_bytes
wrote_nine source old new none w =
    subst (Wrote old new 0 64) (sym (append-nil (joined (ghes_fields source))) ∙ ap (λ (a : Option Ack). joined (ghes_fields source) ++ ack_bytes a) (sym none)) w

pub wrote_ten : (source : Ghes) (ack : Ack) (old mid new : List ℕ) (end : ℕ) → source.ack ≡ Some ack → end ≡ 92 →
    Wrote old mid 0 64 (joined (ghes_fields source)) → Wrote mid new 64 92 (joined (ack_fields ack)) → Wrote old new 0 end (ghes_bytes source)
unfolding ghes_bytes
wrote_ten source ack old mid new end some e w x =
    subst (λ (n : ℕ). Wrote old new 0 n (joined (ghes_fields source) ++ ack_bytes source.ack)) (sym e)
    (subst (Wrote old new 0 92) (ap (λ (a : Option Ack). joined (ghes_fields source) ++ ack_bytes a) (sym some))
    (wrote_then old mid new 0 64 92 (joined (ghes_fields source)) (joined (ack_fields ack)) w x))
