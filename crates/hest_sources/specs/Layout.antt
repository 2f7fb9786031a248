-- The bytes of error source structures (ACPI 6.4, 18.3.2).
use Rattle.std.specs.Prelude.{◌≡◌, ℕ, ◌+◌, ◌*◌, ◌^◌, ◌<◌, ◌≤◌, List, [], ◌∷◌, ◌++◌, length, Option, Some, None, IfSome, false, ◌==◌, ◌||◌, nat_le, nat_lt, if◌then◌else◌, Result, Ok, Err}
use Rattle.base_model.specs.Bytes.{part, number_at, spelled, joined}
use Rattle.apei_tables.specs.declared.structure.Gas.{Gas}
use Rattle.apei_tables.specs.GasLayout.{spelling, IsGas}
use Rattle.hest_sources.specs.declared.sources.Ghes.{Ghes}
use Rattle.hest_sources.specs.declared.sources.Ack.{Ack}
use Rattle.hest_sources.specs.declared.sources.HestSource.{HestSource}
use Rattle.hest_sources.specs.declared.sources.HestSource.TheVariants.{Ghes as Generic, Other}
use Rattle.hest_sources.specs.declared.tables.HestError.{HestError}
use Rattle.hest_sources.specs.declared.tables.HestError.TheVariants.{UnknownType, Cut}

-- a source with a read acknowledgement is of type 10, one without of type 9
abbrev pub type_of : Option Ack → ℕ
type_of None = 9
type_of (Some ack) = 10

-- how many bytes a generic source has
abbrev pub size_of : Option Ack → ℕ
size_of None = 64
size_of (Some ack) = 92

-- the fields of a generic source, 64 bytes
abbrev pub ghes_fields : Ghes → List (List ℕ)
ghes_fields source =
    spelled 2 (type_of source.ack)
    ∷ spelled 2 source.id
    ∷ spelled 2 source.related
    ∷ spelled 1 source.flags
    ∷ spelled 1 source.enabled
    ∷ spelled 4 source.records
    ∷ spelled 4 source.sections
    ∷ spelled 4 source.raw
    ∷ spelling source.status
    ∷ source.notify
    ∷ spelled 4 source.block_len
    ∷ []

-- a generic source, with the 28 bytes of its acknowledgement where it has one
unfoldable pub ghes_bytes : Ghes → List ℕ
ghes_bytes source =
    joined (ghes_fields source) ++ elim source.ack [
      | None ↦ []
      | Some ack ↦ joined (spelling ack.register ∷ spelled 8 ack.preserve ∷ spelled 8 ack.write ∷ [])
    ]

-- each number fits its field, and the notification has its length
pub record IsGhes (source : Ghes) : Type 0 where
  pub id : source.id < 2 ^ 16
  pub related : source.related < 2 ^ 16
  pub flags : source.flags < 2 ^ 8
  pub enabled : source.enabled < 2 ^ 8
  pub records : source.records < 2 ^ 32
  pub sections : source.sections < 2 ^ 32
  pub raw : source.raw < 2 ^ 32
  pub status : IsGas source.status
  pub notify : length source.notify ≡ 28
  pub block_len : source.block_len < 2 ^ 32
  pub ack : IfSome source.ack (λ ack. IsGas ack.register × (ack.preserve < 2 ^ 64) × (ack.write < 2 ^ 64))

-- the length of a structure with machine check banks, whose number stands at a place
abbrev pub length_with_banks : ℕ → List ℕ → ℕ → ℕ → Result ℕ HestError
length_with_banks at bytes fixed place = if nat_le (length bytes) place then Err (Cut at) else Ok (fixed + 28 * number_at bytes place 1)

-- the length of a structure by its type: 0 machine check, 1 corrected machine check, 2 non-maskable interrupt, 6 to 8 PCI
-- Express, 9 and 10 generic, 11 deferred machine check
abbrev pub length_by_type : ℕ → ℕ → List ℕ → Result ℕ HestError
length_by_type kind at bytes =
    if kind == 0 then length_with_banks at bytes 40 32
    else if (kind == 1) || (kind == 11) then length_with_banks at bytes 48 44
    else if kind == 2 then Ok 20
    else if kind == 6 then Ok 48
    else if kind == 7 then Ok 44
    else if kind == 8 then Ok 56
    else if kind == 9 then Ok 64
    else if kind == 10 then Ok 92
    else Err (UnknownType at kind)

-- the bytes at a place are this source, all of them. One that isn't generic has the length that its type says
abbrev pub IsSource : ℕ → HestSource → List ℕ → Type 0
IsSource at (Generic source) bytes = IsGhes source × (bytes ≡ ghes_bytes source)
IsSource at (Other kind place len) bytes =
    (place ≡ at) × (len ≡ length bytes) × (2 ≤ length bytes) × (number_at bytes 0 2 ≡ kind)
    × (((kind == 9) || (kind == 10)) ≡ false) × (length_by_type kind at bytes ≡ Ok (length bytes))

-- the fields at their places
abbrev pub gas_at : List ℕ → Gas
gas_at bytes = record { space = number_at bytes 0 1; width = number_at bytes 1 1; offset = number_at bytes 2 1; access = number_at bytes 3 1; address = number_at bytes 4 8 }

abbrev pub front_at : List ℕ → Option Ack → Ghes
front_at bytes ack = record {
  id = number_at bytes 2 2;
  related = number_at bytes 4 2;
  flags = number_at bytes 6 1;
  enabled = number_at bytes 7 1;
  records = number_at bytes 8 4;
  sections = number_at bytes 12 4;
  raw = number_at bytes 16 4;
  status = gas_at (part bytes 20 12);
  notify = part bytes 32 28;
  block_len = number_at bytes 60 4;
  ack = ack;
}

unfoldable pub source_at : ℕ → List ℕ → ℕ → HestSource
source_at at bytes len =
    let kind = number_at bytes 0 2 in
    if (kind == 9) || (kind == 10) then Generic (front_at bytes (if kind == 10 then Some (record {
      register = gas_at (part bytes 64 12);
      preserve = number_at bytes 76 8;
      write = number_at bytes 84 8;
    }) else None))
    else Other kind at len

-- the length of the structure at a place, or why there is none
unfoldable pub structure_length : ℕ → List ℕ → Result ℕ HestError
structure_length at bytes =
    if nat_lt (length bytes) 2 then Err (Cut at)
    else elim (length_by_type (number_at bytes 0 2) at bytes) [
      | Ok len ↦ if nat_lt (length bytes) len then Err (Cut at) else Ok len
      | Err error ↦ Err error
    ]
