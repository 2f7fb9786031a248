-- The bytes of an Error Record Serialization Table (ACPI 6.4, section 18.5.1).
use Rattle.std.specs.Prelude.{ℕ, ◌<◌, ◌^◌, List, [], ◌∷◌, ◌++◌, map}
use Rattle.base_model.specs.Bytes.{spelled, joined}
use Rattle.apei_tables.specs.GasLayout.{spelling as gas_spelling, IsGas}
use Rattle.apei_tables.specs.declared.headers.Header.{Header}
use Rattle.apei_tables.specs.Layout.{spelling as header_spelling, IsHeader}
use Rattle.erst_entries.specs.declared.entries.Entry.{Entry}

-- an entry's 32 bytes: action, instruction, flags and reserved byte; the register region; value; mask
unfoldable pub entry_spelling : Entry → List ℕ
entry_spelling entry = joined (
    (entry.action ∷ entry.code ∷ entry.flags ∷ entry.spare ∷ []) ∷ gas_spelling entry.region ∷ spelled 8 entry.value ∷ spelled 8 entry.mask ∷ [])

-- each number of an entry fits its field
pub record IsEntry (entry : Entry) : Type 0 where
  pub action : entry.action < 256
  pub code : entry.code < 256
  pub flags : entry.flags < 256
  pub spare : entry.spare < 256
  pub region : IsGas entry.region
  pub value : entry.value < 2 ^ 64
  pub mask : entry.mask < 2 ^ 64

abbrev pub AreEntries : List Entry → Type 0
AreEntries [] = Unit {0}
AreEntries (entry ∷ entries) = IsEntry entry × AreEntries entries

-- a table as its fields: the common header, the serialization header size, the reserved number, the entry count, the entries
pub record Erst : Type 0 where
  pub header : Header
  pub header_size : ℕ
  pub reserved : ℕ
  pub count : ℕ
  pub entries : List Entry

-- the 48 bytes before the entries
unfoldable pub front_spelling : Erst → List ℕ
front_spelling erst = header_spelling erst.header ++ spelled 4 erst.header_size ++ spelled 4 erst.reserved ++ spelled 4 erst.count

-- the fields one after another
unfoldable pub spelling : Erst → List ℕ
spelling erst = front_spelling erst ++ joined (map entry_spelling erst.entries)

-- each field fits its place
pub record FitsErst (erst : Erst) : Type 0 where
  pub header : IsHeader erst.header
  pub header_size : erst.header_size < 2 ^ 32
  pub reserved : erst.reserved < 2 ^ 32
  pub count : erst.count < 2 ^ 32
  pub entries : AreEntries erst.entries
