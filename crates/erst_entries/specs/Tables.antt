-- Which bytes are an Error Record Serialization Table, and what is said of those that are none.
use Rattle.std.specs.Prelude.{◌≡◌, ℕ, ◌+◌, ◌*◌, ◌⊎◌, ◌==◌, ◌||◌, not, if◌then◌else◌, List, length, Option, Some, None, codes, map}
use Rattle.base_model.specs.Bytes.{part, number_at, joined}
use Rattle.apei_tables.specs.declared.headers.Header.{Header}
use Rattle.apei_tables.specs.Tables.{IsSealed, FindsTable, refusal as table_refusal}
use Rattle.erst_entries.specs.declared.entries.Entry.{Entry}
use Rattle.erst_entries.specs.declared.tables.ErstError.{ErstError}
use Rattle.erst_entries.specs.declared.tables.ErstError.TheVariants.{Table, HeaderSize, Count, Memory}
use Rattle.erst_entries.specs.Layout.{Erst, AreEntries, spelling, entry_spelling}

-- a sealed table that is these fields one after another, with as many entries as its count says
pub record IsErst (erst : Erst) (table : List ℕ) : Type 0 where
  pub sealed : IsSealed table
  pub spelled : table ≡ spelling erst
  pub named : erst.header.signature ≡ codes "ERST"
  pub size : (erst.header_size ≡ 48) ⊎ (erst.header_size ≡ 12)
  pub counted : length erst.entries ≡ erst.count

-- the first reason why bytes don't begin with such a table: that of any table, the header size, or a count that the length doesn't have
abbrev pub refusal : List ℕ → Option ErstError
refusal bytes =
    let size = number_at bytes 36 4 in
    let count = number_at bytes 44 4 in
    let all = number_at bytes 4 4 in
    elim (table_refusal (codes "ERST") 48 bytes) [
      | Some error ↦ Some (Table error)
      | None ↦
          if not (size == 48 || size == 12) then Some (HeaderSize size)
          else if not (all == 48 + 32 * count) then Some (Count count all)
          else None
    ]

-- such a table stands first, and this is its header
pub record FindsErst (bytes : List ℕ) (header : Header) (table : List ℕ) : Type 0 where
  pub finds : FindsTable (codes "ERST") 48 bytes header table
  pub size : (number_at bytes 36 4 ≡ 48) ⊎ (number_at bytes 36 4 ≡ 12)
  pub counted : length table ≡ 48 + 32 * number_at bytes 44 4

-- the entries from byte 48 on
pub record AreRead (table : List ℕ) (count : ℕ) (entries : List Entry) : Type 0 where
  pub many : length entries ≡ count
  pub spelled : part table 48 (32 * count) ≡ joined (map entry_spelling entries)
  pub fit : AreEntries entries

-- an error is the first reason, and want of memory is answered only where there is none
abbrev pub IsRefusal : List ℕ → ErstError → Type 0
IsRefusal bytes (Table error) = refusal bytes ≡ Some (Table error)
IsRefusal bytes (HeaderSize found) = refusal bytes ≡ Some (HeaderSize found)
IsRefusal bytes (Count found size) = refusal bytes ≡ Some (Count found size)
IsRefusal bytes Memory = refusal bytes ≡ None

-- the count, the length and the checksum are set, and all else is kept
pub record Finished (old new : Erst) : Type 0 where
  pub size : new.header.length ≡ 48 + 32 * length old.entries
  pub counted : new.count ≡ length old.entries
  pub header : new.header ≡ record old.header { length = new.header.length; checksum = new.header.checksum }
  pub others : new ≡ record old { header = new.header; count = new.count }
