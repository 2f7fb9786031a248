-- Tables (ACPI 6.4, sections 5.2.6, 18.3 and 18.5.1): the groups of one, and whether it is bad.
use Rattle.std.specs.Prelude.{◌≡◌, ℕ, zero, suc, ◌+◌, ◌||◌, Bool, if◌then◌else◌, nat_lt, List, [], ◌∷◌, ◌++◌, length, codes, Option, Some, None, is_some, Result, Ok, Err}
use Rattle.base_model.specs.Bytes.{part}
use Rattle.field_lines.specs.Layouts.{Structure}
use Rattle.hest_sources.specs.declared.tables.HestError.{HestError}
use Rattle.item_parts.specs.declared.items.Item.{Item}
use Rattle.item_parts.specs.declared.items.Item.TheVariants.{Erst, Hest, Bert}
use Rattle.show_findings.specs.declared.faults.Fault.{Fault}
use Rattle.show_findings.specs.Places.{seen_number}
use Rattle.show_findings.specs.Signatures.{begins}
use Rattle.show_items.specs.Groups.{Group, fields_group, group_by, numbered, single}
use Rattle.show_items.specs.Items.{Shown}
use Rattle.show_items.specs.Judged.{IsFinding, IsShownAs}
use Rattle.show_items.specs.Refusals.{has_any, refused_groups}
use Rattle.show_items.specs.TablePlaces.{instruction_at, source_kind, source_length}
use Rattle.field_lines.specs.Erst.{erst_entry, erst_header}
use Rattle.field_lines.specs.Headers.{bert_fields, hest_header, table_header}
use Rattle.field_lines.specs.Sources.{source_tables, structure_in}

-- what a table is by its signature, where its fields are known
abbrev pub table_of : List ℕ → Option Item
table_of bytes =
    if begins (codes "ERST") bytes then Some Erst
    else if begins (codes "HEST") bytes then Some Hest
    else if begins (codes "BERT") bytes then Some Bert
    else None

-- the fields that stand in so many of its first bytes
abbrev pub fixed_group : List ℕ → Structure → (size : ℕ) → List ℕ → Group
fixed_group name structure size bytes = fields_group (single name) structure (part bytes 0 size)

abbrev pub header_group : List ℕ → Group
header_group bytes = fixed_group (codes "header") table_header 36 bytes

-- an instruction entry of an ERST
abbrev pub instruction_group : (index : ℕ) → (entry : List ℕ) → Group
instruction_group index entry = fields_group (numbered (codes "entry") index (instruction_at index)) erst_entry entry

-- so many entries, from one on; they end with the first that isn't all there
abbrev pub instruction_groups : List ℕ → (count index : ℕ) → List Group
instruction_groups bytes zero index = []
instruction_groups bytes (suc count) index =
    if nat_lt (length bytes) (instruction_at index + 32) then []
    else instruction_group index (part bytes (instruction_at index) 32) ∷ instruction_groups bytes count (suc index)

-- an error source of a HEST
abbrev pub source_group : (index at kind : ℕ) → (source : List ℕ) → Group
source_group index at kind source = group_by (structure_in source_tables kind) (numbered (codes "source") index at) source

-- one whose length is known, and those behind it
abbrev pub source_and_more : List ℕ → (index at : ℕ) → Result ℕ HestError → (behind : ℕ → List Group) → List Group
source_and_more bytes index at (Err error) behind = []
source_and_more bytes index at (Ok size) behind =
    source_group index at (source_kind bytes at) (part bytes at size) ∷ behind (at + size)

-- so many sources, from one on; they end where no type is left, and with the first whose length isn't known
abbrev pub source_groups : List ℕ → (count index at : ℕ) → List Group
source_groups bytes zero index at = []
source_groups bytes (suc count) index at =
    if nat_lt (length bytes) (at + 2) then []
    else source_and_more bytes index at (source_length bytes at) (λ next. source_groups bytes count (suc index) next)

-- what stands behind the header, where the fields of the table are known
abbrev pub groups_behind : Option Item → List ℕ → List Group
groups_behind (Some Erst) bytes =
    fixed_group (codes "table") erst_header 48 bytes ∷ instruction_groups bytes (seen_number bytes 44 4) 0
groups_behind (Some Hest) bytes =
    fixed_group (codes "table") hest_header 40 bytes ∷ source_groups bytes (seen_number bytes 36 4) 0 40
groups_behind (Some Bert) bytes = fixed_group (codes "table") bert_fields 48 bytes ∷ []
groups_behind other bytes = []

-- and behind that what Linux refuses
abbrev pub table_groups : List ℕ → List Group
table_groups bytes = header_group bytes ∷ groups_behind (table_of bytes) bytes ++ refused_groups (table_of bytes) bytes

abbrev pub is_refused : List ℕ → Bool
is_refused bytes = has_any (refused_groups (table_of bytes) bytes)

-- of a table whose fields are not known no fault is told
abbrev pub IsTableFault : Option Item → List ℕ → Option Fault → Type 0
IsTableFault None bytes fault = fault ≡ None
IsTableFault (Some table) bytes fault = IsFinding table bytes fault

-- a table that begins at a place of its file; one of which Linux refuses something is bad
pub record IsTable (at : Option ℕ) (bytes : List ℕ) (item : Shown) : Type 0 where
  pub heading : IsShownAs (codes "table") at bytes item
  pub groups : item.groups ≡ table_groups bytes
  pub finding : IsTableFault (table_of bytes) bytes item.fault
  pub bad : item.bad ≡ (is_refused bytes || is_some item.fault)
