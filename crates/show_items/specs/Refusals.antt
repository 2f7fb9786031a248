-- What Linux will not take of a table: a group for each entry, source or region that it refuses, behind the table's other groups.
use Rattle.std.specs.Prelude.{ℕ, zero, suc, ◌+◌, nat_lt, Bool, true, false, if◌then◌else◌, List, [], ◌∷◌, ◌++◌, length, codes, Option, Some, None, Result, Ok, Err}
use Rattle.base_model.specs.Bytes.{part}
use Rattle.field_lines.specs.Styles.{place_text}
use Rattle.hest_sources.specs.declared.tables.HestError.{HestError}
use Rattle.item_parts.specs.declared.items.Item.{Item}
use Rattle.item_parts.specs.declared.items.Item.TheVariants.{Erst, Hest, Bert}
use Rattle.linux_checks.specs.declared.reasons.Refusal.{Refusal}
use Rattle.linux_checks.specs.Bert.{region_refusal}
use Rattle.linux_checks.specs.Erst.{instruction_refusal}
use Rattle.linux_checks.specs.Hest.{source_refusal}
use Rattle.linux_checks.specs.Reasons.{reason_text}
use Rattle.show_findings.specs.Places.{seen_number}
use Rattle.show_items.specs.Groups.{Group, Head, members, numbered, single, title}
use Rattle.show_items.specs.TablePlaces.{instruction_at, source_kind, source_length}
use Rattle.show_items.specs.Texts.{quoted}
use Rattle.show_items.specs.declared.sheet.Form.{Form}
use Rattle.show_items.specs.declared.sheet.Form.TheVariants.{Json}

-- the words of a reason
abbrev pub reason_lines : (places : Bool) → Head → (reason : List ℕ) → List ℕ
reason_lines places head reason =
    title head ++ codes "    " ++ place_text places head.base ++ codes "by Linux: " ++ reason ++ codes "\n"

abbrev pub reason_json : Head → (reason : List ℕ) → List ℕ
reason_json head reason = members head ++ codes ",\"by Linux\":" ++ quoted reason ++ codes "}"

abbrev pub reason_as : Form → (places : Bool) → Head → (reason : List ℕ) → List ℕ
reason_as Json places head reason = reason_json head reason
reason_as form places head reason = reason_lines places head reason

abbrev pub reason_group : Head → (reason : List ℕ) → Group
reason_group head reason manner = reason_as manner.form manner.places head reason

-- the group of what is refused begins where that stands
abbrev pub moved : Head → (by : ℕ) → Head
moved head by = record { name = head.name; index = head.index; guid = head.guid; base = head.base + by }

abbrev pub refusal_groups : Head → Option Refusal → List Group
refusal_groups head None = []
refusal_groups head (Some refused) = reason_group (moved head refused.at) (reason_text refused.reason) ∷ []

-- of so many instruction entries, from one on; they end with the first that isn't all there
abbrev pub entry_refusals : (index : ℕ) → (entry : List ℕ) → List Group
entry_refusals index entry =
    refusal_groups (numbered (codes "refused entry") index (instruction_at index)) (instruction_refusal entry)

abbrev pub refused_entries : List ℕ → (count index : ℕ) → List Group
refused_entries bytes zero index = []
refused_entries bytes (suc count) index =
    if nat_lt (length bytes) (instruction_at index + 32) then []
    else entry_refusals index (part bytes (instruction_at index) 32) ++ refused_entries bytes count (suc index)

-- of so many error sources, from one on; they end where no type is left, and with the first whose length isn't known
abbrev pub source_refusals : (index at kind : ℕ) → (source : List ℕ) → List Group
source_refusals index at kind source =
    refusal_groups (numbered (codes "refused source") index at) (source_refusal kind source)

abbrev pub refused_and_more : List ℕ → (index at : ℕ) → Result ℕ HestError → (behind : ℕ → List Group) → List Group
refused_and_more bytes index at (Err error) behind = []
refused_and_more bytes index at (Ok size) behind =
    source_refusals index at (source_kind bytes at) (part bytes at size) ++ behind (at + size)

abbrev pub refused_sources : List ℕ → (count index at : ℕ) → List Group
refused_sources bytes zero index at = []
refused_sources bytes (suc count) index at =
    if nat_lt (length bytes) (at + 2) then []
    else refused_and_more bytes index at (source_length bytes at) (λ next. refused_sources bytes count (suc index) next)

-- of a table whose fields are known
abbrev pub refused_groups : Option Item → List ℕ → List Group
refused_groups (Some Erst) bytes = refused_entries bytes (seen_number bytes 44 4) 0
refused_groups (Some Hest) bytes = refused_sources bytes (seen_number bytes 36 4) 0 40
refused_groups (Some Bert) bytes = refusal_groups (single (codes "refused region")) (region_refusal bytes)
refused_groups other bytes = []

-- Linux refuses something of it
abbrev pub has_any : List Group → Bool
has_any [] = false
has_any (group ∷ groups) = true
