-- An item: what is written of one, and of several, one after another.
use Rattle.std.specs.Prelude.{◌≡◌, ℕ, ◌+◌, ◌-◌, ◌^◌, ◌==◌, min, Bool, true, false, ◌||◌, if◌then◌else◌, List, [], ◌∷◌, ◌++◌, length, codes, decimal, Option, Some, None, option_map, string_bytes}
use Rattle.show_findings.specs.declared.faults.Fault.{Fault}
use Rattle.show_items.specs.Groups.{Group, groups_text}
use Rattle.show_items.specs.Texts.{bold, colored, number_json, quoted, red}
use Rattle.show_items.specs.declared.sheet.Form.{Form}
use Rattle.show_items.specs.declared.sheet.Form.TheVariants.{Text, Brief, Json}
use Rattle.show_items.specs.declared.sheet.Item.{Item as ItemOfCode}
use Rattle.show_items.specs.declared.sheet.Manner.{Manner}

-- its word, where it begins in its file, how many bytes it has, and the sentence that says what happened
pub record Heading : Type 0 where
  pub kind : List ℕ
  pub at : Option ℕ
  pub size : ℕ
  pub sentence : List ℕ

abbrev pub heading_of : ItemOfCode → (sentence : List ℕ) → Heading
heading_of item sentence = record { kind = item.kind.now; at = item.at; size = length item.bytes.now; sentence = sentence }

-- what stands behind the heading: its groups, its fault, and whether it is bad
pub record Shown : Type 0 where
  pub heading : Heading
  pub groups : List Group
  pub fault : Option Fault
  pub bad : Bool
  -- the structures of the SMBIOS that name its parts
  pub smbios : Option (List ℕ)

-- the structures that a manner has; in the brief form there are no parts
abbrev pub smbios_as : Form → Option (List ℕ) → Option (List ℕ)
smbios_as Brief smbios = None
smbios_as form smbios = smbios

abbrev pub smbios_of : Manner → Option (List ℕ)
smbios_of manner = smbios_as manner.form (option_map (λ it. it.now) manner.smbios)

-- the parts of all items are named by the same structures
abbrev pub AreNamedBy : (smbios : Option (List ℕ)) → List Shown → Type 0
AreNamedBy smbios [] = Unit {0}
AreNamedBy smbios (item ∷ items) = (item.smbios ≡ smbios) × AreNamedBy smbios items

-- an empty line stands before each item but the first, and a path before each item where there are several files
abbrev pub gap : (count : ℕ) → List ℕ
gap count = if count == 0 then [] else codes "\n"

abbrev pub path_before : (is_named : Bool) → (path : List ℕ) → List ℕ
path_before false path = []
path_before true path = path ++ codes ": "

-- its file, how many items of it stand before, where it stands, how long it is, its word and its sentence
abbrev pub file_json : (path : List ℕ) → (count : ℕ) → List ℕ
file_json path count = codes "{\"file\":" ++ quoted path ++ codes ",\"item\":" ++ decimal count

abbrev pub extent_json : (at : Option ℕ) → (size : ℕ) → List ℕ
extent_json at size = codes ",\"at\":" ++ number_json at ++ codes ",\"bytes\":" ++ decimal size

abbrev pub kind_json : (kind sentence : List ℕ) → List ℕ
kind_json kind sentence = codes ",\"kind\":" ++ quoted kind ++ codes ",\"summary\":" ++ quoted sentence ++ codes ",\"groups\":["

abbrev pub heading_json : (path : List ℕ) → (count : ℕ) → Heading → List ℕ
heading_json path count heading =
    file_json path count ++ extent_json heading.at heading.size ++ kind_json heading.kind heading.sentence

abbrev pub heading_as : Form → Manner → (path : List ℕ) → (count : ℕ) → Heading → List ℕ
heading_as Text manner path count heading = gap count ++ colored manner.colored bold heading.sentence ++ codes "\n"
heading_as Brief manner path count heading = path_before manner.named path ++ colored manner.colored bold heading.sentence
heading_as Json manner path count heading = heading_json path count heading

abbrev pub heading_text : Manner → (path : List ℕ) → (count : ℕ) → Heading → List ℕ
heading_text manner path count heading = heading_as manner.form manner path count heading

-- a fault: its place and its words
abbrev pub fault_text : Manner → Fault → List ℕ
fault_text manner fault = colored manner.colored red (codes "bad") ++ codes " at " ++ decimal fault.at ++ codes ": " ++ string_bytes fault.says

abbrev pub fault_json : Fault → List ℕ
fault_json fault = codes "{\"offset\":" ++ decimal fault.at ++ codes ",\"says\":" ++ quoted (string_bytes fault.says) ++ codes "}"

abbrev pub bad_json : Fault → List ℕ
bad_json fault = codes "],\"bad\":" ++ fault_json fault ++ codes "}\n"

-- how an item ends
abbrev pub end_as : Form → Manner → Option Fault → List ℕ
end_as Text manner None = []
end_as Text manner (Some fault) = codes "  " ++ fault_text manner fault ++ codes "\n"
end_as Brief manner None = codes "\n"
end_as Brief manner (Some fault) = codes " - " ++ fault_text manner fault ++ codes "\n"
end_as Json manner None = codes "],\"bad\":null}\n"
end_as Json manner (Some fault) = bad_json fault

abbrev pub end_text : Manner → Option Fault → List ℕ
end_text manner fault = end_as manner.form manner fault

abbrev pub item_text : Manner → (path : List ℕ) → (count : ℕ) → Shown → List ℕ
item_text manner path count item =
    heading_text manner path count item.heading ++ groups_text manner false item.groups ++ end_text manner item.fault

-- a count stops at its last value
abbrev pub counted : (number more : ℕ) → ℕ
counted number more = min (number + more) (2 ^ 64 - 1)

-- the items of a file, of which so many stand before these
abbrev pub items_text : Manner → (path : List ℕ) → (count : ℕ) → List Shown → List ℕ
items_text manner path count [] = []
items_text manner path count (item ∷ items) = item_text manner path count item ++ items_text manner path (counted count 1) items

abbrev pub count_after : (count : ℕ) → List Shown → ℕ
count_after count [] = count
count_after count (item ∷ items) = count_after (counted count 1) items

abbrev pub bad_after : (has_bad : Bool) → List Shown → Bool
bad_after has_bad [] = has_bad
bad_after has_bad (item ∷ items) = bad_after (item.bad || has_bad) items
