-- Groups of an item's fields: what is written of one, and of several, one after another.
use Rattle.std.specs.Prelude.{ℕ, Bool, true, false, List, [], ◌∷◌, ◌++◌, codes, decimal, Option, Some, None}
use Rattle.apei_bytes.specs.Guid.{digits, guid_text}
use Rattle.field_lines.specs.Layouts.{Structure, structure_text}
use Rattle.field_lines.specs.Styles.{plain_line, plain_heading, json_member, json_heading, place_text}
use Rattle.field_lines.specs.declared.plain.Plain.{Plain}
use Rattle.show_findings.specs.Subjects.{section_title}
use Rattle.show_items.specs.Texts.{number_json, quoted}
use Rattle.show_items.specs.declared.groups.Group.{Group as GroupOfCode}
use Rattle.show_items.specs.declared.sheet.Form.{Form}
use Rattle.show_items.specs.declared.sheet.Form.TheVariants.{Text, Brief, Json}
use Rattle.show_items.specs.declared.sheet.Manner.{Manner}

-- a group's name, its number where there are several, the type of a section, and where it begins in its item
pub record Head : Type 0 where
  pub name : List ℕ
  pub index : Option ℕ
  pub guid : Option (List ℕ)
  pub base : ℕ

abbrev pub head_of : GroupOfCode → Head
head_of group = record { name = group.name.now; index = group.index; guid = group.kind; base = group.base }

-- a group that there is once, at the item's start
abbrev pub single : List ℕ → Head
single name = record { name = name; index = None; guid = None; base = 0 }

abbrev pub numbered : List ℕ → (index base : ℕ) → Head
numbered name index base = record { name = name; index = Some index; guid = None; base = base }

-- one whose type a GUID tells
abbrev pub typed : List ℕ → (index : ℕ) → (guid : List ℕ) → (base : ℕ) → Head
typed name index guid base = record { name = name; index = Some index; guid = Some guid; base = base }

-- the line of a group: ` 3`, and ` Platform Memory a5bc1114-..`, where there is a number and a type
abbrev pub index_text : Option ℕ → List ℕ
index_text None = []
index_text (Some index) = codes " " ++ decimal index

abbrev pub named_text : Option (List ℕ) → List ℕ
named_text None = []
named_text (Some title) = title ++ codes " "

abbrev pub type_text : List ℕ → List ℕ
type_text guid = codes " " ++ named_text (section_title (guid_text guid)) ++ guid_text guid

abbrev pub guid_line : Option (List ℕ) → List ℕ
guid_line None = []
guid_line (Some guid) = type_text guid

abbrev pub title : Head → List ℕ
title head = codes "  " ++ head.name ++ index_text head.index ++ guid_line head.guid ++ codes "\n"

-- the first members of its object
abbrev pub guid_json : Option (List ℕ) → List ℕ
guid_json None = codes "null"
guid_json (Some guid) = codes "\"" ++ guid_text guid ++ codes "\""

abbrev pub name_json : (base : ℕ) → (name : List ℕ) → List ℕ
name_json base name = codes "{\"offset\":" ++ decimal base ++ codes ",\"group\":" ++ quoted name

abbrev pub members : Head → List ℕ
members head =
    name_json head.base head.name ++ codes ",\"index\":" ++ number_json head.index ++ codes ",\"guid\":" ++ guid_json head.guid

-- what is written of a group, by the manner in which items are shown
abbrev pub Group : Type 0
Group = Manner → List ℕ

-- the fields of a body, by the table of its structure
abbrev pub indented : Bool → Plain
indented places = record { indent = 4; places = places }

abbrev pub fields_lines : Bool → Head → Structure → (body : List ℕ) → List ℕ
fields_lines places head structure body =
    title head ++ structure_text (plain_line (indented places)) (plain_heading (indented places)) head.base structure body

abbrev pub fields_json : Head → Structure → (body : List ℕ) → List ℕ
fields_json head structure body =
    members head ++ structure_text (λ depth base. json_member) (λ depth. json_heading) head.base structure body ++ codes "}"

abbrev pub fields_as : Form → Bool → Head → Structure → (body : List ℕ) → List ℕ
fields_as Json places head structure body = fields_json head structure body
fields_as form places head structure body = fields_lines places head structure body

abbrev pub fields_group : Head → Structure → (body : List ℕ) → Group
fields_group head structure body manner = fields_as manner.form manner.places head structure body

-- bytes whose fields nobody known names
abbrev pub bytes_lines : Bool → Head → (body : List ℕ) → List ℕ
bytes_lines places head body = title head ++ codes "    " ++ place_text places head.base ++ codes "bytes: " ++ digits body ++ codes "\n"

abbrev pub bytes_json : Head → (body : List ℕ) → List ℕ
bytes_json head body = members head ++ codes ",\"bytes\":\"" ++ digits body ++ codes "\"}"

abbrev pub bytes_as : Form → Bool → Head → (body : List ℕ) → List ℕ
bytes_as Json places head body = bytes_json head body
bytes_as form places head body = bytes_lines places head body

abbrev pub bytes_group : Head → (body : List ℕ) → Group
bytes_group head body manner = bytes_as manner.form manner.places head body

-- fields where the structure is known, and bytes where it isn't
abbrev pub group_by : Option Structure → Head → (body : List ℕ) → Group
group_by None head body = bytes_group head body
group_by (Some structure) head body = fields_group head structure body

-- in JSON a comma stands before each group of an item but the first
abbrev pub comma : (has_groups : Bool) → List ℕ
comma false = []
comma true = codes ","

-- one more group behind others of its item; the brief form has none
abbrev pub one_more : Form → (has_groups : Bool) → List ℕ → List ℕ
one_more Text has_groups text = text
one_more Brief has_groups text = []
one_more Json has_groups text = comma has_groups ++ text

abbrev pub has_one_more : Form → Bool → Bool
has_one_more Json has_groups = true
has_one_more form has_groups = has_groups

abbrev pub groups_text : Manner → (has_groups : Bool) → List Group → List ℕ
groups_text manner has_groups [] = []
groups_text manner has_groups (group ∷ groups) =
    one_more manner.form has_groups (group manner) ++ groups_text manner (has_one_more manner.form has_groups) groups

abbrev pub has_more : Form → Bool → List Group → Bool
has_more form has_groups [] = has_groups
has_more form has_groups (group ∷ groups) = has_more form (has_one_more form has_groups) groups
