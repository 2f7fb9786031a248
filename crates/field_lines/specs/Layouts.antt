-- Bodies with parts that repeat.
use Rattle.std.specs.Prelude.{ℕ, zero, suc, ◌+◌, ◌==◌, ◌&&◌, nat_lt, nat_le, min, Bool, true, false, if◌then◌else◌, List, [], ◌∷◌, ◌++◌, length, take, drop, map, filter, Option, Some, None, bytes_eq}
use Rattle.base_model.specs.Bytes.{part, little, joined}
use Rattle.apei_bytes.specs.Guid.{guid_text}
use Rattle.field_lines.specs.Numbers.{number_in, bits_of, validation, is_valid}
use Rattle.field_lines.specs.Fields.{Field, are_sound}
use Rattle.field_lines.specs.Walks.{fields_text, shows_any}

-- how many bytes a part has: always as many, as many as a number of the part says and some more, or all that are left
pub data Measure : Type 0 where
  fixed : ℕ → Measure
  told : ℕ → ℕ → ℕ → Measure
  rest : Measure

-- what a part has to say: a number, or a GUID, by its text
pub data Sign : Type 0 where
  number_sign : ℕ → ℕ → ℕ → Sign
  guid_sign : ℕ → List ℕ → Sign

-- what stands inside a part, from a place on
pub record Inside : Type 0 where
  pub name : List ℕ
  pub bit : Option ℕ
  pub sign : Sign
  pub at : ℕ
  pub fields : List Field

-- parts that stand one behind another, as many as some bits of a number of the body say
pub record Group : Type 0 where
  pub name : List ℕ
  pub count_at : ℕ
  pub count_width : ℕ
  pub low : ℕ
  pub bits : ℕ
  pub measure : Measure
  pub valid_at : ℕ
  pub fields : List Field
  pub inside : List Inside

-- a body: its fields, and its parts, the first of them at a place
pub record Structure : Type 0 where
  pub valid_at : ℕ
  pub fields : List Field
  pub groups_at : ℕ
  pub groups : List Group

abbrev pub inside : (name : List ℕ) → (bit : Option ℕ) → Sign → (at : ℕ) → List Field → Inside
inside name bit sign at fields = record { name = name; bit = bit; sign = sign; at = at; fields = fields }

abbrev pub group : (name : List ℕ) → (count_at count_width low bits : ℕ) → Measure → (valid_at : ℕ) → List Field → List Inside → Group
group name count_at count_width low bits measure valid_at fields inside = record {
  name = name;
  count_at = count_at;
  count_width = count_width;
  low = low;
  bits = bits;
  measure = measure;
  valid_at = valid_at;
  fields = fields;
  inside = inside;
}

abbrev pub structure : (valid_at : ℕ) → List Field → (groups_at : ℕ) → List Group → Structure
structure valid_at fields groups_at groups = record { valid_at = valid_at; fields = fields; groups_at = groups_at; groups = groups }

-- what is written beside fields: a heading of a part, by its number from 0 on, or of what stands inside one, and the end of either, and of all parts of a group
pub data Heading : Type 0 where
  part_heading : List ℕ → ℕ → Heading
  inside_heading : List ℕ → Heading
  end_heading : Heading
  end_of_parts : Heading

abbrev pub or_zero : Option ℕ → ℕ
or_zero None = 0
or_zero (Some number) = number

-- how many parts the body says that it has
abbrev pub parts_told : Group → List ℕ → ℕ
parts_told group body = bits_of (or_zero (number_in body group.count_at group.count_width)) group.low group.bits

abbrev pub told_size : Measure → List ℕ → ℕ
told_size (fixed count) bytes = count
told_size (told at width more) bytes = or_zero (number_in bytes at width) + more
told_size rest bytes = length bytes

-- how many bytes the part has that stands first
abbrev pub part_size : Measure → List ℕ → ℕ
part_size measure bytes = min (told_size measure bytes) (length bytes)

abbrev pub says : Option ℕ → ℕ → Bool
says None number = false
says (Some found) number = found == number

abbrev pub has_guid : List ℕ → ℕ → List ℕ → Bool
has_guid bytes at guid = if nat_lt (length bytes) (at + 16) then false else bytes_eq (guid_text (part bytes at 16)) guid

abbrev pub has_sign : Sign → List ℕ → Bool
has_sign (number_sign at width number) bytes = says (number_in bytes at width) number
has_sign (guid_sign at guid) bytes = has_guid bytes at guid

-- it begins within the part, a validation bit says so, and the part has its sign
abbrev pub is_told : ℕ → List ℕ → Inside → Bool
is_told valid bytes inside = nat_le inside.at (length bytes) && is_valid inside.bit valid && has_sign inside.sign bytes

-- the part tells of it, and one of its fields is shown
abbrev pub is_there : ℕ → List ℕ → Inside → Bool
is_there valid bytes inside = is_told valid bytes inside && shows_any 0 inside.fields (drop inside.at bytes)

-- How a style writes, at a depth and a place: a field of a body, and a heading.

-- what stands inside a part that begins at a place
abbrev pub inside_text : (ℕ → ℕ → Field → List ℕ → List ℕ) → (ℕ → ℕ → Heading → List ℕ) → (base : ℕ) → (bytes : List ℕ) → Inside → List ℕ
inside_text text heading base bytes inside =
    heading 1 (base + inside.at) (inside_heading inside.name)
    ++ fields_text (text 2 (base + inside.at)) 0 inside.fields (drop inside.at bytes)
    ++ heading 1 (base + inside.at) end_heading

abbrev pub all_inside_text : (ℕ → ℕ → Field → List ℕ → List ℕ) → (ℕ → ℕ → Heading → List ℕ) → (base valid : ℕ) → (bytes : List ℕ) → List Inside → List ℕ
all_inside_text text heading base valid bytes insides = joined (map (inside_text text heading base bytes) (filter (is_there valid bytes) insides))

-- a part of these bytes, with a number, that begins at a place
abbrev pub part_text : (ℕ → ℕ → Field → List ℕ → List ℕ) → (ℕ → ℕ → Heading → List ℕ) → Group → (index base : ℕ) → (bytes : List ℕ) → List ℕ
part_text text heading group index base bytes =
    heading 0 base (part_heading group.name index)
    ++ fields_text (text 1 base) group.valid_at group.fields bytes
    ++ all_inside_text text heading base (validation group.valid_at bytes) bytes group.inside
    ++ heading 0 base end_heading

abbrev pub end_text : (ℕ → ℕ → Heading → List ℕ) → (index base : ℕ) → List ℕ
end_text heading index base = if index == 0 then [] else heading 0 base end_of_parts

-- at most n parts from a place of a body on, up to its end
unfoldable pub parts_text : (ℕ → ℕ → Field → List ℕ → List ℕ) → (ℕ → ℕ → Heading → List ℕ) → (base : ℕ) → (body : List ℕ) → Group → (n index at : ℕ) → List ℕ
parts_text text heading base body group zero index at = end_text heading index (base + at)
parts_text text heading base body group (suc n) index at =
    if nat_lt at (length body) then
    part_text text heading group index (base + at) (part body at (part_size group.measure (drop at body)))
    ++ parts_text text heading base body group n (index + 1) (at + part_size group.measure (drop at body))
    else end_text heading index (base + at)

-- where they end
unfoldable pub parts_end : (body : List ℕ) → Group → (n at : ℕ) → ℕ
parts_end body group zero at = at
parts_end body group (suc n) at = if nat_lt at (length body) then parts_end body group n (at + part_size group.measure (drop at body)) else at

-- as many as the body says that it has
abbrev pub group_text : (ℕ → ℕ → Field → List ℕ → List ℕ) → (ℕ → ℕ → Heading → List ℕ) → (base : ℕ) → (body : List ℕ) → Group → (at : ℕ) → List ℕ
group_text text heading base body group at = parts_text text heading base body group (parts_told group body) 0 at

abbrev pub group_end : (body : List ℕ) → Group → (at : ℕ) → ℕ
group_end body group at = parts_end body group (parts_told group body) at

-- the parts of each group, one group behind another
abbrev pub groups_text : (ℕ → ℕ → Field → List ℕ → List ℕ) → (ℕ → ℕ → Heading → List ℕ) → (base : ℕ) → (body : List ℕ) → List Group → (at : ℕ) → List ℕ
groups_text text heading base body [] at = []
groups_text text heading base body (group ∷ groups) at =
    group_text text heading base body group at ++ groups_text text heading base body groups (group_end body group at)

-- the fields of a body and its parts; they begin at a place, or at the body's end where it ends before
abbrev pub structure_text : (ℕ → ℕ → Field → List ℕ → List ℕ) → (ℕ → ℕ → Heading → List ℕ) → (base : ℕ) → Structure → (body : List ℕ) → List ℕ
structure_text text heading base structure body =
    fields_text (text 0 base) structure.valid_at structure.fields body
    ++ groups_text text heading base body structure.groups (min structure.groups_at (length body))

-- a number has at most 8 bytes
abbrev pub is_number : ℕ → Bool
is_number width = nat_lt width 9

abbrev pub is_sound_measure : Measure → Bool
is_sound_measure (fixed count) = nat_lt 0 count
is_sound_measure (told at width more) = is_number width && nat_lt 0 more
is_sound_measure rest = true

abbrev pub is_sound_sign : Sign → Bool
is_sound_sign (number_sign at width number) = is_number width
is_sound_sign (guid_sign at guid) = true

abbrev pub are_sound_inside : List Inside → Bool
are_sound_inside [] = true
are_sound_inside (inside ∷ others) = is_sound_sign inside.sign && are_sound inside.fields && are_sound_inside others

abbrev pub is_sound_group : Group → Bool
is_sound_group group =
    is_number group.count_width && nat_lt group.low 64 && nat_lt group.bits 64 && is_sound_measure group.measure && are_sound group.fields && are_sound_inside group.inside

abbrev pub are_sound_groups : List Group → Bool
are_sound_groups [] = true
are_sound_groups (group ∷ groups) = is_sound_group group && are_sound_groups groups

-- numbers have at most 8 bytes, and no part is empty
abbrev pub is_sound_structure : Structure → Bool
is_sound_structure structure = are_sound structure.fields && are_sound_groups structure.groups
