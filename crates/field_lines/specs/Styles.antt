-- How a field and a heading are written: as a line of text, and as a member of a JSON object.
use Rattle.std.specs.Prelude.{ℕ, zero, suc, ◌+◌, ◌*◌, ◌==◌, Bool, true, false, if◌then◌else◌, List, [], ◌∷◌, ◌++◌, codes, decimal, replicate}
use Rattle.field_lines.specs.Fields.{Field}
use Rattle.field_lines.specs.Values.{value_text, value_json, field_bytes}
use Rattle.field_lines.specs.Layouts.{Heading, part_heading, inside_heading, end_heading, end_of_parts}
use Rattle.field_lines.specs.declared.plain.Plain.{Plain}

-- `[128] `, where places are wanted
abbrev pub place_text : Bool → ℕ → List ℕ
place_text places at = if places then codes "[" ++ decimal at ++ codes "] " else []

-- two spaces more at each depth
abbrev pub margin : Plain → (depth at : ℕ) → List ℕ
margin plain depth at = replicate (plain.indent + 2 * depth) 32 ++ place_text plain.places at

abbrev pub plain_line : Plain → (depth base : ℕ) → Field → (body : List ℕ) → List ℕ
plain_line plain depth base field body =
    margin plain depth (base + field.at) ++ field.name ++ codes ": " ++ value_text field.shown (field_bytes field body) ++ codes "\n"

abbrev pub plain_heading : Plain → (depth base : ℕ) → Heading → List ℕ
plain_heading plain depth base (part_heading name index) = margin plain depth base ++ name ++ codes " " ++ decimal index ++ codes "\n"
plain_heading plain depth base (inside_heading name) = margin plain depth base ++ name ++ codes "\n"
plain_heading plain depth base end_heading = []
plain_heading plain depth base end_of_parts = []

-- `,"name":value`: a comma before each member
abbrev pub json_member : Field → (body : List ℕ) → List ℕ
json_member field body = codes ",\"" ++ field.name ++ codes "\":" ++ value_json field.shown (field_bytes field body)

-- an object whose first member says where it stands
abbrev pub json_offset : ℕ → List ℕ
json_offset base = codes "{\"offset\":" ++ decimal base

-- parts are an array, and what stands inside one is an object
abbrev pub json_heading : (base : ℕ) → Heading → List ℕ
json_heading base (part_heading name index) =
    (if index == 0 then codes ",\"" ++ name ++ codes "\":[" else codes ",") ++ json_offset base
json_heading base (inside_heading name) = codes ",\"" ++ name ++ codes "\":" ++ json_offset base
json_heading base end_heading = codes "}"
json_heading base end_of_parts = codes "]"
