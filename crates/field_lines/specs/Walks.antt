-- Fields of a body, as a style writes each.
use Rattle.std.specs.Prelude.{ℕ, ◌+◌, Bool, false, if◌then◌else◌, nat_lt, List, length, map, filter}
use Rattle.std.specs.List.{list_any}
use Rattle.base_model.specs.Bytes.{joined}
use Rattle.field_lines.specs.Numbers.{validation, is_valid}
use Rattle.field_lines.specs.Fields.{Field}

-- a field that is valid, in a body of so many bytes
abbrev pub is_shown : ℕ → ℕ → Field → Bool
is_shown valid len field = if nat_lt len (field.at + field.width) then false else is_valid field.bit valid

-- each field that is valid and within the body, once, in their order
abbrev pub fields_text : (Field → List ℕ → List ℕ) → (valid_at : ℕ) → List Field → (body : List ℕ) → List ℕ
fields_text text valid_at fields body = joined (map (λ field. text field body) (filter (is_shown (validation valid_at body) (length body)) fields))

-- whether a body has one of the fields to show
abbrev pub shows_any : (valid_at : ℕ) → List Field → (body : List ℕ) → Bool
shows_any valid_at fields body = list_any (is_shown (validation valid_at body) (length body)) fields
