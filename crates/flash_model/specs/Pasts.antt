-- How the logic keeps the changes of a flash.
use Rattle.std.specs.Prelude.{◌≡◌, ℕ, List, refl}
use Rattle.std.specs.Coded.{Coded, code_by, coded×, coded_ℕ, coded_list}
use Rattle.base_model.specs.Flash.{Change}

-- a change: the image before it, and its range
abbrev Fields : Type 0
Fields = List ℕ × (ℕ × ℕ)

abbrev fields_of : Change → Fields
fields_of change = (change.before, (change.at, change.len))

abbrev change_of : Fields → Change
change_of fields = record { before = fields.0; at = fields.1.0; len = fields.1.1 }

pub change_of-fields_of : (change : Change) → change_of (fields_of change) ≡ change
change_of-fields_of change = refl

abbrev pub changes_code : Coded (List Change)
changes_code = coded_list (code_by Fields (coded× (coded_list coded_ℕ) (coded× coded_ℕ coded_ℕ)) fields_of change_of change_of-fields_of)
