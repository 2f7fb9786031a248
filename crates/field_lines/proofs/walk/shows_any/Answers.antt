use Rattle.std.proofs.Common.{◌≡◌, ℕ, Bool, List, length, map, ap, ◌∙◌, rules, tests}
use Rattle.std.specs.List.{list_any}
use Rattle.std.proofs.lemmas.Iterator.{YieldsList-from_slice}
use Rattle.std.proofs.lemmas.Iterator.Search.{any_from_yields_List}
use Rattle.field_lines.specs.Fields.{Field}
use Rattle.field_lines.specs.Walks.{is_shown}
use Rattle.field_lines.specs.Code.{field_of}
use Rattle.field_lines.specs.declared.field.Field.{Field as FieldOfCode}
use Rattle.field_lines.proofs.WalkLemmas.{list_any-map}
use Rattle.field_lines.proofs.walk.shows_any.Goals as goal

pub returns : goal.returns
returns c =
    let len : ℕ = length c.args.body.now in
    let fields : List Field = map field_of c.args.fields.now in
    let test : Field → Bool = is_shown c.validation-valid.result len in
    any_from_yields_List (λ (coded : FieldOfCode). test (field_of coded)) _ _ _ c.any.ensures.ran (YieldsList-from_slice c.args.fields.now cc) (λ x b q k. search (rules, tests))
    ∙ list_any-map test field_of c.args.fields.now
    ∙ ap (λ (valid : ℕ). list_any (is_shown valid len) fields) c.validation-valid.ensures
