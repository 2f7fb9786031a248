use Rattle.std.proofs.Common.{List, ℕ, ◌<◌, length, map, arith}
use Rattle.std.proofs.lemmas.List.{length-map}
use Rattle.std.proofs.lemmas.Grind.{common_steps}
use Rattle.field_lines.specs.Numbers.{validation}
use Rattle.field_lines.proofs.WalkLemmas.{first_register}
use Rattle.field_lines.proofs.walk.shows_register.Goals as goal

pub returns-then-not-is_empty : goal.returns-then-not-is_empty
returns-then-not-is_empty c =
    let names : List (List ℕ) = map (λ name. name.now) c.args.names.now in
    let some : 0 < length names = grind (arith, common_steps, length-map) in
    first_register (validation 0 c.args.body.now) (length c.args.body.now) c.args.width names some
