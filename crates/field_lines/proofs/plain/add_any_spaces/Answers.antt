use Rattle.std.proofs.Common.{◌≡◌, ◌++◌, ℕ, List, take, replicate, ap, ◌∙◌}
use Rattle.std.proofs.lemmas.List.{take-replicate}
use Rattle.field_lines.proofs.plain.add_any_spaces.Goals as goal

pub returns : goal.returns
returns c =
    c.in_ok-extend_from_slice.ensures.items
    ∙ ap (λ (spaces : List ℕ). c.args.out.now.items ++ spaces) (take-replicate c.args.count 768 32 c.requires)
