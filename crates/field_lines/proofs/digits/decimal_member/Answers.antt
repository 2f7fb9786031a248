use Rattle.std.proofs.Common.{◌++◌, ◌∷◌, [], ℕ, List, sym, ap, ◌∙◌, arith, append_assoc}
use Rattle.std.proofs.lemmas.Fmt.{decimal_digit}
use Rattle.std.specs.Prelude.{decimal}
use Rattle.field_lines.proofs.digits.decimal_member.Goals as goal

pub returns-then-number-lt10 : goal.returns-then-number-lt10
returns-then-number-lt10 c =
    let out : List ℕ = c.args.out.now.items in
    let colon : List ℕ = 34 ∷ 58 ∷ [] in
    c.in_ok-extend_from_slice.ensures.items
    ∙ ap (λ (few : List ℕ). out ++ (colon ++ few)) (sym (decimal_digit c.args.number (omega arith)))
    ∙ sym (append_assoc out colon (decimal c.args.number))
