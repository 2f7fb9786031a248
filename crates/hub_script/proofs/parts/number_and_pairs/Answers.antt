use Rattle.std.proofs.Common.{arith, inl, inr, subst, ℕ, List}
use Rattle.std.proofs.lemmas.Fmt.{decimal_nonempty}
use Rattle.std.proofs.lemmas.Slice.{between_to_end}
use Rattle.script_lines.specs.Columns.{Breaks}
use Rattle.script_lines.specs.Parts.{IsPairs}
use Rattle.hub_script.proofs.NumberLemmas.{number_alone, no_number, number_stops, number_goes}
use Rattle.hub_script.proofs.parts.number_and_pairs.Goals.{then-len-text-via-then-len-text, then-len-text-via-else-len-text+then-text-len-ne32}
use Rattle.hub_script.proofs.parts.number_and_pairs.Goals as goal

pub returns-in_default : goal.returns-in_default
returns-in_default c = number_alone c.args.text.now c.in_default.field-0 c.in_default.ensures.1 c.in_default.ensures.2

pub returns-in_default-number : goal.returns-in_default-number
returns-in_default-number c = no_number c.args.text.now c.in-Err.len c.in-Err.ensures c.in_default-number.ensures.outside

pub returns-then-len-text : goal.returns-then-len-text
returns-then-len-text c =
    number_stops c.args.text.now c.in-Ok.value c.in-Err.len c.in-Err.ensures c.in-Ok.ensures.2 c.in-Ok.ensures.1
    (elim c.then-len-text.branch [
      | then-len-text-via-then-len-text w ↦ inl w.if-len-text.true
      | then-len-text-via-else-len-text+then-text-len-ne32 w ↦ inr w.if-text-len-ne32.true
    ])

pub returns-in-Err-pairs : goal.returns-in-Err-pairs
returns-in-Err-pairs c =
    let within = c.in-Err.ensures.within in
    let other = c.if-len-text.false in
    let most = c.in-Ok.ensures.1 in
    number_goes c.args.text.now c.in-Ok.value c.in-Err.len c.in-Err-pairs.reach c.in-Err.ensures c.in-Ok.ensures.2 most
    (decimal_nonempty c.in-Ok.value (omega (arith, most))) (omega (arith, within, other)) c.if-text-len-ne32.false
    (subst (λ (t : List ℕ). Breaks IsPairs t c.in-Err-pairs.reach) (between_to_end c.args.text.now _ _ (omega arith)) c.in-Err-pairs.ensures)
