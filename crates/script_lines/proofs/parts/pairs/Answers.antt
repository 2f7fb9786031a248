use Rattle.std.proofs.Common.{arith, sym, ◌∙◌, ◌≡◌, ℕ, ◌/◌, subst, List, length}
use Rattle.std.specs.Prelude.{All, IsTrue}
use Rattle.std.specs.Char.{is_ascii_hexdigit}
use Rattle.std.proofs.lemmas.Bool.{eqb-true, eqb-false}
use Rattle.std.proofs.lemmas.List.{take_all}
use Rattle.script_lines.proofs.PairLemmas.{pairs_end}
use Rattle.script_lines.proofs.parts.pairs.Goals.{then-is_empty-via-then-is_empty, then-is_empty-via-else-is_empty+then-text-eq1}
use Rattle.script_lines.proofs.parts.pairs.Goals as goal

pub returns-then-is_empty : goal.returns-then-is_empty
returns-then-is_empty c =
    pairs_end c.args.text.now (subst (λ (t : List ℕ). All (λ x. IsTrue (is_ascii_hexdigit x)) t) (sym (take_all (length c.args.text.now) c.args.text.now (omega arith))) (c.in_default.ensures))
    (λ is. elim c.then-is_empty.branch [
      | then-is_empty-via-then-is_empty w ↦ (let none : length c.args.text.now ≡ 0 = eqb-true (length c.args.text.now) 0
          (sym c.is_empty.ensures ∙ w.if-is_empty.true) in let some = is.some in omega arith)
      | then-is_empty-via-else-is_empty+then-text-eq1 w ↦ (let odd = w.if-text-eq1.true in let even = is.even.1 in omega arith)
    ])

pub returns : goal.returns
returns c =
    let other = eqb-false (length c.args.text.now) 0 (sym c.is_empty.ensures ∙ c.if-is_empty.false) in
    record {
      digits = c.in_default.ensures;
      even = (length c.args.text.now / 2, let h = c.if-text-eq1.false in omega arith);
      some = omega arith;
    }
