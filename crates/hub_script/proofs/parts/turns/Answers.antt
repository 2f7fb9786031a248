use Rattle.std.proofs.Common.{arith, sym, ◌∙◌, ◌≡◌, ℕ, ◌/◌, subst, length}
use Rattle.std.proofs.lemmas.Bool.{eqb-true, eqb-false}
use Rattle.hub_script.specs.Turns.{AreTurns}
use Rattle.script_lines.specs.Columns.{Breaks}
use Rattle.hub_script.proofs.TurnLemmas.{AreGood, good_more, turns_at, turns_full, turns_end}
use Rattle.hub_script.proofs.parts.turns.Goals.{then-is_empty-via-then-is_empty, then-is_empty-via-else-is_empty+then-text-eq1}
use Rattle.hub_script.proofs.parts.turns.Goals.{then-i-eq-MAX_TURNS-via-then-i-eq-MAX_TURNS, then-i-eq-MAX_TURNS-via-else-i-eq-MAX_TURNS+then-not-may_stand}
use Rattle.hub_script.proofs.parts.turns.Goals as goal

pub returns-then-i-eq-MAX_TURNS : goal.returns-then-i-eq-MAX_TURNS
returns-then-i-eq-MAX_TURNS c =
    elim c.then-i-eq-MAX_TURNS.branch [
      | then-i-eq-MAX_TURNS-via-then-i-eq-MAX_TURNS w ↦ subst (λ (k : ℕ). Breaks AreTurns c.args.text.now k) (sym w.if-i-eq-MAX_TURNS.true)
          (turns_full c.args.text.now (omega arith) (subst (λ (k : ℕ). AreGood c.args.text.now k) w.if-i-eq-MAX_TURNS.true c.loop-i.invariant.0))
      | then-i-eq-MAX_TURNS-via-else-i-eq-MAX_TURNS+then-not-may_stand w ↦ turns_at c.args.text.now c.loop-i.i c.loop-i-test.true
          (let h = w.if-i-eq-MAX_TURNS.false in let h' = c.loop-i.invariant.1 in omega arith) c.loop-i.invariant.0
          (sym w.may_stand.ensures ∙ w.if-not-may_stand.true)
    ]

pub loop-i-preserved : goal.loop-i-preserved
loop-i-preserved c = (
  good_more c.args.text.now c.loop-i.i c.loop-i.invariant.0 (sym c.may_stand.ensures ∙ c.if-not-may_stand.false),
  let h = c.if-i-eq-MAX_TURNS.false in let h' = c.loop-i.invariant.1 in omega arith,
)

pub returns-then-is_empty : goal.returns-then-is_empty
returns-then-is_empty c =
    let past = c.loop-i-test.false in
    let most = c.loop-i.invariant.1 in
    let good : AreGood c.args.text.now (length c.args.text.now) = λ k w. c.loop-i.invariant.0 k (omega (arith, w, past)) in
    elim c.then-is_empty.branch [
      | then-is_empty-via-then-is_empty w ↦
          let none : length c.args.text.now ≡ 0 = eqb-true (length c.args.text.now) 0 (sym c.is_empty.ensures ∙ w.if-is_empty.true) in
          turns_end c.args.text.now (omega (arith, past, most)) good (λ are. let some = are.some in omega (arith, some, none)) (omega (arith, none))
      | then-is_empty-via-else-is_empty+then-text-eq1 w ↦
          let odd = w.if-text-eq1.true in
          turns_end c.args.text.now (omega (arith, past, most)) good (λ are. let even = are.even.1 in omega (arith, even, odd)) (omega (arith, past, most, odd))
    ]

pub returns : goal.returns
returns c =
    let past = c.loop-i-test.false in
    let most = c.loop-i.invariant.1 in
    let other = eqb-false (length c.args.text.now) 0 (sym c.is_empty.ensures ∙ c.if-is_empty.false) in
    let even = c.if-text-eq1.false in
    record {
      each = λ k w. c.loop-i.invariant.0 k (omega (arith, w, past));
      even = (length c.args.text.now / 2, omega (arith, even));
      some = omega (arith, other);
      most = omega (arith, past, most);
    }
