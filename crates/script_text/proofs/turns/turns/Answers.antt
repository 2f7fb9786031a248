use Rattle.std.proofs.Common.{arith, sym, ◌∙◌, ◌≡◌, ℕ, subst, List, length, take}
use Rattle.std.specs.Prelude.{All, IsTrue, ◌==◌, ◌||◌}
use Rattle.std.proofs.lemmas.Bool.{eqb-true, eqb-false}
use Rattle.std.proofs.lemmas.List.{take_all}
use Rattle.std.proofs.lemmas.List.Elements.{All-more}
use Rattle.script_text.specs.Turns.{IsTurns}
use Rattle.script_lines.specs.Columns.{Breaks}
use Rattle.script_text.proofs.TurnLemmas.{turns_at, turns_full, turns_none}
use Rattle.script_text.proofs.turns.turns.Goals.{then-i-eq-MAX_TURNS-via-then-i-eq-MAX_TURNS, then-i-eq-MAX_TURNS-via-else-i-eq-MAX_TURNS+then-not-is_turn}
use Rattle.script_text.proofs.turns.turns.Goals as goal

pub returns-then-i-eq-MAX_TURNS : goal.returns-then-i-eq-MAX_TURNS
returns-then-i-eq-MAX_TURNS c =
    elim c.then-i-eq-MAX_TURNS.branch [
      | then-i-eq-MAX_TURNS-via-then-i-eq-MAX_TURNS w ↦ subst (λ (k : ℕ). Breaks IsTurns c.args.text.now k) (sym w.if-i-eq-MAX_TURNS.true)
          (turns_full c.args.text.now (omega arith) (subst (λ (k : ℕ). All (λ x. IsTrue (x == 70 || x == 82)) (take k c.args.text.now)) w.if-i-eq-MAX_TURNS.true c.loop-i.invariant.0))
      | then-i-eq-MAX_TURNS-via-else-i-eq-MAX_TURNS+then-not-is_turn w ↦ turns_at c.args.text.now c.loop-i.i c.loop-i-test.true
          (let h = w.if-i-eq-MAX_TURNS.false in let h' = c.loop-i.invariant.1 in omega arith) c.loop-i.invariant.0
          (sym w.is_turn.ensures ∙ w.if-not-is_turn.true)
    ]

pub loop-i-preserved : goal.loop-i-preserved
loop-i-preserved c = (
  All-more (λ x. IsTrue (x == 70 || x == 82)) c.args.text.now c.loop-i.i 0 c.loop-i-test.true c.loop-i.invariant.0 (sym c.is_turn.ensures ∙ c.if-not-is_turn.false),
  let h = c.if-i-eq-MAX_TURNS.false in let h' = c.loop-i.invariant.1 in omega arith,
)

pub returns-then-is_empty : goal.returns-then-is_empty
returns-then-is_empty c = turns_none c.args.text.now (eqb-true (length c.args.text.now) 0 (sym c.is_empty.ensures ∙ c.if-is_empty.true))

pub returns : goal.returns
returns c =
    let all : take c.loop-i.i c.args.text.now ≡ c.args.text.now = take_all c.loop-i.i c.args.text.now c.loop-i-test.false in
    let other = eqb-false (length c.args.text.now) 0 (sym c.is_empty.ensures ∙ c.if-is_empty.false) in
    let bound = c.loop-i.invariant.1 in
    record {
      letters = subst (λ (t : List ℕ). All (λ x. IsTrue (x == 70 || x == 82)) t) all c.loop-i.invariant.0;
      least = omega arith;
      most = omega arith;
    }
