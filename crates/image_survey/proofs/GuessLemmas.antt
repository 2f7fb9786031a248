-- The best of the geometries that are tried one after another.
use Rattle.std.proofs.Common.{◌≡◌, ℕ, ◌+◌, ◌*◌, ◌/◌, ◌%◌, ◌<◌, ◌≤◌, ◌⊎◌, List, [], ◌∷◌, length, Option, Some, None, refl, ◌∙◌, arith, inl, inr}
use Rattle.std.specs.Prelude.{◌==◌, ◌||◌}
use Rattle.image_survey.specs.Heads.{Suits, heads_by, turn_of, IsMost, IsOfTurn, IsTried, IsGuessBefore, heads_of}
use Rattle.image_survey.specs.declared.heads.Guess.{Guess}

-- before one more turn is before the turn, or in it
before_or_in : (n turn : ℕ) → n < turn + 1 → (n < turn) ⊎ (n ≡ turn)
before_or_in n turn low = grind arith

-- what was best stays so, where the turn has no more heads
pub none_stays : (image : List ℕ) (turn : ℕ) (best : Option Guess) → IsGuessBefore image turn best → IsTried image turn None → IsGuessBefore image (turn + 1) best
none_stays image turn None had none = λ sector per_slot suits low.
    elim (before_or_in (turn_of sector per_slot) turn low) [ inl before ↦ had sector per_slot suits before | inr here ↦ absurd (none sector per_slot suits here) ]
none_stays image turn (Some best) had none = record {
  suits = had.suits;
  before = let low = had.before in omega arith;
  slots = had.slots;
  heads = had.heads;
  some = had.some;
  most = λ sector per_slot suits low.
      elim (before_or_in (turn_of sector per_slot) turn low) [ inl before ↦ had.most sector per_slot suits before | inr here ↦ absurd (none sector per_slot suits here) ];
  first = had.first;
}

pub best_stays : (image : List ℕ) (turn : ℕ) (best : Option Guess) (found : Guess) → IsGuessBefore image turn best → IsOfTurn image turn found
    → found.heads ≤ heads_of best → IsGuessBefore image (turn + 1) best
best_stays image turn None found had of few = λ sector per_slot suits low.
    elim (before_or_in (turn_of sector per_slot) turn low) [
      | inl before ↦ had sector per_slot suits before
      | inr here ↦ let same = of.only sector per_slot suits here in omega arith
    ]
best_stays image turn (Some best) found had of few = record {
  suits = had.suits;
  before = let low = had.before in omega arith;
  slots = had.slots;
  heads = had.heads;
  some = had.some;
  most = λ sector per_slot suits low.
      elim (before_or_in (turn_of sector per_slot) turn low) [
        | inl before ↦ had.most sector per_slot suits before
        | inr here ↦ let same = of.only sector per_slot suits here in omega arith
      ];
  first = had.first;
}

-- the heads of what was tried before are at most those of the best
most_before : (image : List ℕ) (turn : ℕ) (best : Option Guess) → IsGuessBefore image turn best
    → (sector per_slot : ℕ) → Suits (length image) sector per_slot → turn_of sector per_slot < turn → heads_by image sector per_slot ≤ heads_of best
most_before image turn None had sector per_slot suits low = let none = had sector per_slot suits low in omega arith
most_before image turn (Some best) had sector per_slot suits low = had.most sector per_slot suits low

-- a turn with more heads is the best
pub found_is_best : (image : List ℕ) (turn : ℕ) (best : Option Guess) (found : Guess) → IsGuessBefore image turn best → IsOfTurn image turn found
    → heads_of best < found.heads → IsMost image (turn + 1) found
found_is_best image turn best found had of more = record {
  suits = of.suits;
  before = let here = of.in_turn in omega arith;
  slots = of.slots;
  heads = of.heads;
  some = omega arith;
  most = λ sector per_slot suits low.
      elim (before_or_in (turn_of sector per_slot) turn low) [
        | inl before ↦ let few = most_before image turn best had sector per_slot suits before in omega arith
        | inr here ↦ let same = of.only sector per_slot suits here in omega arith
      ];
  first = λ sector per_slot suits low.
      let here = of.in_turn in
      let before : turn_of sector per_slot < turn = omega arith in
      let few = most_before image turn best had sector per_slot suits before in
      omega arith;
}
