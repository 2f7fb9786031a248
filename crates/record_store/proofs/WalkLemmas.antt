-- A walk over the stored identifiers, by induction over its commands with the cursor as the variable.
use Rattle.std.proofs.Common.{◌≡◌, ℕ, zero, suc, ◌+◌, ◌<◌, ◌≤◌, Bool, true, List, [], ◌∷◌, length, get_or, Option, Some, None, ap, ◌∙◌, arith, inl, inr}
use Rattle.std.specs.Prelude.{IsSome, is_some, Contains}
use Rattle.std.specs.FinMap.{get}
use Rattle.std.specs.List.Sorted.{IsStrictlyIncreasing}
use Rattle.std.proofs.lemmas.Bool.{cases_eq}
use Rattle.std.proofs.lemmas.List.{get_or_default}
use Rattle.base_model.specs.Layout.{Layout}
use Rattle.record_model.specs.Records.{Stored}
use Rattle.record_model.specs.RecordMap.{Command, Write, Clear, Read, Count, Next}
use Rattle.record_model.specs.History.{Answer, Done, Counted, Found, Refused, Hardware, Played, IsAnswered, AreAnswered, cursor_after, left_by}
use Rattle.record_slots.specs.Listed.{IsListed}
use Rattle.record_slots.proofs.FreeLemmas.{listed-cons}
use Rattle.record_store.specs.Walk.{with_found, found_by, EndsOr, IsWalk, StaysStored}
use Rattle.record_store.proofs.Words.{IsNoRead}

-- the identifiers that are found above a cursor: in rising order, and each of some
record IsWalked (cursor : ℕ) (ids : List ℕ) (Stays : ℕ → Type 0) : Type 0 where
  rising : IsStrictlyIncreasing ids
  above : (i : ℕ) → i < length ids → cursor < get_or ids i 0
  all : (id : ℕ) → cursor < id → Stays id → IsListed ids id

-- one more is found
walked_on : (cursor id : ℕ) (ids : List ℕ) (stored : Stored) (Stays : ℕ → Type 0) → cursor < id
    → ((other : ℕ) → cursor < other → IsSome (get stored other) → id ≤ other) → IsWalked id ids Stays → IsWalked cursor (id ∷ ids) (λ x. IsSome (get stored x) × Stays x)
walked_on cursor id ids stored Stays more least had = record {
  rising = up;
  above = λ i h. higher i h;
  all = λ x h stays.
      let low : id ≤ x = least x h stays.0 in
      elim (cases_eq id x) [
        | inl here ↦ (0, omega arith, here)
        | inr apart ↦ listed-cons id ids x (had.all x (omega arith) stays.1)
      ];
}
  where
    higher : (i : ℕ) → i < length (id ∷ ids) → cursor < get_or (id ∷ ids) i 0
    higher zero h = more
    higher (suc i) h = let next : id < get_or ids i 0 = had.above i (omega arith) in omega arith

    up : IsStrictlyIncreasing (id ∷ ids)
    up zero h = had.above 0 (omega arith)
    up (suc k) h =
        let e : suc k + 1 ≡ suc (k + 1) = omega arith in
        let step : get_or ids k 0 < get_or ids (k + 1) 0 = had.rising k (omega arith) in
        let right : get_or (id ∷ ids) (suc k + 1) 0 ≡ get_or ids (k + 1) 0 = ap (λ (i : ℕ). get_or (id ∷ ids) i 0) e in
        omega arith

-- none is found
walked_same : (cursor : ℕ) (ids : List ℕ) (stored : Stored) (Stays : ℕ → Type 0) → IsWalked cursor ids Stays → IsWalked cursor ids (λ x. IsSome (get stored x) × Stays x)
walked_same cursor ids stored Stays had = record { rising = had.rising; above = had.above; all = λ x h stays. had.all x h stays.1 }

-- none is left
walked_out : (cursor : ℕ) (ids : List ℕ) (stored : Stored) (Stays : ℕ → Type 0) → ids ≡ [] → ((id : ℕ) → cursor < id → get stored id ≡ None)
    → IsWalked cursor ids (λ x. IsSome (get stored x) × Stays x)
walked_out cursor ids stored Stays none over =
    let short : length ids ≡ 0 = ap (λ (xs : List ℕ). length xs) none in
    record {
      rising = λ k h. absurd (omega arith);
      above = λ i h. absurd (omega arith);
      all = λ x h stays. absurd (none_some (get stored x) (over x h) stays.0);
    }
  where
    none_some : {T : Type 0} (o : Option T) → o ≡ None → is_some o ≡ true → ⊥
    none_some None e is = cc
    none_some (Some x) e is = cc

-- the first command of a walk, with the walk that the others are
first_of_walk : (layout : Layout) (cursor : ℕ) (command : Command) (answer : Answer) (taken : Bool) (stored : Stored) (rest : List Played) (Stays : ℕ → Type 0)
    → IsAnswered layout cursor command answer taken stored → IsNoRead command → EndsOr answer rest (IsWalk rest)
    → (IsWalk rest → IsWalked (cursor_after command answer cursor) (found_by rest) Stays)
    → IsWalked cursor (with_found answer (found_by rest)) (λ x. IsSome (get stored x) × Stays x)
first_of_walk layout cursor (Read id) answer taken stored rest Stays answered other walk more = absurd other
first_of_walk layout cursor Next (Found (Some id)) taken stored rest Stays answered other walk more =
    walked_on cursor id (found_by rest) stored Stays (answered.1).0 (answered.1).2 (more walk)
first_of_walk layout cursor Next (Found None) taken stored rest Stays answered other walk more =
    walked_out cursor (found_by rest) stored Stays (ap found_by walk) answered.1
first_of_walk layout cursor (Write id bytes) Done taken stored rest Stays answered other walk more = walked_same cursor (found_by rest) stored Stays (more walk)
first_of_walk layout cursor (Clear id) Done taken stored rest Stays answered other walk more = walked_same cursor (found_by rest) stored Stays (more walk)
first_of_walk layout cursor Count (Counted n) taken stored rest Stays answered other walk more = walked_same cursor (found_by rest) stored Stays (more walk)
first_of_walk layout cursor command (Refused refusal) taken stored rest Stays answered other walk more = walked_same cursor (found_by rest) stored Stays (more walk)
first_of_walk layout cursor command Hardware taken stored rest Stays answered other walk more = walked_same cursor (found_by rest) stored Stays (more walk)
first_of_walk layout cursor command answer taken stored rest Stays answered other walk more = absurd answered.1

walked : (layout : Layout) (cursor : ℕ) (commands : List Played) (stored : Stored) → AreAnswered layout cursor commands stored → IsWalk commands
    → IsWalked cursor (found_by commands) (λ x. StaysStored layout x commands stored)
walked layout cursor [] stored answered walk = absurd walk
walked layout cursor (played ∷ rest) stored answered walk =
    first_of_walk layout cursor played.command played.answer played.taken stored rest (λ x. StaysStored layout x rest (left_by layout played stored)) answered.0 walk.0 walk.1
    (λ more. walked layout (cursor_after played.command played.answer cursor) rest (left_by layout played stored) answered.1 more)

-- the law
pub walk-rising : (layout : Layout) (stored : Stored) (commands : List Played) → AreAnswered layout 0 commands stored → IsWalk commands → IsStrictlyIncreasing (found_by commands)
walk-rising layout stored commands answered walk = (walked layout 0 commands stored answered walk).rising

pub walk-all : (layout : Layout) (id : ℕ) (stored : Stored) (commands : List Played) → AreAnswered layout 0 commands stored → IsWalk commands
    → 0 < id → StaysStored layout id commands stored → Contains (found_by commands) id
walk-all layout id stored commands answered walk some stays =
    let listed = (walked layout 0 commands stored answered walk).all id some stays in
    (listed.0, listed.1, get_or_default (found_by commands) listed.0 id 0 listed.1 ∙ listed.2)
