-- Over a device of some identifiers, a listing that goes through has all of them.
use Rattle.std.proofs.Common.{◌≡◌, ◌⊎◌, ℕ, ◌<◌, ◌≤◌, Bool, true, false, List, [], ◌∷◌, ◌++◌, length, Option, Some, None, Result, Ok, Err, inl, inr, refl, sym, subst, arith}
use Rattle.std.specs.Prelude.{Contains}
use Rattle.erst_client.specs.declared.errors.ClientError.{ClientError}
use Rattle.erst_listing.specs.declared.errors.ListError.{ListError}
use Rattle.erst_listing.specs.declared.errors.ListError.TheVariants.{Full}
use Rattle.erst_listing.specs.Gathering.{GoesOn, IsNew, EndsOnce, Ends, ComesAgain, EndsAgain, HasNoRoom, IsRefused, Gathers, NoneAsked, OneAsked, Lists}
use Rattle.erst_listing.specs.Devices.{Told, IsInOrder, IsNextBehind, NoneBehind, Tells, TellsNext, GoesRound, TellsAllOnes, AreAll}
use Rattle.erst_listing.proofs.Lists.{none_in, in_before, at_last, in_more}

-- what was gathered by a device that stands at a place: all from each one that was told up to that place, round its end
record HasWalked (told : Told) (ids : List ℕ) (ended_once : Bool) (at : ℕ) : Type 0 where
  are_told : (id : ℕ) → Contains ids id → told.has id ≡ true
  low : (id other : ℕ) → Contains ids id → told.has other ≡ true → told.place id ≤ told.place other → told.place other ≤ at → Contains ids other
  up : (id other : ℕ) → Contains ids id → at < told.place id → told.has other ≡ true → told.place id ≤ told.place other → Contains ids other
  round : (id other : ℕ) → Contains ids id → at < told.place id → told.has other ≡ true → told.place other ≤ at → Contains ids other
  begun : ended_once ≡ true → (other : ℕ) → told.has other ≡ true → told.place other ≤ at → Contains ids other

up_to : (a b : ℕ) → (a ≤ b) ⊎ (b < a)
up_to a b = grind arith

module _ (told : Told) (order : IsInOrder told) where
  walked_none : (at : ℕ) → HasWalked told [] false at
  walked_none at = record {
    are_told = λ id has. absurd (none_in id has);
    low = λ id other has holds less behind. absurd (none_in id has);
    up = λ id other has above holds less. absurd (none_in id has);
    round = λ id other has above holds less. absurd (none_in id has);
    begun = λ is other holds less. absurd (cc is);
  }

  -- up to the next one there is that one, beside those before it
  up_to_next : (at id : ℕ) → IsNextBehind told at id → (other : ℕ) → told.has other ≡ true → told.place other ≤ told.place id → (told.place other ≤ at) ⊎ (id ≡ other)
  up_to_next at id next other holds less = elim (up_to (told.place other) at) [
    | inl before ↦ inl before
    | inr behind ↦ let least = next.least other holds behind in inr (order.apart id other next.has holds (omega (arith, least, less)))
  ]

  module _ (ids : List ℕ) (ended_once : Bool) (at : ℕ) (so : HasWalked told ids ended_once at) where
    within : (id other : ℕ) → Contains ids other → Contains (ids ++ id ∷ []) other
    within id other has = in_before ids id other has

    itself : (id other : ℕ) → id ≡ other → Contains (ids ++ id ∷ []) other
    itself id other same = subst (Contains (ids ++ id ∷ [])) same (at_last ids id)

    has_told : (id : ℕ) → told.has id ≡ true → (other : ℕ) → Contains (ids ++ id ∷ []) other → told.has other ≡ true
    has_told id holds other has = elim (in_more ids id other has) [
      | inl same ↦ subst (λ (n : ℕ). told.has n ≡ true) same holds
      | inr earlier ↦ so.are_told other earlier
    ]

    walked_next : (id : ℕ) → IsNextBehind told at id → HasWalked told (ids ++ id ∷ []) ended_once (told.place id)
    walked_next id next =
        let behind = next.behind in
        record {
          are_told = has_told id next.has;
          low = λ one other has holds less before. elim (up_to_next at id next other holds before) [
            | inr same ↦ itself id other same
            | inl early ↦ elim (in_more ids id one has) [
              | inl same ↦ let less_id = subst (λ (n : ℕ). told.place n ≤ told.place other) (sym same) less in absurd (omega (arith, less_id, early, behind))
              | inr earlier ↦ within id other (so.low one other earlier holds less early)
            ]
          ];
          up = λ one other has above holds less. elim (in_more ids id one has) [
            | inl same ↦ let above_id = subst (λ (n : ℕ). told.place id < told.place n) (sym same) above in absurd (omega (arith, above_id))
            | inr earlier ↦ within id other (so.up one other earlier (omega (arith, above, behind)) holds less)
          ];
          round = λ one other has above holds before. elim (up_to_next at id next other holds before) [
            | inr same ↦ itself id other same
            | inl early ↦ elim (in_more ids id one has) [
              | inl same ↦ let above_id = subst (λ (n : ℕ). told.place id < told.place n) (sym same) above in absurd (omega (arith, above_id))
              | inr earlier ↦ within id other (so.round one other earlier (omega (arith, above, behind)) holds early)
            ]
          ];
          begun = λ is other holds before. elim (up_to_next at id next other holds before) [
            | inr same ↦ itself id other same
            | inl early ↦ within id other (so.begun is other holds early)
          ];
        }

    -- the first of all
    first_only : (id : ℕ) → IsNextBehind told 0 id → (other : ℕ) → told.has other ≡ true → told.place other ≤ told.place id → id ≡ other
    first_only id first other holds less = elim (up_to_next 0 id first other holds less) [
      | inr same ↦ same
      | inl none ↦ let some = order.begins other holds in absurd (omega (arith, none, some))
    ]

    walked_round : (id : ℕ) → NoneBehind told at → IsNextBehind told 0 id → HasWalked told (ids ++ id ∷ []) ended_once (told.place id)
    walked_round id none first = record {
      are_told = has_told id first.has;
      low = λ one other has holds less before. itself id other (first_only id first other holds before);
      up = λ one other has above holds less. elim (in_more ids id one has) [
        | inl same ↦ let above_id = subst (λ (n : ℕ). told.place id < told.place n) (sym same) above in absurd (omega (arith, above_id))
        | inr earlier ↦ within id other (so.low one other earlier holds less (none other holds))
      ];
      round = λ one other has above holds before. itself id other (first_only id first other holds before);
      begun = λ is other holds before. itself id other (first_only id first other holds before);
    }

    walked_anew : NoneBehind told at → HasWalked told ids true 0
    walked_anew none = record {
      are_told = so.are_told;
      low = λ one other has holds less before. let some = order.begins other holds in absurd (omega (arith, some, before));
      up = λ one other has above holds less. so.low one other has holds less (none other holds);
      round = λ one other has above holds before. let some = order.begins other holds in absurd (omega (arith, some, before));
      begun = λ is other holds before. let some = order.begins other holds in absurd (omega (arith, some, before));
    }

    -- the first that comes again comes behind all
    again_next : (id : ℕ) → Contains ids id → IsNextBehind told at id → (other : ℕ) → told.has other ≡ true → Contains ids other
    again_next id has next other holds = elim (up_to (told.place other) at) [
      | inl before ↦ so.round id other has next.behind holds before
      | inr behind ↦ so.up id other has next.behind holds (next.least other holds behind)
    ]

    again_round : (id : ℕ) → Contains ids id → NoneBehind told at → IsNextBehind told 0 id → (other : ℕ) → told.has other ≡ true → Contains ids other
    again_round id has none first other holds = so.low id other has holds (first.least other holds (order.begins other holds)) (none other holds)

    on_some : (id last : ℕ) → Tells told at (Ok (Some id)) last → HasWalked told (ids ++ id ∷ []) ended_once last
    on_some id last tells = (elim tells as (λ (answer : Result (Option ℕ) ClientError) (after : ℕ) tells. answer ≡ Ok (Some id) → HasWalked told (ids ++ id ∷ []) ended_once after) [
      | TellsNext one next ↦ λ e. let same : one ≡ id = cc e in subst (λ (n : ℕ). HasWalked told (ids ++ n ∷ []) ended_once (told.place one)) same (walked_next one next)
      | GoesRound one none first ↦ λ e. let same : one ≡ id = cc e in subst (λ (n : ℕ). HasWalked told (ids ++ n ∷ []) ended_once (told.place one)) same (walked_round one none first)
      | TellsAllOnes none ↦ λ e. absurd (cc e)
    ]) refl

    on_none : (last : ℕ) → Tells told at (Ok None) last → HasWalked told ids true last
    on_none last tells = (elim tells as (λ (answer : Result (Option ℕ) ClientError) (after : ℕ) tells. answer ≡ Ok None → HasWalked told ids true after) [
      | TellsNext one next ↦ λ e. absurd (cc e)
      | GoesRound one none first ↦ λ e. absurd (cc e)
      | TellsAllOnes none ↦ λ e. walked_anew none
    ]) refl

    walked_on : (room : ℕ) (answer : Option ℕ) (more : List ℕ) (ends : Bool) (last : ℕ) → Tells told at (Ok answer) last → GoesOn room ids ended_once answer more ends → HasWalked told more ends last
    walked_on room answer more ends last tells on = (elim on as (λ (answer : Option ℕ) (more : List ℕ) (ends : Bool) on. Tells told at (Ok answer) last → HasWalked told more ends last) [
      | IsNew id more misses fits is ↦ λ tells. subst (λ (xs : List ℕ). HasWalked told xs ended_once last) (sym is) (on_some id last tells)
      | EndsOnce first ↦ λ tells. on_none last tells
    ]) tells

    again : (id last : ℕ) → Contains ids id → Tells told at (Ok (Some id)) last → (other : ℕ) → told.has other ≡ true → Contains ids other
    again id last has tells other holds = (elim tells as (λ (answer : Result (Option ℕ) ClientError) (after : ℕ) tells. answer ≡ Ok (Some id) → Contains ids other) [
      | TellsNext one next ↦ λ e. let same : id ≡ one = cc e in again_next one (subst (Contains ids) same has) next other holds
      | GoesRound one none first ↦ λ e. let same : id ≡ one = cc e in again_round one (subst (Contains ids) same has) none first other holds
      | TellsAllOnes none ↦ λ e. absurd (cc e)
    ]) refl

    none_again : (last : ℕ) → ended_once ≡ true → Tells told at (Ok None) last → (other : ℕ) → told.has other ≡ true → Contains ids other
    none_again last is tells other holds = (elim tells as (λ (answer : Result (Option ℕ) ClientError) (after : ℕ) tells. answer ≡ Ok None → Contains ids other) [
      | TellsNext one next ↦ λ e. absurd (cc e)
      | GoesRound one none first ↦ λ e. absurd (cc e)
      | TellsAllOnes none ↦ λ e. so.begun is other holds (none other holds)
    ]) refl

    all_there : (room : ℕ) (answer : Result (Option ℕ) ClientError) (result : Result (Unit {0}) ListError) (last : ℕ) → result ≡ Ok tt →
        Tells told at answer last → Ends room ids ended_once answer result →
        (other : ℕ) → told.has other ≡ true → Contains ids other
    all_there room answer result last is tells ends other holds =
        (elim ends as (λ (answer : Result (Option ℕ) ClientError) (result : Result (Unit {0}) ListError) ends. result ≡ Ok tt → Tells told at answer last →
        Contains ids other) [
          | ComesAgain id has ↦ λ e tells. again id last has tells other holds
          | EndsAgain is ↦ λ e tells. none_again last is tells other holds
          | HasNoRoom id misses full ↦ λ e tells. absurd (cc e)
          | IsRefused error ↦ λ e tells. absurd (cc e)
        ]) is tells

  walked : (room first : ℕ) (ids : List ℕ) (ended_once : Bool) (last : ℕ) → Gathers (Tells told) room first ids ended_once last → HasWalked told ids ended_once last
  walked room first ids ended_once last NoneAsked = walked_none first
  walked room first ids ended_once last (OneAsked before was mid answer more ends after gathers asks on) =
      walked_on before was mid (walked room first before was mid gathers) room answer more ends after asks on

  pub all_listed : (room at : ℕ) (ids : List ℕ) (last : ℕ) → Lists (Tells told) room at (Ok tt) ids last → AreAll told ids
  all_listed room at ids last lists =
      let so = walked room at ids lists.ended_once lists.mid lists.gathers in
      record { are_told = so.are_told; all = all_there ids lists.ended_once lists.mid so room lists.answer (Ok tt) last refl lists.asked lists.ends }

-- one that has no room leaves one out
record LeavesOut (told : Told) (room : ℕ) (ids : List ℕ) : Type 0 where
  id : ℕ
  has : told.has id ≡ true
  misses : Contains ids id → ⊥
  full : length ids ≡ room

was_told : (told : Told) (at id last : ℕ) → Tells told at (Ok (Some id)) last → told.has id ≡ true
was_told told at id last tells = (elim tells as (λ (answer : Result (Option ℕ) ClientError) (after : ℕ) tells. answer ≡ Ok (Some id) → told.has id ≡ true) [
  | TellsNext one next ↦ λ e. let same : one ≡ id = cc e in subst (λ (n : ℕ). told.has n ≡ true) same next.has
  | GoesRound one none first ↦ λ e. let same : one ≡ id = cc e in subst (λ (n : ℕ). told.has n ≡ true) same first.has
  | TellsAllOnes none ↦ λ e. absurd (cc e)
]) refl

left_out : (told : Told) (room at : ℕ) (ids : List ℕ) (ended_once : Bool) (answer : Result (Option ℕ) ClientError) (result : Result (Unit {0}) ListError)
    (last : ℕ) → result ≡ Err Full → Tells told at answer last →
    Ends room ids ended_once answer result → LeavesOut told room ids
left_out told room at ids ended_once answer result last is tells ends =
    (elim ends as (λ (answer : Result (Option ℕ) ClientError) (result : Result (Unit {0}) ListError) ends. result ≡ Err Full → Tells told at answer last →
    LeavesOut told room ids) [
      | ComesAgain id has ↦ λ e tells. absurd (cc e)
      | EndsAgain is ↦ λ e tells. absurd (cc e)
      | HasNoRoom id misses full ↦ λ e tells. record { id = id; has = was_told told at id last tells; misses = misses; full = full }
      | IsRefused error ↦ λ e tells. absurd (cc e)
    ]) is tells

pub none_for_it : (told : Told) (room at : ℕ) (ids : List ℕ) (last : ℕ) → Lists (Tells told) room at (Err Full) ids last → (length ids ≡ room) × (id : ℕ) × (told.has id ≡ true) × (Contains ids id → ⊥)
none_for_it told room at ids last lists =
    let so = left_out told room lists.mid ids lists.ended_once lists.answer (Err Full) last refl lists.asked lists.ends in
    (so.full, so.id, so.has, so.misses)
