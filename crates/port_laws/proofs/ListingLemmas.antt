-- A listing of the identifiers of a port.
use Rattle.std.proofs.Common.{◌≡◌, ◌⊎◌, ℕ, zero, suc, ◌<◌, ◌≤◌, List, [], ◌∷◌, ◌++◌, length, Option, Some, None, Result, Ok, Err, inl, inr, refl, sym, ap, subst, ◌∙◌, arith}
use Rattle.std.specs.Prelude.{Contains, IsSome, slice_index_or}
use Rattle.std.specs.FinMap.{get}
use Rattle.std.proofs.lemmas.Bool.{cases_eq}
use Rattle.record_model.specs.Records.{Stored}
use Rattle.record_model.specs.RecordMap.{IsNextAbove}
use Rattle.record_model.proofs.RefusalLemmas.{allowed_not_zero}
use Rattle.record_store.specs.Store.{StoreView, stored}
use Rattle.record_store.proofs.StoreLemmas.{kept_map}
use Rattle.record_store.proofs.StoredLemmas.{stored_says}
use Rattle.erst_client.specs.declared.errors.ClientError.{ClientError}
use Rattle.erst_device.specs.DeviceState.{records}
use Rattle.erst_machine.specs.MachineState.{MachineState, records_of}
use Rattle.erst_commands.specs.Looks.{HasAsked, AsksOnce, Answers, StopsBehind, StopsAtOnce}
use Rattle.erst_commands.specs.Runs.{CallFrom, IsNext as IsNextCall}
use Rattle.erst_port.specs.declared.windows.Addresses.{Addresses}
use Rattle.port_laws.specs.PortSpaces.{SpaceState}
use Rattle.port_laws.specs.PortClients.{port_table}
use Rattle.port_laws.specs.Machines.{machine_of}
use Rattle.port_laws.specs.Looks.{NextRound, IsAbove, IsFirst, IsNone, IsNotFound}
use Rattle.port_laws.specs.Listings.{Lists, Listing, NoneTold, OneTold, Rising, AreAll, AreAllAbove, StartsAnew, IsLeast, IsEmpty, IsNotGreater}
use Rattle.port_laws.proofs.RoundLemmas.{next_round}

-- Elements of lists

in_tail : (id other : ℕ) (ids : List ℕ) → Contains ids other → Contains (id ∷ ids) other
in_tail id other ids has = (suc has.0, omega (arith, has.1), has.2)

at_head : (id other : ℕ) (ids : List ℕ) → id ≡ other → Contains (id ∷ ids) other
at_head id other ids same = (0, omega arith, same)

head_or_tail : (id other : ℕ) (ids : List ℕ) → Contains (id ∷ ids) other → (id ≡ other) ⊎ Contains ids other
head_or_tail id other ids has = by_place has.0 has.1 has.2
  where
    by_place : (k : ℕ) → k < length (id ∷ ids) → slice_index_or (id ∷ ids) k other ≡ other → (id ≡ other) ⊎ Contains ids other
    by_place zero below is = inl is
    by_place (suc k) below is = inr (k, omega (arith, below), is)

-- Identifiers in their round

nothing : {T : Type 0} (o : Option T) → IsSome o → o ≡ None → ⊥
nothing (Some x) some none = absurd (cc none)
nothing None some none = absurd (cc some)

-- the identifier behind another one
pub data Behind (stored : Stored) (from : ℕ) : ℕ → Type 0 where
  Above : (id : ℕ) → IsNextAbove from stored (Some id) → Behind stored from id
  First : (id : ℕ) → IsNextAbove from stored None → IsNextAbove 0 stored (Some id) → Behind stored from id

-- identifiers one behind another
abbrev pub Walks : Stored → (from : ℕ) → List ℕ → Type 0
Walks stored from [] = Unit {0}
Walks stored from (id ∷ ids) = Behind stored from id × Walks stored id ids

abbrev pub end_of : (from : ℕ) → List ℕ → ℕ
end_of from [] = from
end_of from (id ∷ ids) = end_of id ids

is_stored : (stored : Stored) (from id : ℕ) → Behind stored from id → IsSome (get stored id)
is_stored stored from id next = elim next as (λ id next. IsSome (get stored id)) [
  | Above id least ↦ least.1
  | First id none least ↦ least.1
]

all_stored : (stored : Stored) (from : ℕ) (ids : List ℕ) → Walks stored from ids → (id : ℕ) → Contains ids id → IsSome (get stored id)
all_stored stored from [] walks id has = absurd (omega (arith, has.1))
all_stored stored from (next ∷ ids) walks id has = elim (head_or_tail next id ids has) [
  | inl same ↦ subst (λ (n : ℕ). IsSome (get stored n)) same (is_stored stored from next walks.0)
  | inr later ↦ all_stored stored next ids walks.1 id later
]

up_to : (a b : ℕ) → a ≤ b → (a ≡ b) ⊎ (a < b)
up_to a b less = grind arith

-- one that is greater than the one before is the least above it
above_of : (stored : Stored) (from id : ℕ) → from < id → Behind stored from id → IsNextAbove from stored (Some id)
above_of stored from id up next = (elim next as (λ id next. from < id → IsNextAbove from stored (Some id)) [
  | Above id least ↦ λ up. least
  | First id none least ↦ λ up. absurd (nothing (get stored id) least.1 (none id up))
]) up

-- while they rise, none is left out
all_risen : (stored : Stored) (from : ℕ) (ids : List ℕ) → Walks stored from ids → Rising from ids → IsNextAbove (end_of from ids) stored None → (id : ℕ) →
    from < id → IsSome (get stored id) → Contains ids id
all_risen stored from [] walks rising none id above some = absurd (nothing (get stored id) some (none id above))
all_risen stored from (next ∷ ids) walks rising none id above some =
    let least = above_of stored from next rising.0 walks.0 in
    elim (up_to next id (least.2 id above some)) [
      | inl is ↦ at_head next id ids is
      | inr less ↦ in_tail next id ids (all_risen stored next ids walks.1 rising.1 none id less some)
    ]

-- A walk that meets a stored identifier nowhere stays below it and rises, or stays above it and rises, or comes from above it to below it
module _ (stored : Stored) (other : ℕ) (some : 0 < other) (here : IsSome (get stored other)) where
  abbrev IsPast : (from last : ℕ) → Type 0
  IsPast from last = (from < other → (from ≤ last) × (last < other)) × (other < from → ((from ≤ last) × (other < last)) ⊎ (last < other))

  less_of : (a b : ℕ) → a ≤ b → (a ≡ b → ⊥) → a < b
  less_of a b less not = grind (arith, not)

  step_past : (from id last : ℕ) → Behind stored from id → (id ≡ other → ⊥) → IsPast id last → IsPast from last
  step_past from id last next not past = (elim next as (λ id next. (id ≡ other → ⊥) → IsPast id last → IsPast from last) [
    | Above id least ↦ λ not past.
        let up = least.0 in (
          λ below. let at = less_of id other (least.2 other below here) not in let rest = past.0 at in (omega (arith, up, rest.0), rest.1),
          λ above. elim (past.1 (omega (arith, up, above))) [
            | inl rises ↦ inl (omega (arith, up, rises.0), rises.1)
            | inr falls ↦ inr falls
          ],
        )
    | First id none least ↦ λ not past. (
      λ below. absurd (nothing (get stored other) here (none other below)),
      λ above. let at = less_of id other (least.2 other some here) not in inr (past.0 at).1,
    )
  ]) not past

  walk_past : (from : ℕ) (ids : List ℕ) → Walks stored from ids → (Contains ids other → ⊥) → IsPast from (end_of from ids)
  walk_past from [] walks misses = (λ below. (omega arith, below), λ above. inl (omega arith, above))
  walk_past from (id ∷ ids) walks misses =
      step_past from id (end_of id ids) walks.0 (λ same. misses (at_head id other ids same)) (walk_past id ids walks.1 (λ has. misses (in_tail id other ids has)))

  -- so it does not come back
  never_back : (from : ℕ) (ids : List ℕ) → 0 < length ids → Walks stored from ids → (Contains ids other → ⊥) → (from ≡ other → ⊥) → end_of from ids ≡ from → ⊥
  never_back from [] long walks misses apart back = absurd (omega (arith, long))
  never_back from (id ∷ ids) long walks misses apart back =
      let past = walk_past id ids walks.1 (λ has. misses (in_tail id other ids has)) in
      let other_id : id ≡ other → ⊥ = λ same. misses (at_head id other ids same) in
      by_step id (end_of id ids) walks.0 other_id past back
    where
      sides : (from < other) ⊎ (other < from)
      sides = grind (arith, apart)

      by_step : (id last : ℕ) → Behind stored from id → (id ≡ other → ⊥) → IsPast id last → last ≡ from → ⊥
      by_step id last next not past back = (elim next as (λ id next. (id ≡ other → ⊥) → IsPast id last → ⊥) [
        | Above id least ↦ λ not past.
            let up = least.0 in
            elim sides [
              | inl below ↦ let rest = past.0 (less_of id other (least.2 other below here) not) in absurd (omega (arith, up, rest.0, back))
              | inr above ↦ elim (past.1 (omega (arith, up, above))) [
                | inl rises ↦ absurd (omega (arith, up, rises.0, back))
                | inr falls ↦ absurd (omega (arith, falls, above, back))
              ]
            ]
        | First id none least ↦ λ not past. elim sides [
          | inl below ↦ nothing (get stored other) here (none other below)
          | inr above ↦ let rest = past.0 (less_of id other (least.2 other some here) not) in absurd (omega (arith, rest.1, above, back))
        ]
      ]) not past

-- The walk from an identifier that was met

record MetAt (stored : Stored) (ids : List ℕ) (last id : ℕ) : Type 0 where
  rest : List ℕ
  walks : Walks stored id rest
  ends : end_of id rest ≡ last
  within : (other : ℕ) → Contains rest other → Contains ids other

met : (stored : Stored) (from : ℕ) (ids : List ℕ) → Walks stored from ids → (id : ℕ) → Contains ids id → MetAt stored ids (end_of from ids) id
met stored from [] walks id has = absurd (omega (arith, has.1))
met stored from (next ∷ ids) walks id has = elim (head_or_tail next id ids has) [
  | inl same ↦ subst (λ (n : ℕ). MetAt stored (next ∷ ids) (end_of next ids) n) same (record { rest = ids; walks = walks.1; ends = refl; within = λ other has. in_tail next other ids has })
  | inr later ↦ let at = met stored next ids walks.1 id later in record { rest = at.rest; walks = at.walks; ends = at.ends; within = λ other has. in_tail next other ids (at.within other has) }
]

-- one step more
walks_more : (stored : Stored) (from : ℕ) (ids : List ℕ) (id : ℕ) → Walks stored from ids → Behind stored (end_of from ids) id → Walks stored from (ids ++ id ∷ [])
walks_more stored from [] id walks next = (next, tt)
walks_more stored from (first ∷ ids) id walks next = (walks.0, walks_more stored first ids id walks.1 next)

end_more : (from : ℕ) (ids : List ℕ) (id : ℕ) → end_of from (ids ++ id ∷ []) ≡ id
end_more from [] id = refl
end_more from (first ∷ ids) id = end_more first ids id

some_more : (ids : List ℕ) (id : ℕ) → 0 < length (ids ++ id ∷ [])
some_more [] id = omega arith
some_more (first ∷ ids) id = omega arith

in_more : (ids : List ℕ) (id other : ℕ) → Contains (ids ++ id ∷ []) other → (id ≡ other) ⊎ Contains ids other
in_more [] id other has = head_or_tail id other [] has
in_more (first ∷ ids) id other has = elim (head_or_tail first other (ids ++ id ∷ []) has) [
  | inl same ↦ inr (at_head first other ids same)
  | inr later ↦ elim (in_more ids id other later) [
    | inl same ↦ inl same
    | inr within ↦ inr (in_tail first other ids within)
  ]
]

has_or_not : (ids : List ℕ) (other : ℕ) → Contains ids other ⊎ (Contains ids other → ⊥)
has_or_not [] other = inr (λ has. absurd (omega (arith, has.1)))
has_or_not (id ∷ ids) other = elim (cases_eq id other) [
  | inl same ↦ inl (at_head id other ids same)
  | inr differs ↦ elim (has_or_not ids other) [
    | inl later ↦ inl (in_tail id other ids later)
    | inr misses ↦ inr (λ has. elim (head_or_tail id other ids has) [ inl same ↦ differs same | inr later ↦ misses later ])
  ]
]

-- a walk that meets an identifier again has met each that is stored
all_met : (stored : Stored) (from : ℕ) (ids : List ℕ) (again : ℕ) → Walks stored from ids → Contains ids again → Behind stored (end_of from ids) again →
    (other : ℕ) → 0 < other → IsSome (get stored other) → Contains ids other
all_met stored from ids again walks has next other some here = elim (has_or_not ids other) [
  | inl is ↦ is
  | inr misses ↦
      let at = met stored from ids walks again has in
      let whole = walks_more stored again at.rest again at.walks (subst (λ (n : ℕ). Behind stored n again) (sym at.ends) next) in
      let differs : again ≡ other → ⊥ = λ same. misses (subst (Contains ids) same has) in
      absurd (never_back stored other some here again (at.rest ++ again ∷ []) (some_more at.rest again) whole
      (λ within. elim (in_more at.rest again other within) [ inl same ↦ differs same | inr later ↦ misses (at.within other later) ]) differs (end_more again at.rest again))
]

-- The port's answers

-- one that was asked leaves the records
pub kept : (first last : MachineState) → HasAsked first last → records_of last ≡ records_of first
kept first last asked = kept_map first.device.store last.device.store asked.looked.kept asked.looked.equivalent

record IsNext (first last : MachineState) (id : ℕ) : Type 0 where
  behind : Behind (records_of first) first.device.cursor id
  cursor : last.device.cursor ≡ id
  same : records_of last ≡ records_of first

next_by : (first last : MachineState) (id : ℕ) (result : Result (Option ℕ) ClientError) → result ≡ Ok (Some id) → NextRound first last result → IsNext first last id
next_by first last id result is round = (elim round as (λ result round. result ≡ Ok (Some id) → IsNext first last id) [
  | IsAbove found asked least cursor ↦ λ e. let same : found ≡ id = cc e in
      subst (IsNext first last) same (record { behind = Above found least; cursor = cursor; same = kept first last asked })
  | IsFirst found asked none least cursor ↦ λ e. let same : found ≡ id = cc e in
      subst (IsNext first last) same (record { behind = First found none least; cursor = cursor; same = kept first last asked })
  | IsNone asked none empty cursor ↦ λ e. absurd (cc e)
  | IsNotFound failed ↦ λ e. absurd (cc e)
]) is

-- one that is not greater tells that none is above the cursor
record IsLast (first : MachineState) (result : Result (Option ℕ) ClientError) : Type 0 where
  none : IsNextAbove first.device.cursor (records_of first) None
  anew : StartsAnew (records_of first) result

last_by : (first last : MachineState) (result : Result (Option ℕ) ClientError) → IsNotGreater first.device.cursor result → NextRound first last result → IsLast first result
last_by first last result not round = (elim round as (λ result round. IsNotGreater first.device.cursor result → IsLast first result) [
  | IsAbove found asked least cursor ↦ λ less. let above = least.0 in absurd (omega (arith, less, above))
  | IsFirst found asked none least cursor ↦ λ less. record { none = none; anew = IsLeast found least }
  | IsNone asked none empty cursor ↦ λ less. record { none = none; anew = IsEmpty empty }
  | IsNotFound failed ↦ λ less. absurd less
]) not

-- what was answered is what the action made
made_of : {T : Type 0} (Made : Result T ClientError → Type 0) (budget : ℕ) (first last : MachineState) (value : T) (result : Result T ClientError) (left : ℕ) →
    result ≡ Ok value → AsksOnce Made budget first last result left → Made result
made_of {T = T} Made budget first last value result left is asks = (elim asks as (λ result left asks. result ≡ Ok value → Made result) [
  | Answers result left made spent ↦ λ e. made
  | StopsBehind result made one ↦ λ e. absurd (cc e)
  | StopsAtOnce none same ↦ λ e. absurd (cc e)
]) is

-- an identifier that a record has is not 0
pub not_zero : (store : StoreView) (id : ℕ) → IsSome (get (stored store) id) → 0 < id
not_zero store id some = by_kept (get (stored store) id) refl some
  where
    by_kept : (kept : Option (List ℕ × ℕ)) → get (stored store) id ≡ kept → IsSome kept → 0 < id
    by_kept None here some = absurd (cc some)
    by_kept (Some record_kept) here some =
        let allowed = allowed_not_zero id (stored_says store.layout id store.flash.told.image record_kept here).usable in
        grind (arith, allowed)

module _ (addresses : Addresses) where
  pub round_of : (first : SpaceState) (told : Option ℕ) (run : CallFrom first (Option ℕ)) → IsNextCall (port_table addresses) run → run.answer ≡ Ok told →
      NextRound (machine_of first) (machine_of run.last) run.answer
  round_of first told run asks is =
      made_of (NextRound (machine_of first) (machine_of run.last)) run.budget (machine_of first) (machine_of run.last) told run.answer run.left is
      (next_round addresses run.budget first run.answer run.left run.last asks)

  is_next : (first : SpaceState) (id : ℕ) (run : CallFrom first (Option ℕ)) → IsNextCall (port_table addresses) run → run.answer ≡ Ok (Some id) → IsNext (machine_of first) (machine_of run.last) id
  is_next first id run asks is = next_by (machine_of first) (machine_of run.last) id run.answer is (round_of first (Some id) run asks is)

  was_told : (cursor : ℕ) (result : Result (Option ℕ) ClientError) → IsNotGreater cursor result → (told : Option ℕ) × (result ≡ Ok told)
  was_told cursor (Ok told) not = (told, refl)
  was_told cursor (Err error) not = absurd not

  is_last : (first : SpaceState) (run : CallFrom first (Option ℕ)) → IsNextCall (port_table addresses) run → IsNotGreater first.port.device.cursor run.answer → IsLast (machine_of first) run.answer
  is_last first run asks not =
      let told = was_told first.port.device.cursor run.answer not in
      last_by (machine_of first) (machine_of run.last) run.answer not (round_of first told.0 run asks told.1)

  -- a listing is a walk
  record IsWalk (first : SpaceState) (ids : List ℕ) (last : SpaceState) : Type 0 where
    walks : Walks (records first.port.device) first.port.device.cursor ids
    ends : end_of first.port.device.cursor ids ≡ last.port.device.cursor
    same : records last.port.device ≡ records first.port.device

  is_walk : (first : SpaceState) (ids : List ℕ) (last : SpaceState) → Lists addresses first ids last → IsWalk first ids last
  is_walk first ids last (NoneTold start) = record { walks = tt; ends = refl; same = refl }
  is_walk first ids last (OneTold start end id rest run asks is more) =
      let mid = run.last in
      let next = is_next start id run asks is in
      let later = is_walk mid rest end more in
      record {
        walks = (next.behind, subst (λ (map : Stored). Walks map id rest) next.same (subst (λ (n : ℕ). Walks (records mid.port.device) n rest) next.cursor later.walks));
        ends = ap (λ (n : ℕ). end_of n rest) (sym next.cursor) ∙ later.ends;
        same = later.same ∙ next.same;
      }

  pub listed_rising : (listing : Listing addresses) → Rising listing.first.port.device.cursor listing.ids → IsNotGreater listing.last.port.device.cursor listing.next.answer
      → AreAllAbove listing.first.port.device.cursor (records listing.first.port.device) listing.ids × StartsAnew (records listing.first.port.device) listing.next.answer
  listed_rising listing rising not =
      let first = listing.first in
      let ids = listing.ids in
      let last = listing.last in
      let walk = is_walk first ids last listing.lists in
      let is = is_last last listing.next listing.asks not in
      let none = subst (λ (map : Stored). IsNextAbove (end_of first.port.device.cursor ids) map None) walk.same
      (subst (λ (n : ℕ). IsNextAbove n (records last.port.device) None) (sym walk.ends) is.none) in (
        record {
          are_stored = all_stored (records first.port.device) first.port.device.cursor ids walk.walks;
          all = all_risen (records first.port.device) first.port.device.cursor ids walk.walks rising none;
        },
        subst (λ (map : Stored). StartsAnew map listing.next.answer) walk.same is.anew,
      )

  pub listed_round : (listing : Listing addresses) (id : ℕ) → listing.next.answer ≡ Ok (Some id) → Contains listing.ids id → AreAll (records listing.first.port.device) listing.ids
  listed_round listing id told again =
      let first = listing.first in
      let ids = listing.ids in
      let last = listing.last in
      let walk = is_walk first ids last listing.lists in
      let next = is_next last id listing.next listing.asks told in
      let behind = subst (λ (map : Stored). Behind map (end_of first.port.device.cursor ids) id) walk.same (subst (λ (n : ℕ). Behind (records last.port.device) n id) (sym walk.ends) next.behind) in
      record {
        are_stored = all_stored (records first.port.device) first.port.device.cursor ids walk.walks;
        all = λ other here. all_met (records first.port.device) first.port.device.cursor ids id walk.walks again behind other (not_zero first.port.device.store other here) here;
      }
