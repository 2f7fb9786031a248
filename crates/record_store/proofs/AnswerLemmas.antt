-- What the kept lists answer, as the map of the records answers it.
use Rattle.std.proofs.Common.{◌≡◌, ℕ, ◌<◌, ◌≤◌, true, List, [], length, get_or, Option, Some, None, sym, ap, ◌∙◌, arith, inl, inr}
use Rattle.std.specs.Prelude.{Contains, is_some, IsSome}
use Rattle.std.specs.FinMap.{get, len}
use Rattle.std.proofs.lemmas.List.{get_or_default}
use Rattle.std.proofs.lemmas.Option.{none-some}
use Rattle.record_slots.specs.Next.{IsNextAfter}
use Rattle.base_model.specs.Layout.{Layout}
use Rattle.record_model.specs.Records.{Entry, Stored, entry_at, selected}
use Rattle.record_model.specs.RecordMap.{IsNextAbove}
use Rattle.record_model.proofs.ChosenLemmas.{chosen_or_none, get-chosen, get-no_slot}
use Rattle.record_slots.specs.declared.found.Found.{Found}
use Rattle.record_slots.specs.declared.found.SlotOf.{SlotOf}
use Rattle.record_slots.specs.Listed.{IsPlaceOf, AreListed, IsListed}
use Rattle.record_slots.proofs.ListedLemmas.{get-listed, get-unlisted}
use Rattle.record_store.specs.Index.{IsListOf, IsPlaceFound}
use Rattle.record_store.specs.Store.{StoreView, stored}
use Rattle.record_store.proofs.CountLemmas.{len_stored}
use Rattle.record_store.proofs.StoreLemmas.{KnowsMap, of_old}
use Rattle.record_store.proofs.Words.{IsStoredAt}

-- what a list has stands at an index of it
contains_at : (xs : List ℕ) (x : ℕ) → Contains xs x → IsListed xs x
contains_at xs x has = (has.0, has.1, get_or_default xs has.0 0 x has.1 ∙ has.2)

-- an identifier of the map is listed
stored_listed : (entry : ℕ → Option Entry) (n q : ℕ) (ids : List ℕ) (places : List SlotOf) → AreListed entry n ids places → IsSome (get (selected entry n) q) → IsListed ids q
stored_listed entry n q ids places had some = elim (chosen_or_none entry q n) [
  | inl chosen ↦
      let listed = had.all chosen.0 chosen.1 (chosen.2).within (chosen.2).here in
      (listed.0, listed.1, listed.2 ∙ chosen.3)
  | inr none ↦
      absurd (none_some (get (selected entry n) q) (get-unlisted entry n q ids places had (λ listed. not_listed listed none)) some)
]
  where
    none_some : {T : Type 0} (o : Option T) → o ≡ None → is_some o ≡ true → ⊥
    none_some None e is = cc
    none_some (Some x) e is = none-some x (sym e)

    not_listed : IsListed ids q → ((k : ℕ) (e : Entry) → k < n → entry k ≡ Some e → e.id ≡ q → ⊥) → ⊥
    not_listed listed none =
        let d : SlotOf = record { slot = 0; generation = 0; len = 0; next = [] } in
        let place = had.each listed.0 d listed.1 in
        none (get_or places listed.0 d).slot place.chosen (place.is).within (place.is).here (place.of_id ∙ listed.2)

-- and what is listed is in the map
listed_stored : (entry : ℕ → Option Entry) (n q : ℕ) (ids : List ℕ) (places : List SlotOf) → AreListed entry n ids places → IsListed ids q → IsSome (get (selected entry n) q)
listed_stored entry n q ids places had listed =
    let d : SlotOf = record { slot = 0; generation = 0; len = 0; next = [] } in
    let place = get-listed entry n listed.0 d ids places had listed.1 in
    ap is_some (ap (get (selected entry n)) (sym listed.2) ∙ place.2)

-- the least listed identifier above a cursor is the least stored one
pub next_stored : (entry : ℕ → Option Entry) (slots cursor : ℕ) (found : Found) (answer : Option ℕ) → IsListOf entry slots found
    → IsNextAfter found.ids.items cursor answer → IsNextAbove cursor (selected entry slots) answer
next_stored entry slots cursor found None list next = λ id above.
    get-unlisted entry slots id found.ids.items found.places.items list.listed (λ listed.
    let low : get_or found.ids.items listed.0 0 ≤ cursor = next listed.0 listed.1 in
    let is : get_or found.ids.items listed.0 0 ≡ id = listed.2 in
    omega arith)
next_stored entry slots cursor found (Some id) list next = (
  next.1,
  listed_stored entry slots id found.ids.items found.places.items list.listed (contains_at found.ids.items id next.0),
  λ other above some.
      let listed = stored_listed entry slots other found.ids.items found.places.items list.listed some in
      let is : get_or found.ids.items listed.0 0 ≡ other = listed.2 in
      let least : id ≤ get_or found.ids.items listed.0 0 = next.2 listed.0 listed.1 (omega arith) in
      omega arith,
)

-- the place that is found is that of the stored record
pub place_stored : (entry : ℕ → Option Entry) (slots id : ℕ) (place : SlotOf) → IsPlaceOf entry slots id place → (e : Entry) × IsStoredAt entry slots id place e
place_stored entry slots id place is = (
  is.chosen,
  record {
    chosen = is.is;
    is = record { of_id = is.of_id; generation = is.generation; len = is.len; further = is.further };
    stored = ap (get (selected entry slots)) (sym is.of_id) ∙ get-chosen entry slots place.slot is.chosen is.is
        ∙ ap (λ (g : ℕ). Some ((is.chosen).body, g)) is.generation;
  },
)

-- where none is found, none is stored
pub no_place_stored : (entry : ℕ → Option Entry) (slots id : ℕ) → IsPlaceFound entry slots id None → get (selected entry slots) id ≡ None
no_place_stored entry slots id none = get-no_slot entry slots id none

-- What a store that has looked at its slots finds in its lists is what it had at first.

-- how many records
pub count_before : {tells : Type 0} {old now : StoreView} {found : Found} → KnowsMap tells old now found → tells → len (stored old) ≡ length found.ids.items
count_before {tells} {old} {now} {found} is told =
    of_old tells old now found (λ (layout : Layout) (s : Stored). len s ≡ length found.ids.items) is told
    (len_stored (entry_at now.layout.slot_size now.layout.slots now.flash.told.image) now.layout.slots now.layout.slot_size found is.listing (is.knows told).list)

-- no record of an identifier
pub none_before : {tells : Type 0} {old now : StoreView} {found : Found} (id : ℕ) → KnowsMap tells old now found → tells
    → ((entry : ℕ → Option Entry) (slots : ℕ) → IsListOf entry slots found → IsPlaceFound entry slots id None) → get (stored old) id ≡ None
none_before {tells} {old} {now} {found} id is told none =
    let entry = entry_at now.layout.slot_size now.layout.slots now.flash.told.image in
    of_old tells old now found (λ (layout : Layout) (s : Stored). get s id ≡ None) is told (no_place_stored entry now.layout.slots id (none entry now.layout.slots (is.knows told).list))

-- the entry of the slot at the place of an identifier
pub stored_at : {tells : Type 0} {old now : StoreView} {found : Found} (id : ℕ) (place : SlotOf) → KnowsMap tells old now found → tells
    → ((entry : ℕ → Option Entry) (slots : ℕ) → IsListOf entry slots found → IsPlaceFound entry slots id (Some place))
    → (e : Entry) × IsStoredAt (entry_at now.layout.slot_size now.layout.slots now.flash.told.image) now.layout.slots id place e
stored_at {tells} {old} {now} {found} id place is told placed =
    let entry = entry_at now.layout.slot_size now.layout.slots now.flash.told.image in
    place_stored entry now.layout.slots id place (placed entry now.layout.slots (is.knows told).list)

-- and its record
pub record_before : {tells : Type 0} {old now : StoreView} {found : Found} (id : ℕ) (place : SlotOf) → KnowsMap tells old now found → tells
    → ((entry : ℕ → Option Entry) (slots : ℕ) → IsListOf entry slots found → IsPlaceFound entry slots id (Some place))
    → (body : List ℕ) × ((generation : ℕ) × (get (stored old) id ≡ Some (body, generation))) × (place.len ≡ length body)
record_before {tells} {old} {now} {found} id place is told placed =
    let had = stored_at id place is told placed in
    of_old tells old now found (λ (layout : Layout) (s : Stored). (body : List ℕ) × ((generation : ℕ) × (get s id ≡ Some (body, generation))) × (place.len ≡ length body)) is told
    ((had.0).body, (place.generation, (had.1).stored), sym (had.1).is.len)
