-- What each change makes of the lists that a store keeps.
use Rattle.std.proofs.Common.{◌≡◌, ◌≢◌, ◌⊎◌, ℕ, ◌+◌, ◌-◌, ◌<◌, ◌≤◌, Bool, not, cond, List, ◌∷◌, length, take, drop, get_or, Option, Some, None, refl, sym, ap, subst, ◌∙◌, arith, inl, inr}
use Rattle.std.specs.Prelude.{insert, remove, vec_len, vec_capacity, ◌||◌, ◌==◌, ◌&&◌}
use Rattle.std.specs.List.{list_any}
use Rattle.std.specs.VecDeque.{deque_capacity}
use Rattle.std.proofs.Math.ListN.{set}
use Rattle.std.proofs.lemmas.Bool.{lt-ltb}
use Rattle.std.proofs.lemmas.Option.{same_Some}
use Rattle.record_model.specs.Records.{Entry, parts_of, is_taken, holds}
use Rattle.record_model.proofs.ChosenLemmas.{IsChosen-unique}
use Rattle.record_slots.specs.declared.found.Found.{Found}
use Rattle.record_slots.specs.declared.found.SlotOf.{SlotOf}
use Rattle.record_slots.specs.Listed.{AreListed, AreSlots, IsIndex, IsWithin, free_slots}
use Rattle.record_slots.specs.Listing.{IsNewlyListed, IsListedAgain}
use Rattle.record_slots.proofs.ListedLemmas.{IsPlaceIn}
use Rattle.record_slots.proofs.PutLemmas.{IsIndex-put}
use Rattle.record_slots.proofs.OpenedLemmas.{AreListed-opened, AreListed-replaced, AreListed-cleared}
use Rattle.record_slots.proofs.SettledLemmas.{listed_without}
use Rattle.record_slots.proofs.TakenLemmas.{free_slots-gate, taken_gains}
use Rattle.record_store.specs.Index.{IsListing, IsListOf, HasOpened, HasLost, IsEntryOf, Gains, slots_at}
use Rattle.record_store.proofs.FreeListLemmas.{free_gained}
use Rattle.record_store.proofs.CountLemmas.{fewer_ids}
use Rattle.record_store.proofs.Words.{HasItsParts, IsOlderCopy, IsOnlyCopy}

-- a record was listed
pub IsListing-listed : (slots size : ℕ) (old new : Found) (id : ℕ) (place : SlotOf) → length old.ids.items < slots → IsWithin slots size place
    → vec_len new.ids ≤ vec_len old.ids + 1 → vec_capacity new.ids ≡ vec_capacity old.ids → vec_capacity new.places ≡ vec_capacity old.places
    → new.free ≡ old.free → new.looks ≡ old.looks → IsNewlyListed old new id place ⊎ IsListedAgain old new id place → IsListing slots size old → IsListing slots size new
IsListing-listed slots size old new id place short within more ids places free looks put had = record {
  index = IsIndex-put slots size old new id place put within had.index;
  free = subst (λ v. AreSlots slots v.items) (sym free) had.free;
  few = let before = old.ids.ok.0 in let after = new.ids.ok.0 in omega arith;
  room = record {
    ids = let was : slots ≤ vec_capacity old.ids = had.room.ids in omega arith;
    places = let was : slots ≤ vec_capacity old.places = had.room.places in omega arith;
    free = subst (λ v. slots ≤ deque_capacity v) (sym free) had.room.free;
    looks = subst (λ v. slots ≤ vec_capacity v) (sym looks) had.room.looks;
  };
}

-- the place of an entry
place_in : (id : ℕ) (place : SlotOf) (e : Entry) → IsEntryOf id place e → IsPlaceIn place.slot place e
place_in id place e of = record { at = refl; generation = of.generation; len = of.len; further = of.further }

-- a record was opened, and listed
AreListed-put : (slots size : ℕ) (old new : Found) (id : ℕ) (place : SlotOf) (entry other : ℕ → Option Entry) (e : Entry) → place.slot < slots
    → HasOpened entry other slots place.slot e → IsEntryOf id place e → IsIndex slots size old.ids.items old.places.items
    → IsNewlyListed old new id place ⊎ IsListedAgain old new id place
    → AreListed entry slots old.ids.items old.places.items → AreListed other slots new.ids.items new.places.items
AreListed-put slots size old new id place entry other e low has of index put had = elim put [ inl fresh ↦ newly fresh | inr again ↦ once_more again ]
  where
    newly : IsNewlyListed old new id place → AreListed other slots new.ids.items new.places.items
    newly fresh =
        let below = λ (k : ℕ) (h : k < fresh.at). subst (λ (x : ℕ). get_or old.ids.items k 0 < x) (sym of.of_id) (fresh.below k h) in
        let above = λ (k : ℕ) (from : fresh.at ≤ k) (h : k < length old.ids.items). subst (λ (x : ℕ). x < get_or old.ids.items k 0) (sym of.of_id) (fresh.above k from h) in
        subst (λ (ids : List ℕ). AreListed other slots ids new.places.items) (sym (fresh.ids ∙ ap (insert old.ids.items fresh.at) (sym of.of_id)))
        (subst (λ (places : List SlotOf). AreListed other slots (insert old.ids.items fresh.at e.id) places) (sym fresh.places)
        (AreListed-opened entry other slots place.slot old.ids.items old.places.items fresh.at place e low has.same has.free has.here (place_in id place e of)
        index.paired fresh.within below above had))

    once_more : IsListedAgain old new id place → AreListed other slots new.ids.items new.places.items
    once_more again =
        let was = had.each again.at place again.within in
        let less : (was.chosen).generation < e.generation = has.newest (get_or old.places.items again.at place).slot was.chosen (was.is).within (was.is).here (was.of_id ∙ again.here ∙ sym of.of_id) in
        let equal : (was.chosen).generation ≡ (get_or old.places.items again.at place).generation = was.generation in
        let mine : e.generation ≡ place.generation = of.generation in
        let newer : (get_or old.places.items again.at place).generation < place.generation = omega arith in
        let newer' : (get_or old.places.items again.at place).generation < e.generation = omega arith in
        subst (λ (ids : List ℕ). AreListed other slots ids new.places.items) (sym again.ids)
        (subst (λ (places : List SlotOf). AreListed other slots old.ids.items places)
        (sym (again.places place ∙ ap (λ (b : Bool). cond b (set old.places.items again.at place) old.places.items)
        (lt-ltb (get_or old.places.items again.at place).generation place.generation newer)))
        (AreListed-replaced entry other slots place.slot old.ids.items old.places.items again.at place place e low has.same has.free has.here (place_in id place e of)
        index.rising index.paired again.within (again.here ∙ sym of.of_id) newer' had))

-- the lists after a record was opened
pub IsListOf-opened : (slots size parts : ℕ) (old mid new : Found) (id : ℕ) (place : SlotOf) (entry other : ℕ → Option Entry) (e : Entry) → place.slot < slots
    → HasOpened entry other slots place.slot e → IsEntryOf id place e → place.slot ∷ e.further ≡ take parts old.free.items → IsListing slots size old
    → (length old.ids.items < slots → IsNewlyListed old mid id place ⊎ IsListedAgain old mid id place) → mid.free ≡ old.free
    → new.ids ≡ mid.ids → new.places ≡ mid.places → new.free.items ≡ drop parts mid.free.items
    → IsListOf entry slots old → IsListOf other slots new
IsListOf-opened slots size parts old mid new id place entry other e low has of first listing put free ids places taken had =
    let short = fewer_ids entry slots place.slot old.ids.items old.places.items listing.index.rising had.listed low has.free in
    let all : new.free.items ≡ drop parts old.free.items = taken ∙ ap (λ v. drop parts v.items) free in
    record {
      listed =
          subst (λ v. AreListed other slots v.items new.places.items) (sym ids)
          (subst (λ v. AreListed other slots mid.ids.items v.items) (sym places)
          (AreListed-put slots size old mid id place entry other e low has of listing.index (put short) had.listed));
      free = all ∙ free_slots-gate entry other slots parts old.free.items had.free
          (λ k h. taken_gains entry other slots place.slot e low has.same has.free has.here k
          ∙ ap (λ (xs : List ℕ). is_taken entry slots k || list_any (λ n. k == n) xs) first);
    }

-- without a record that was not that of its identifier
AreListed-lost : (entry other : ℕ → Option Entry) (slots j : ℕ) (lost : Entry) (ids : List ℕ) (places : List SlotOf) → ((k : ℕ) → k ≢ j → other k ≡ entry k)
    → entry j ≡ Some lost → other j ≡ None → IsOlderCopy entry slots j lost → AreListed entry slots ids places → AreListed other slots ids places
AreListed-lost entry other slots j lost ids places same was gone older had =
    listed_without entry other slots j ids places same gone
    (λ e chosen. older.4 (IsChosen-unique entry slots older.0 j older.1 e older.2 chosen
    (older.3 ∙ ap (λ (x : Entry). x.id) (same_Some lost e (sym was ∙ chosen.here))))) had

-- the slots at the place of an entry are its slots
pub slots_of_entry : (room id : ℕ) (place : SlotOf) (e : Entry) → IsEntryOf id place e → HasItsParts room e → slots_at room place ≡ place.slot ∷ e.further
slots_of_entry room id place e of counted =
    let parts : parts_of room place.len ≡ parts_of room (length e.body) = ap (parts_of room) (sym of.len) in
    let count : parts_of room place.len - 1 ≡ length e.further = omega arith in
    ap (λ (n : ℕ). place.slot ∷ take n place.next) count ∙ ap (λ (xs : List ℕ). place.slot ∷ xs) (sym of.further)

-- the free slots after the slots of a record joined them
free_after : (entry other : ℕ → Option Entry) (slots room j id : ℕ) (place : SlotOf) (lost : Entry) (free after : List ℕ) → HasLost entry other slots j lost → place.slot ≡ j → IsEntryOf id place lost
    → HasItsParts room lost → free ≡ free_slots entry slots → AreSlots slots after → Gains free after (slots_at room place) → after ≡ free_slots other slots
free_after entry other slots room j id place lost free after has here of counted is had gains =
    free_gained entry other slots free after (slots_at room place) is had gains
    (λ i. has.freed i ∙ ap (λ (k : ℕ). is_taken entry slots i && not (holds (Some lost) k i)) (sym here)
    ∙ ap (λ (xs : List ℕ). is_taken entry slots i && not (list_any (λ n. i == n) xs)) (sym (slots_of_entry room id place lost of counted)))

-- after the killing of an older copy
pub IsListOf-killed : (slots room id : ℕ) (place : SlotOf) (old new : Found) (entry other : ℕ → Option Entry) (lost : Entry)
    → HasLost entry other slots place.slot lost → IsEntryOf id place lost → HasItsParts room lost → IsOlderCopy entry slots place.slot lost → new.ids ≡ old.ids → new.places ≡ old.places
    → AreSlots slots new.free.items → Gains old.free.items new.free.items (slots_at room place) → IsListOf entry slots old → IsListOf other slots new
IsListOf-killed slots room id place old new entry other lost has of counted older ids places free gains had = record {
  listed =
      subst (λ v. AreListed other slots v.items new.places.items) (sym ids)
      (subst (λ v. AreListed other slots old.ids.items v.items) (sym places)
      (AreListed-lost entry other slots place.slot lost old.ids.items old.places.items has.same has.was has.gone older had.listed));
  free = free_after entry other slots room place.slot id place lost old.free.items new.free.items has refl of counted had.free free gains;
}

-- after the killing of the only slot of an identifier
pub IsListOf-cleared : (slots size room at : ℕ) (old new : Found) (id j : ℕ) (place : SlotOf) (entry other : ℕ → Option Entry) (lost : Entry) → j < slots
    → HasLost entry other slots j lost → lost.id ≡ id → HasItsParts room lost → IsOnlyCopy entry slots j id → IsIndex slots size old.ids.items old.places.items
    → at < length old.ids.items → get_or old.ids.items at 0 ≡ id → place ≡ get_or old.places.items at place
    → new.ids.items ≡ remove old.ids.items at → new.places.items ≡ remove old.places.items at
    → AreSlots slots new.free.items → Gains old.free.items new.free.items (slots_at room place)
    → IsListOf entry slots old → IsListOf other slots new
IsListOf-cleared slots size room at old new id j place entry other lost low has key counted only index within here is ids places free gains had =
    let was = had.listed.each at place within in
    let there : (get_or old.places.items at place).slot ≡ j =
    only (get_or old.places.items at place).slot was.chosen (was.is).within (was.is).here (was.of_id ∙ here) in
    let slot : place.slot ≡ j = ap (λ (p : SlotOf). p.slot) is ∙ there in
    let mine : was.chosen ≡ lost = same_Some was.chosen lost (sym (was.is).here ∙ ap entry there ∙ has.was) in
    let of : IsEntryOf id place lost = subst (λ (p : SlotOf). IsEntryOf id p lost) (sym is) (subst (λ (e : Entry). IsEntryOf id (get_or old.places.items at place) e) mine
    (record { of_id = was.of_id ∙ here; generation = was.generation; len = was.len; further = was.further })) in
    record {
      listed =
          subst (λ (xs : List ℕ). AreListed other slots xs new.places.items) (sym ids)
          (subst (λ (ps : List SlotOf). AreListed other slots (remove old.ids.items at) ps) (sym places)
          (AreListed-cleared entry other slots j old.ids.items old.places.items at lost has.same has.was has.gone
          (λ k x h at_k same. only k x h at_k (same ∙ key)) index.rising index.paired within (here ∙ sym key) had.listed));
      free = free_after entry other slots room j id place lost old.free.items new.free.items has slot of counted had.free free gains;
    }
