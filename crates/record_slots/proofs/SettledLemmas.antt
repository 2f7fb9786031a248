-- The second pass of a scan: what each kill leaves, and what stands at the end.
use Rattle.std.proofs.Common.{◌≡◌, ◌≢◌, ℕ, zero, suc, ◌+◌, ◌-◌, ◌*◌, ◌<◌, ◌≤◌, Bool, true, false, not, List, [], ◌∷◌, length, take, replicate, get_or, Option}
use Rattle.std.proofs.Common.{Some, None, refl, sym, ap, subst, ◌∙◌, arith, inl, inr}
use Rattle.std.specs.Prelude.{◌==◌, ◌||◌}
use Rattle.std.specs.List.{list_any}
use Rattle.std.proofs.lemmas.Bool.{cases_eq, cases_Bool, eq-eqb, eqb-true, or_cases, both_ways, false_from_ne_true}
use Rattle.std.proofs.lemmas.Option.{none-some, same_Some}
use Rattle.base_model.specs.Bytes.{SameOutside, part, little, number_at}
use Rattle.base_model.proofs.BytesLemmas.{length-part}
use Rattle.std.proofs.Math.Nat.{mul_comm}
use Rattle.base_model.specs.Flash.{Told, FlashState, Changed, MayChange, IsErased, next_count}
use Rattle.record_model.specs.Records.{Slot, head_at, tail_at, slot_at, is_up, Entry, entry_of, entry_at, stored_in, IsChosen, holds, is_taken}
use Rattle.record_model.specs.Records.{HasNearlyOnlyFirst, OnlyFirstUp, NearlyOnlyFirstUp, parts_of, second_copies, kill_mark}
use Rattle.base_model.proofs.CrashLemmas.{Leaves-none, Leaves-change, Leaves-weaker, Leaves-then, Leaves-exit}
use Rattle.record_model.proofs.ChosenLemmas.{IsChosen-unique, IsChosen-without}
use Rattle.record_model.proofs.LiveLemmas.{IsKilled, killed_others, kill_only, down_entry}
use Rattle.record_model.proofs.SlotLemmas.{upright_parts, kill_byte, down_by_kill}
use Rattle.base_model.proofs.ErasedLemmas.{slots_apart}
use Rattle.record_model.proofs.KillLemmas.{scan_kill, taken_from}
use Rattle.record_model.proofs.CountLemmas.{taken_by}
use Rattle.record_model.proofs.PartsLemmas.{entry_len}
use Rattle.record_slots.specs.declared.found.Found.{Found}
use Rattle.record_slots.specs.declared.found.SlotOf.{SlotOf}
use Rattle.record_slots.specs.Listed.{AreListed, HasFirst, takes, with_number, list_below, free_slots, first_records, AreSlots}
use Rattle.record_slots.specs.Recovered.{KeepsRecords, StaysNearly, KillsBelow, ChangesFew, IsRecovered}
use Rattle.record_slots.specs.Settling.{IsSettled, CountsCopies}
use Rattle.record_slots.proofs.FirstRecords.{only_chosen, first_single, first_listed, first_is}
use Rattle.record_slots.proofs.FreeLemmas.{list_below-same, list_below-are, list_below-rising}
use Rattle.record_model.proofs.MarkLemmas.{killed_is_not_erased}
use Rattle.record_model.proofs.SpareLemmas.{second_copies-none, second_copies-some, second_copies-fewer}
use Rattle.record_model.proofs.Words.{HasOnlyFirst}

-- what passes in a list stands at an index
any_at : (test : SlotOf → Bool) (places : List SlotOf) → list_any test places ≡ true → (i : ℕ) × (i < length places) × ((d : SlotOf) → test (get_or places i d) ≡ true)
any_at test [] any = absurd (both_ways false refl any)
any_at test (p ∷ places) any = elim (or_cases (test p) (list_any test places) any) [
  | inl here ↦ (0, omega arith, λ d. here)
  | inr later ↦ let had = any_at test places later in let low : had.0 < length places = had.1 in (suc had.0, omega arith, had.2)
]

at_any : (test : SlotOf → Bool) (places : List SlotOf) (i : ℕ) (d : SlotOf) → i < length places → test (get_or places i d) ≡ true → list_any test places ≡ true
at_any test [] i d h is = absurd (omega arith)
at_any test (p ∷ places) zero d h is = ap (λ (b : Bool). b || list_any test places) is
at_any test (p ∷ places) (suc i) d h is = right (test p) (at_any test places i d (omega arith) is)
  where
    right : (b : Bool) → list_any test places ≡ true → (b || list_any test places) ≡ true
    right true later = refl
    right false later = later

pub first_has : (places : List SlotOf) (k : ℕ) → list_any (λ place. place.slot == k) places ≡ true → HasFirst places k
first_has places k any = let had = any_at (λ place. place.slot == k) places any in (had.0, had.1, λ d. eqb-true (get_or places had.0 d).slot k (had.2 d))

-- a slot that is no first slot of a record that is listed is not the first slot of its identifier's record
pub not_first : (entry : ℕ → Option Entry) (n k : ℕ) (ids : List ℕ) (places : List SlotOf) → length places ≡ length ids → AreListed entry n ids places
    → list_any (λ place. place.slot == k) places ≡ false → (e : Entry) → IsChosen entry n k e → ⊥
not_first entry n k ids places paired listed none e chosen =
    let index = listed.all k e chosen.within chosen.here in
    let low : index.0 < length ids = index.1 in
    let d : SlotOf = record { slot = 0; generation = 0; len = 0; next = [] } in
    let place = listed.each index.0 d low in
    let same : (get_or places index.0 d).slot ≡ k = IsChosen-unique entry n (get_or places index.0 d).slot k place.chosen e place.is chosen (place.of_id ∙ index.2) in
    both_ways (list_any (λ place. place.slot == k) places) none (at_any (λ place. place.slot == k) places index.0 d (omega arith) (eq-eqb (get_or places index.0 d).slot k same))

-- a first slot is
pub first_chosen : (entry : ℕ → Option Entry) (n k : ℕ) (ids : List ℕ) (places : List SlotOf) → length places ≡ length ids → AreListed entry n ids places → HasFirst places k
    → (e : Entry) × IsChosen entry n k e
first_chosen entry n k ids places paired listed first =
    let low : first.0 < length places = first.1 in
    let d : SlotOf = record { slot = 0; generation = 0; len = 0; next = [] } in
    let place = listed.each first.0 d (omega arith) in
    (place.chosen, subst (λ (i : ℕ). IsChosen entry n i place.chosen) (first.2 d) place.is)

-- what one kill leaves, whatever is torn
pub kill_crash : (size slots n : ℕ) (old new : Told) → 64 ≤ size → n < slots → is_up (size - 64) slots (slot_at size old.image n) ≡ true
    → ((e : Entry) → IsChosen (entry_at size slots old.image) slots n e → ⊥) → MayChange (n * size + 1) 1 old new → KeepsRecords size slots old new
kill_crash size slots n old new some within up other change =
    Leaves-change (n * size + 1) 1 old new (λ image. stored_in size slots image ≡ stored_in size slots old.image) change
    (λ image same. scan_kill size slots n old.image image some within up other same)

only_nearly : (room slots : ℕ) (slot : ℕ → Slot) → HasOnlyFirst room slots slot → HasNearlyOnlyFirst room slots slot
only_nearly room slots slot only = record { spare = slots; each = λ k h apart up. only k h up }

kill_nearly_image : (size slots n : ℕ) (old image : List ℕ) → 64 ≤ size → n < slots → is_up (size - 64) slots (slot_at size old n) ≡ true
    → ((e : Entry) → IsChosen (entry_at size slots old) slots n e → ⊥) → SameOutside (n * size + 1) 1 old image → NearlyOnlyFirstUp size slots old → NearlyOnlyFirstUp size slots image
unfolding entry_at
kill_nearly_image size slots n old image some within up other same nearly =
    let killed = kill_byte size slots n old image some up same in
    elim killed.here [
      | inl stays ↦
          let all : slot_at size old ≡ slot_at size image = λ i k. sym (each killed stays k) i in
          subst (λ (slot : ℕ → Slot). HasNearlyOnlyFirst (size - 64) slots slot) all nearly
      | inr down ↦ only_nearly (size - 64) slots (slot_at size image) (kill_only (size - 64) slots (slot_at size old) (slot_at size image) n killed down
          (λ k h apart is_up_k. nearly.each k h (λ spare. apart (spare ∙ sym is_spare)) is_up_k))
    ]
  where
    is_spare : n ≡ nearly.spare
    is_spare = elim (cases_eq n nearly.spare) [
      | inl here ↦ here
      | inr apart ↦ let had = nearly.each n within apart up in absurd (other had.0 had.1)
    ]

    each : IsKilled (size - 64) slots (slot_at size old) (slot_at size image) n → slot_at size image n ≡ slot_at size old n → (k : ℕ) → slot_at size image k ≡ slot_at size old k
    each killed stays k = elim (cases_eq k n) [ inl here ↦ ap (slot_at size image) here ∙ stays ∙ ap (slot_at size old) (sym here) | inr apart ↦ killed.same k apart ]

pub kill_nearly : (size slots n : ℕ) (old new : Told) → 64 ≤ size → n < slots → is_up (size - 64) slots (slot_at size old.image n) ≡ true
    → ((e : Entry) → IsChosen (entry_at size slots old.image) slots n e → ⊥) → MayChange (n * size + 1) 1 old new → StaysNearly size slots old new
kill_nearly size slots n old new some within up other change =
    Leaves-change (n * size + 1) 1 old new (λ image. NearlyOnlyFirstUp size slots old.image → NearlyOnlyFirstUp size slots image) change
    (λ image same. kill_nearly_image size slots n old.image image some within up other same)

-- a kill that was done
pub killed_counted : (size slots n : ℕ) (old new : FlashState) → 64 ≤ size → n < slots → is_up (size - 64) slots (slot_at size old.told.image n) ≡ true
    → ((e : Entry) → IsChosen (entry_at size slots old.told.image) slots n e → ⊥) → Changed (n * size + 1) 1 old.told new.told → number_at new.told.image (n * size + 1) 1 ≡ kill_mark
    → new.steps ≡ old.steps + 1 → CountsCopies size slots old new
unfolding entry_at
killed_counted size slots n old new some within up other changed mark counted =
    let killed = kill_byte size slots n old.told.image new.told.image some up changed.image in
    let down = down_by_kill size slots n new.told.image (killed_is_not_erased mark) in
    let fewer : second_copies size slots new.told.image + 1 ≡ second_copies size slots old.told.image =
    second_copies-fewer size slots n old.told.image new.told.image within up down other killed.same
    (killed_others (size - 64) slots (slot_at size old.told.image) (slot_at size new.told.image) n killed) (down_entry (size - 64) slots (slot_at size new.told.image) n down) in
    omega arith

-- one that failed
pub failed_few : (size slots n : ℕ) (old new : FlashState) → n < slots → is_up (size - 64) slots (slot_at size old.told.image n) ≡ true
    → ((e : Entry) → IsChosen (entry_at size slots old.told.image) slots n e → ⊥) → new.steps ≡ next_count old.steps → ChangesFew size slots old new
failed_few size slots n old new within up other counted =
    let some : 1 ≤ second_copies size slots old.told.image = second_copies-some size slots n old.told.image within up other in
    omega arith

-- a slot that stays is settled
pub settled_kept : (size slots n : ℕ) (start now : FlashState) (found : Found) → (is_up (size - 64) slots (slot_at size now.told.image n) ≡ true → HasFirst found.places.items n)
    → IsSettled size slots n start now found → IsSettled size slots (n + 1) start now found
settled_kept size slots n start now found first had = record {
  listed = had.listed;
  settled = λ k h up. elim (cases_eq k n) [
    | inl here ↦ subst (λ (i : ℕ). HasFirst found.places.items i) (sym here) (first (ap (λ (i : ℕ). is_up (size - 64) slots (slot_at size now.told.image i)) (sym here) ∙ up))
    | inr before ↦ had.settled k (omega arith) up
  ];
  rest = λ k h. had.rest k (omega arith);
}

-- the records that are listed are so without a slot that is not one of them
pub listed_without : (entry other : ℕ → Option Entry) (n j : ℕ) (ids : List ℕ) (places : List SlotOf) → ((k : ℕ) → k ≢ j → other k ≡ entry k) → other j ≡ None
    → ((e : Entry) → IsChosen entry n j e → ⊥) → AreListed entry n ids places → AreListed other n ids places
listed_without entry other n j ids places same gone not_chosen had = record {
  each = λ i d h.
      let was = had.each i d h in
      record {
        chosen = was.chosen;
        is = IsChosen-without entry other n j (get_or places i d).slot was.chosen same gone (λ here. not_chosen was.chosen (subst (λ (m : ℕ). IsChosen entry n m was.chosen) here was.is)) was.is;
        of_id = was.of_id;
        generation = was.generation;
        len = was.len;
        further = was.further;
      };
  all = λ k e h here. elim (cases_eq k j) [
    | inl lost ↦ absurd (none-some e (sym gone ∙ ap other (sym lost) ∙ here))
    | inr apart ↦ had.all k e h (sym (same k apart) ∙ here)
  ];
}

pub settled_killed : (size slots n : ℕ) (start old new : FlashState) (found : Found) → 64 ≤ size → n < slots → is_up (size - 64) slots (slot_at size old.told.image n) ≡ true
    → ((e : Entry) → IsChosen (entry_at size slots old.told.image) slots n e → ⊥) → Changed (n * size + 1) 1 old.told new.told → number_at new.told.image (n * size + 1) 1 ≡ kill_mark
    → IsSettled size slots n start old found → IsSettled size slots (n + 1) start new found
unfolding entry_at
settled_killed size slots n start old new found some within up other changed mark had =
    let killed = kill_byte size slots n old.told.image new.told.image some up changed.image in
    let down = down_by_kill size slots n new.told.image (killed_is_not_erased mark) in
    record {
      listed = listed_without (entry_of (size - 64) slots (slot_at size old.told.image)) (entry_of (size - 64) slots (slot_at size new.told.image)) slots n found.ids.items found.places.items
          (killed_others (size - 64) slots (slot_at size old.told.image) (slot_at size new.told.image) n killed) (down_entry (size - 64) slots (slot_at size new.told.image) n down) other had.listed;
      settled = λ k h is. elim (cases_eq k n) [
        | inl here ↦ absurd (both_ways (is_up (size - 64) slots (slot_at size new.told.image n)) down (ap (λ (i : ℕ). is_up (size - 64) slots (slot_at size new.told.image i)) (sym here) ∙ is))
        | inr before ↦ had.settled k (omega arith) (ap (is_up (size - 64) slots) (sym (killed.same k before)) ∙ is)
      ];
      rest = λ k h. killed.same k (λ here. omega arith) ∙ had.rest k (omega arith);
    }

-- a place takes exactly the slots of its record
takes_is : (room : ℕ) (place : SlotOf) (e : Entry) (k : ℕ) → length e.body ≡ place.len → e.further ≡ take (length e.further) place.next → 1 + length e.further ≡ parts_of room (length e.body)
    → takes room place k ≡ holds (Some e) place.slot k
takes_is room place e k len further counted =
    let parts : parts_of room (length e.body) ≡ parts_of room place.len = ap (parts_of room) len in
    let count : parts_of room place.len - 1 ≡ length e.further = omega arith in
    ap (λ (n : ℕ). list_any (λ m. k == m) (place.slot ∷ take n place.next)) count ∙ ap (λ (xs : List ℕ). list_any (λ m. k == m) (place.slot ∷ xs)) (sym further)

-- so the slots that are none of a record that was found are the free ones, where each record is that of its identifier
pub taken_by_places : (room slots k : ℕ) (entry : ℕ → Option Entry) (ids : List ℕ) (places : List SlotOf) → length places ≡ length ids
    → ((j : ℕ) (e : Entry) → j < slots → entry j ≡ Some e → IsChosen entry slots j e)
    → ((j : ℕ) (e : Entry) → entry j ≡ Some e → 1 + length e.further ≡ parts_of room (length e.body))
    → AreListed entry slots ids places → is_taken entry slots k ≡ list_any (λ place. takes room place k) places
taken_by_places room slots k entry ids places paired single counted listed = elim (cases_Bool (list_any (λ place. takes room place k) places)) [
  | inl takes_it ↦
      let at = any_at (λ place. takes room place k) places takes_it in
      let low : at.0 < length places = at.1 in
      let d : SlotOf = record { slot = 0; generation = 0; len = 0; next = [] } in
      let place = listed.each at.0 d (omega arith) in
      let here : entry (get_or places at.0 d).slot ≡ Some place.chosen = (place.is).here in
      let held : holds (Some place.chosen) (get_or places at.0 d).slot k ≡ true =
      sym (takes_is room (get_or places at.0 d) place.chosen k place.len place.further (counted (get_or places at.0 d).slot place.chosen here)) ∙ at.2 d in
      taken_from entry slots (get_or places at.0 d).slot k (place.is).within (ap (λ (o : Option Entry). holds o (get_or places at.0 d).slot k) here ∙ held) ∙ sym takes_it
  | inr takes_none ↦ false_from_ne_true (is_taken entry slots k) (λ taken. both_ways (list_any (λ place. takes room place k) places) takes_none (found_by taken)) ∙ sym takes_none
]
  where
    by_record : (j : ℕ) → j < slots → (o : Option Entry) → entry j ≡ o → holds o j k ≡ true → list_any (λ place. takes room place k) places ≡ true
    by_record j h None is held = absurd (both_ways false refl held)
    by_record j h (Some e) is held =
        let d : SlotOf = record { slot = 0; generation = 0; len = 0; next = [] } in
        let chosen = single j e h is in
        let index = listed.all j e h is in
        let low : index.0 < length ids = index.1 in
        let place = listed.each index.0 d low in
        let at : (get_or places index.0 d).slot ≡ j = IsChosen-unique entry slots (get_or places index.0 d).slot j place.chosen e place.is chosen (place.of_id ∙ index.2) in
        let same : place.chosen ≡ e = same_Some place.chosen e (sym (place.is).here ∙ ap entry at ∙ is) in
        at_any (λ p. takes room p k) places index.0 d (omega arith)
        (takes_is room (get_or places index.0 d) place.chosen k place.len place.further (counted (get_or places index.0 d).slot place.chosen (place.is).here)
        ∙ ap (λ (x : Entry). holds (Some x) (get_or places index.0 d).slot k) same ∙ ap (λ (m : ℕ). holds (Some e) m k) at ∙ held)

    found_by : is_taken entry slots k ≡ true → list_any (λ place. takes room place k) places ≡ true
    found_by taken = let by = taken_by entry slots k taken in by_record by.0 by.1 (entry by.0) refl by.2

-- each record of an image has its parts
pub parts_counted : (size slots : ℕ) (image : List ℕ) → 65 ≤ size → length image ≡ size * slots → (j : ℕ) (e : Entry) → entry_at size slots image j ≡ Some e
    → 1 + length e.further ≡ parts_of (size - 64) (length e.body)
parts_counted size slots image some sized j e here = (entry_len size slots j image e some sized here).1

pub taken_is : (size slots k : ℕ) (image : List ℕ) (ids : List ℕ) (places : List SlotOf) → 65 ≤ size → length image ≡ size * slots → length places ≡ length ids
    → OnlyFirstUp size slots image → AreListed (entry_at size slots image) slots ids places
    → is_taken (entry_at size slots image) slots k ≡ list_any (λ place. takes (size - 64) place k) places
taken_is size slots k image ids places some sized paired only listed =
    taken_by_places (size - 64) slots k (entry_at size slots image) ids places paired (only_chosen size slots image only) (parts_counted size slots image some sized) listed

-- at the end of the second pass
pub settled_only : (size slots : ℕ) (old now : FlashState) (found : Found) → length found.places.items ≡ length found.ids.items →
    IsSettled size slots slots old now found → OnlyFirstUp size slots now.told.image
unfolding entry_at
settled_only size slots old now found paired had =
    λ k h up. first_chosen (entry_at size slots now.told.image) slots k found.ids.items found.places.items paired had.listed (had.settled k h up)

pub settled_free : (size slots : ℕ) (old now : FlashState) (found : Found) → 65 ≤ size → length now.told.image ≡ size * slots → length found.places.items ≡ length found.ids.items
    → IsSettled size slots slots old now found
    → list_below (λ k. not (list_any (λ place. takes (size - 64) place k) found.places.items)) slots ≡ free_slots (entry_at size slots now.told.image) slots
unfolding free_slots
settled_free size slots old now found some sized paired had =
    list_below-same (λ k. not (is_taken (entry_at size slots now.told.image) slots k)) (λ k. not (list_any (λ place. takes (size - 64) place k) found.places.items)) slots
    (λ k h. ap not (sym (taken_is size slots k now.told.image found.ids.items found.places.items some sized paired (settled_only size slots old now found paired had) had.listed)))

-- and those in which no first record stands
pub free_first : (size slots : ℕ) (image : List ℕ) (ids : List ℕ) (places : List SlotOf) → 65 ≤ size → length image ≡ size * slots → length places ≡ length ids
    → AreListed (entry_at size slots image) slots ids places
    → list_below (λ k. not (list_any (λ place. takes (size - 64) place k) places)) slots ≡ free_slots (first_records (entry_at size slots image) slots) slots
unfolding free_slots
free_first size slots image ids places some sized paired listed =
    let entry = first_records (entry_at size slots image) slots in
    list_below-same (λ k. not (is_taken entry slots k)) (λ k. not (list_any (λ place. takes (size - 64) place k) places)) slots
    (λ k h. ap not (sym (taken_by_places (size - 64) slots k entry ids places paired (first_single (entry_at size slots image) slots)
    (λ j e here. parts_counted size slots image some sized j e (first_is (entry_at size slots image) slots j e here).1) (first_listed (entry_at size slots image) slots ids places listed))))

-- no change, and one after another
pub KeepsRecords-none : (size slots : ℕ) (told : Told) → KeepsRecords size slots told told
KeepsRecords-none size slots told = Leaves-none told (λ image. stored_in size slots image ≡ stored_in size slots told.image) refl

pub KeepsRecords-then : (size slots : ℕ) (old mid new : Told) → KeepsRecords size slots old mid → KeepsRecords size slots mid new → KeepsRecords size slots old new
KeepsRecords-then size slots old mid new first second =
    Leaves-then old mid new (λ image. stored_in size slots image ≡ stored_in size slots old.image) first
    (Leaves-weaker mid new (λ image. stored_in size slots image ≡ stored_in size slots mid.image) (λ image. stored_in size slots image ≡ stored_in size slots old.image) second
    (λ image same. same ∙ Leaves-exit old mid (λ x. stored_in size slots x ≡ stored_in size slots old.image) first))

pub StaysNearly-none : (size slots : ℕ) (told : Told) → StaysNearly size slots told told
StaysNearly-none size slots told = Leaves-none told (λ image. NearlyOnlyFirstUp size slots told.image → NearlyOnlyFirstUp size slots image) (λ nearly. nearly)

pub StaysNearly-then : (size slots : ℕ) (old mid new : Told) → StaysNearly size slots old mid → StaysNearly size slots mid new → StaysNearly size slots old new
StaysNearly-then size slots old mid new first second =
    Leaves-then old mid new (λ image. NearlyOnlyFirstUp size slots old.image → NearlyOnlyFirstUp size slots image) first
    (Leaves-weaker mid new (λ image. NearlyOnlyFirstUp size slots mid.image → NearlyOnlyFirstUp size slots image)
    (λ image. NearlyOnlyFirstUp size slots old.image → NearlyOnlyFirstUp size slots image) second
    (λ image stays nearly. stays (Leaves-exit old mid (λ x. NearlyOnlyFirstUp size slots old.image → NearlyOnlyFirstUp size slots x) first nearly)))

pub ChangesFew-then : (size slots : ℕ) (old mid new : FlashState) → CountsCopies size slots old mid → ChangesFew size slots mid new → ChangesFew size slots old new
ChangesFew-then size slots old mid new first second = omega arith

pub ChangesFew-counted : (size slots : ℕ) (old new : FlashState) → CountsCopies size slots old new → ChangesFew size slots old new
ChangesFew-counted size slots old new counted = omega arith

one_byte : (bytes : List ℕ) → length bytes ≡ 1 → little bytes ≡ 0xFF → bytes ≡ replicate 1 0xFF
one_byte [] long is = absurd (omega arith)
one_byte (b ∷ []) long is = let e : b ≡ 0xFF = omega arith in ap (λ (x : ℕ). x ∷ []) e
one_byte (b ∷ c ∷ rest) long is = absurd (omega arith)

-- the kill byte of an upright slot reads as erased
pub kill_can : (size slots n : ℕ) (image : List ℕ) → 64 ≤ size → n < slots → length image ≡ size * slots → is_up (size - 64) slots (slot_at size image n) ≡ true → IsErased image (n * size + 1) 1
unfolding number_at is_up slot_at head_at
kill_can size slots n image some within sized up =
    let ends : n * size + size ≤ slots * size = slots_apart n slots size within in
    let swapped : size * slots ≡ slots * size = mul_comm size slots in
    one_byte (part image (n * size + 1) 1) (length-part image (n * size + 1) 1 (omega arith))
    ((upright_parts (size - 64) slots (head_at image (n * size)) (tail_at image (n * size) size) up).kill)

pub CountsCopies-then : (size slots : ℕ) (old mid new : FlashState) → CountsCopies size slots old mid → CountsCopies size slots mid new → CountsCopies size slots old new
CountsCopies-then size slots old mid new first second = omega arith

-- the list of the numbers that pass grows by the next one
pub list_below-none : (test : ℕ → Bool) → list_below test 0 ≡ []
unfolding list_below
list_below-none test = refl

list_below-suc : (test : ℕ → Bool) (n : ℕ) → list_below test (suc n) ≡ with_number (test n) n (list_below test n)
unfolding list_below
list_below-suc test n = refl

pub list_below-more : (test : ℕ → Bool) (n : ℕ) → list_below test (n + 1) ≡ with_number (test n) n (list_below test n)
list_below-more test n = ap (list_below test) next ∙ list_below-suc test n
  where
    next : n + 1 ≡ suc n
    next = omega arith

-- nothing was changed
pub KeepsRecords-same : (size slots : ℕ) (old new : Told) → new ≡ old → KeepsRecords size slots old new
KeepsRecords-same size slots old new same = subst (λ (t : Told). KeepsRecords size slots old t) (sym same) (KeepsRecords-none size slots old)

pub KillsBelow-same : (size n : ℕ) (old mid new : Told) → mid ≡ old → KillsBelow size mid n new → KillsBelow size old n new
KillsBelow-same size n old mid new same kills = subst (λ (t : Told). KillsBelow size t n new) same kills

pub StaysNearly-same : (size slots : ℕ) (old new : Told) → new ≡ old → StaysNearly size slots old new
StaysNearly-same size slots old new same = subst (λ (t : Told). StaysNearly size slots old t) (sym same) (StaysNearly-none size slots old)

pub AreSlots-below : (test : ℕ → Bool) (slots : ℕ) (free : List ℕ) → free ≡ list_below test slots → AreSlots slots free
AreSlots-below test slots free is = subst (λ (xs : List ℕ). AreSlots slots xs) (sym is) (record {
  rising = list_below-rising test slots;
  within = λ i h. (list_below-are test slots (get_or (list_below test slots) i 0) (i, h, refl)).0;
})

-- what both passes leave, from another word for the flash at the start
pub IsRecovered-settled : (size slots : ℕ) (old mid new : FlashState) (listed found : Found) → 65 ≤ size → length old.told.image ≡ size * slots →
    length new.told.image ≡ size * slots → mid.told ≡ old.told → mid.steps ≡ old.steps
    → found.ids ≡ listed.ids → found.places ≡ listed.places → length listed.places.items ≡ length listed.ids.items
    → found.free.items ≡ list_below (λ slot. not (list_any (λ place. takes (size - 64) place slot) listed.places.items)) slots
    → AreListed (entry_at size slots old.told.image) slots listed.ids.items listed.places.items
    → IsSettled size slots slots mid new listed → CountsCopies size slots mid new → IsRecovered size slots old new found
IsRecovered-settled size slots old mid new listed found some was_sized sized told steps ids places paired free before settled counted = record {
  before = subst (λ (xs : List ℕ). AreListed (entry_at size slots old.told.image) slots xs found.places.items) (sym (ap (λ v. v.items) ids))
      (subst (λ (ps : List SlotOf). AreListed (entry_at size slots old.told.image) slots listed.ids.items ps) (sym (ap (λ v. v.items) places)) before);
  after = subst (λ (xs : List ℕ). AreListed (entry_at size slots new.told.image) slots xs found.places.items) (sym (ap (λ v. v.items) ids))
      (subst (λ (ps : List SlotOf). AreListed (entry_at size slots new.told.image) slots listed.ids.items ps) (sym (ap (λ v. v.items) places)) settled.listed);
  only = only;
  free = free ∙ settled_free size slots mid new listed some sized paired settled;
  free_before = free ∙ free_first size slots old.told.image listed.ids.items listed.places.items some was_sized paired before;
  steps =
      let none : second_copies size slots new.told.image ≡ 0 = second_copies-none size slots new.told.image only in
      let same : second_copies size slots mid.told.image ≡ second_copies size slots old.told.image = ap (λ (t : Told). second_copies size slots t.image) told in
      omega arith;
}
  where
    only : OnlyFirstUp size slots new.told.image
    only = settled_only size slots mid new listed paired settled
