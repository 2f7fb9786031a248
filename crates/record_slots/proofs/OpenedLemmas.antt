-- What the changes of a write and a clear make of a list of records: a slot that was free has one, or the only slot of an
-- identifier has none.
use Rattle.std.proofs.Common.{◌≡◌, ◌≢◌, ℕ, ◌+◌, ◌-◌, ◌<◌, ◌≤◌, List, length, get_or, Option, Some, None, refl, sym, ap, subst, ◌∙◌, arith, inl, inr}
use Rattle.std.specs.Prelude.{insert, remove}
use Rattle.std.proofs.lemmas.List.Edits.{length-remove, get_or-remove_below, get_or-remove_above}
use Rattle.record_model.proofs.ChosenLemmas.{IsChosen-without}
use Rattle.std.proofs.Math.ListN.{set}
use Rattle.std.proofs.lemmas.Bool.{cases_lt, cases_eq}
use Rattle.std.proofs.lemmas.Option.{none-some, same_Some}
use Rattle.std.specs.List.Sorted.{IsStrictlyIncreasing}
use Rattle.record_model.specs.Records.{Entry, IsChosen}
use Rattle.record_slots.specs.declared.found.SlotOf.{SlotOf}
use Rattle.record_slots.specs.Listed.{IsPlaceOf, IsListed, AreListed}
use Rattle.record_slots.proofs.ListedLemmas.{IsPlaceIn, each-insert, each-set, IsListed-insert, IsListed-inserted, same_index}

-- a slot with another identifier was opened
pub IsChosen-gains : (entry other : ℕ → Option Entry) (n j k : ℕ) (c e : Entry) → ((i : ℕ) → i ≢ j → other i ≡ entry i) → entry j ≡ None → other j ≡ Some e
    → (e.id ≡ c.id → ⊥) → IsChosen entry n k c → IsChosen other n k c
IsChosen-gains entry other n j k c e same free opened apart chosen = record {
  within = chosen.within;
  here = same k elsewhere ∙ chosen.here;
  greatest = λ i x h at_i key. elim (cases_eq i j) [
    | inl here ↦ absurd (not_it i x here at_i key)
    | inr kept ↦ chosen.greatest i x h (sym (same i kept) ∙ at_i) key
  ];
  lowest = λ i x h at_i key. elim (cases_eq i j) [
    | inl here ↦ absurd (not_it i x here at_i key)
    | inr kept ↦ chosen.lowest i x h (sym (same i kept) ∙ at_i) key
  ];
}
  where
    elsewhere : k ≢ j
    elsewhere here = none-some c (sym free ∙ ap entry (sym here) ∙ chosen.here)

    not_it : (i : ℕ) (x : Entry) → i ≡ j → other i ≡ Some x → x.id ≡ c.id → ⊥
    not_it i x here at_i key = apart (ap (λ (y : Entry). y.id) (same_Some e x (sym opened ∙ ap other (sym here) ∙ at_i)) ∙ key)

-- the opened slot is newer than all of its identifier
pub IsChosen-opened : (entry other : ℕ → Option Entry) (n j : ℕ) (e : Entry) → j < n → ((i : ℕ) → i ≢ j → other i ≡ entry i) → other j ≡ Some e
    → ((i : ℕ) (x : Entry) → i < n → entry i ≡ Some x → x.id ≡ e.id → x.generation < e.generation) → IsChosen other n j e
IsChosen-opened entry other n j e within same opened newer = record {
  within = within;
  here = opened;
  greatest = λ i x h at_i key. elim (cases_eq i j) [
    | inl here ↦
        let mine : e ≡ x = same_Some e x (sym opened ∙ ap other (sym here) ∙ at_i) in
        subst (λ (y : Entry). y.generation ≤ e.generation) mine (omega arith)
    | inr kept ↦ let less : x.generation < e.generation = newer i x h (sym (same i kept) ∙ at_i) key in omega arith
  ];
  lowest = λ i x h at_i key. newer i x (omega arith) (sym (same i (λ here. earlier i h here)) ∙ at_i) key;
}
  where
    earlier : (i : ℕ) → i < j → i ≡ j → ⊥
    earlier i h here = omega arith

-- what is in a slot of the later ones
all_after : (entry other : ℕ → Option Entry) (n j : ℕ) (e : Entry) (ids later : List ℕ) → ((i : ℕ) → i ≢ j → other i ≡ entry i) → other j ≡ Some e
    → IsListed later e.id → ((x : ℕ) → IsListed ids x → IsListed later x)
    → ((k : ℕ) (x : Entry) → k < n → entry k ≡ Some x → IsListed ids x.id) → (k : ℕ) (x : Entry) → k < n → other k ≡ Some x → IsListed later x.id
all_after entry other n j e ids later same opened mine more all k x h at_k = elim (cases_eq k j) [
  | inl here ↦ subst (λ (y : Entry). IsListed later y.id) (same_Some e x (sym opened ∙ ap other (sym here) ∙ at_k)) mine
  | inr kept ↦ more x.id (all k x h (sym (same k kept) ∙ at_k))
]

-- a record of a new identifier
pub AreListed-opened : (entry other : ℕ → Option Entry) (n j : ℕ) (ids : List ℕ) (places : List SlotOf) (at : ℕ) (place : SlotOf) (e : Entry) → j < n
    → ((i : ℕ) → i ≢ j → other i ≡ entry i) → entry j ≡ None → other j ≡ Some e → IsPlaceIn j place e → length places ≡ length ids → at ≤ length ids
    → ((k : ℕ) → k < at → get_or ids k 0 < e.id) → ((k : ℕ) → at ≤ k → k < length ids → e.id < get_or ids k 0)
    → AreListed entry n ids places → AreListed other n (insert ids at e.id) (insert places at place)
AreListed-opened entry other n j ids places at place e in_range same free opened place_is paired within below above had = record {
  each = each-insert (λ id p. IsPlaceOf other n id p) ids places at e.id place within paired each_old mine;
  all = all_after entry other n j e ids (insert ids at e.id) same opened (IsListed-inserted ids at e.id within) (λ x listed. IsListed-insert ids at e.id x within listed) had.all;
}
  where
    not_listed : (i : ℕ) → i < length ids → get_or ids i 0 ≡ e.id → ⊥
    not_listed i h equal = elim (cases_lt i at) [
      | inl before ↦ let less : get_or ids i 0 < e.id = below i before in omega arith
      | inr from ↦ let more : e.id < get_or ids i 0 = above i from h in omega arith
    ]

    each_old : (i : ℕ) (d : SlotOf) → i < length ids → IsPlaceOf other n (get_or ids i 0) (get_or places i d)
    each_old i d h =
        let was = had.each i d h in
        record {
          chosen = was.chosen;
          is = IsChosen-gains entry other n j (get_or places i d).slot was.chosen e same free opened (λ equal. not_listed i h (sym was.of_id ∙ sym equal)) was.is;
          of_id = was.of_id;
          generation = was.generation;
          len = was.len;
          further = was.further;
        }

    mine : IsPlaceOf other n e.id place
    mine = record {
      chosen = e;
      is = subst (λ (k : ℕ). IsChosen other n k e) (sym place_is.at) (IsChosen-opened entry other n j e in_range same opened
          (λ i x h at_i equal. let listed = had.all i x h at_i in absurd (not_listed listed.0 listed.1 (listed.2 ∙ equal))));
      of_id = refl;
      generation = place_is.generation;
      len = place_is.len;
      further = place_is.further;
    }

-- a newer record of a listed identifier
pub AreListed-replaced : (entry other : ℕ → Option Entry) (n j : ℕ) (ids : List ℕ) (places : List SlotOf) (at : ℕ) (d place : SlotOf) (e : Entry) → j < n
    → ((i : ℕ) → i ≢ j → other i ≡ entry i) → entry j ≡ None → other j ≡ Some e → IsPlaceIn j place e → IsStrictlyIncreasing ids → length places ≡ length ids
    → at < length ids → get_or ids at 0 ≡ e.id → (get_or places at d).generation < e.generation
    → AreListed entry n ids places → AreListed other n ids (set places at place)
AreListed-replaced entry other n j ids places at d place e in_range same free opened place_is up paired within key newer had = record {
  each = each-set entry other n n j ids places at d place e place_is up paired within key newer (IsChosen-opened entry other n j e in_range same opened)
      (λ k c apart chosen. IsChosen-gains entry other n j k c e same free opened apart chosen) had.each;
  all = all_after entry other n j e ids ids same opened (at, within, key) (λ x listed. listed) had.all;
}

-- what is listed apart from it stays listed
pub IsListed-remove : (ids : List ℕ) (at x : ℕ) → at < length ids → (x ≡ get_or ids at 0 → ⊥) → IsListed ids x → IsListed (remove ids at) x
IsListed-remove ids at x within apart had =
    let long : length (remove ids at) + 1 ≡ length ids = length-remove ids at within in
    let low : had.0 < length ids = had.1 in
    elim (cases_lt had.0 at) [
      | inl before ↦ (had.0, omega arith, get_or-remove_below ids at 0 had.0 before within ∙ had.2)
      | inr from ↦ elim (cases_eq had.0 at) [
        | inl here ↦ absurd (apart (sym had.2 ∙ ap (λ (i : ℕ). get_or ids i 0) here))
        | inr other ↦
            let behind : at ≤ had.0 - 1 = omega arith in
            let back : (had.0 - 1) + 1 ≡ had.0 = omega arith in
            (had.0 - 1, omega arith, get_or-remove_above ids at 0 (had.0 - 1) behind within ∙ ap (λ (i : ℕ). get_or ids i 0) back ∙ had.2)
      ]
    ]

-- the only slot of an identifier was killed
pub AreListed-cleared : (entry other : ℕ → Option Entry) (n j : ℕ) (ids : List ℕ) (places : List SlotOf) (at : ℕ) (e : Entry)
    → ((i : ℕ) → i ≢ j → other i ≡ entry i) → entry j ≡ Some e → other j ≡ None
    → ((k : ℕ) (x : Entry) → k < n → entry k ≡ Some x → x.id ≡ e.id → k ≡ j) → IsStrictlyIncreasing ids → length places ≡ length ids
    → at < length ids → get_or ids at 0 ≡ e.id → AreListed entry n ids places → AreListed other n (remove ids at) (remove places at)
AreListed-cleared entry other n j ids places at e same was gone only up paired within key had =
    let long : length (remove ids at) + 1 ≡ length ids = length-remove ids at within in
    record {
      each = λ i d h. elim (cases_lt i at) [
        | inl before ↦
            rw (get_or-remove_below ids at 0 i before within, get_or-remove_below places at d i before low) (at_index i d (omega arith) (λ here. earlier i before here))
        | inr from ↦
            rw (get_or-remove_above ids at 0 i from within, get_or-remove_above places at d i from low) (at_index (i + 1) d (omega arith) (λ here. later i from here))
      ];
      all = λ k x h at_k. elim (cases_eq k j) [
        | inl here ↦ absurd (none-some x (sym gone ∙ ap other (sym here) ∙ at_k))
        | inr kept ↦
            IsListed-remove ids at x.id within (λ equal. kept (only k x h (sym (same k kept) ∙ at_k) (equal ∙ key)))
            (had.all k x h (sym (same k kept) ∙ at_k))
      ];
    }
  where
    low : at < length places
    low = omega arith

    earlier : (i : ℕ) → i < at → i ≡ at → ⊥
    earlier i h here = omega arith

    later : (i : ℕ) → at ≤ i → i + 1 ≡ at → ⊥
    later i h here = omega arith

    at_index : (i : ℕ) (d : SlotOf) → i < length ids → (i ≡ at → ⊥) → IsPlaceOf other n (get_or ids i 0) (get_or places i d)
    at_index i d h apart =
        let place = had.each i d h in
        let elsewhere : (get_or places i d).slot ≢ j = λ here.
        apart (same_index ids i at up h within (sym place.of_id
        ∙ ap (λ (y : Entry). y.id) (same_Some place.chosen e (sym (place.is).here ∙ ap entry here ∙ was)) ∙ sym key)) in
        record {
          chosen = place.chosen;
          is = IsChosen-without entry other n j (get_or places i d).slot place.chosen same gone elsewhere place.is;
          of_id = place.of_id;
          generation = place.generation;
          len = place.len;
          further = place.further;
        }
