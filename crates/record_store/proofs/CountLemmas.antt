-- How many identifiers and how many free slots are listed.
use Rattle.std.proofs.Common.{◌≡◌, ◌≢◌, ℕ, zero, suc, ◌+◌, ◌-◌, ◌*◌, ◌<◌, ◌≤◌, Bool, true, false, not, cond, nat_eq, List, [], ◌∷◌, length, get_or, Option}
use Rattle.std.proofs.Common.{Some, None, refl, sym, ap, ◌∙◌, arith, inl, inr}
use Rattle.std.specs.Ordering.{nat_cmp, eq_by_cmp}
use Rattle.std.specs.FinMap.{get, remove, len, get-remove}
use Rattle.std.specs.Cmp.{nat_cmp_total}
use Rattle.std.specs.List.Sorted.{IsStrictlyIncreasing}
use Rattle.std.proofs.lemmas.List.{length_push}
use Rattle.std.proofs.lemmas.Bool.{cases_eq, eq-eqb, ne_eqb}
use Rattle.std.proofs.lemmas.Bool.Decides.{nat_tests}
use Rattle.record_model.specs.Records.{Entry, Stored, selected, stored_in, entry_at, parts_in, is_taken, count_below, one_if, OnlyFirstUp}
use Rattle.record_model.proofs.PartsLemmas.{free_of_image}
use Rattle.record_model.proofs.SizeLemmas.{empty_among-len_at_most, len-removed, len_none}
use Rattle.record_slots.specs.declared.found.Found.{Found}
use Rattle.record_slots.specs.declared.found.SlotOf.{SlotOf}
use Rattle.record_slots.specs.Listed.{IsListed, AreListed, with_number, list_below, free_slots}
use Rattle.record_slots.proofs.ListedLemmas.{get-listed, get-unlisted}
use Rattle.record_slots.proofs.FreeLemmas.{rising-tail, listed-cons, listed_above}
use Rattle.record_store.specs.Index.{IsListing, IsListOf}
use Rattle.record_model.proofs.Words.{free_among, empty_among, one_if_none}

-- what is left of a map without an identifier
eq_by_cmp-nat : (x y : ℕ) → eq_by_cmp nat_cmp x y ≡ nat_eq x y
eq_by_cmp-nat x y = grind (arith, nat_tests)

get-removed_other : (stored : Stored) (id q : ℕ) → q ≢ id → get (remove stored id) q ≡ get stored q
get-removed_other stored id q apart =
    get-remove nat_cmp_total stored id q
    ∙ ap (λ (b : Bool). cond {A = Option (List ℕ × ℕ)} b None (get stored q)) (eq_by_cmp-nat q id ∙ ne_eqb q id apart)

get-removed_same : (stored : Stored) (id : ℕ) → get (remove stored id) id ≡ None
get-removed_same stored id =
    get-remove nat_cmp_total stored id id
    ∙ ap (λ (b : Bool). cond {A = Option (List ℕ × ℕ)} b None (get stored id)) (eq_by_cmp-nat id id ∙ eq-eqb id id refl)

-- a map has as many records as a list in strictly rising order that has its identifiers and no others
len-keys : (ids : List ℕ) (stored : Stored) → IsStrictlyIncreasing ids → ((q : ℕ) → IsListed ids q → (kept : List ℕ × ℕ) × (get stored q ≡ Some kept))
    → ((q : ℕ) → (IsListed ids q → ⊥) → get stored q ≡ None) → len stored ≡ length ids
len-keys [] stored up some none = len_none stored (λ q. none q (λ listed. let low : listed.0 < 0 = listed.1 in omega arith))
len-keys (x ∷ xs) stored up some none =
    let first = some x (0, omega arith, refl) in
    let rest : len (remove stored x) ≡ length xs =
    len-keys xs (remove stored x) (rising-tail x xs up)
    (λ q listed.
    let above : x < q = listed_above x xs q up listed in
    let had = some q (listed-cons x xs q listed) in
    (had.0, get-removed_other stored x q (λ same. below x q above same) ∙ had.1))
    (λ q unlisted. elim (cases_eq q x) [
      | inl same ↦ ap (get (remove stored x)) same ∙ get-removed_same stored x
      | inr apart ↦ get-removed_other stored x q apart ∙ none q (λ listed. behind q unlisted apart listed)
    ]) in
    let more = len-removed stored x first.0 first.1 in
    omega arith
  where
    below : (a b : ℕ) → a < b → b ≡ a → ⊥
    below a b h e = omega arith

    behind : (q : ℕ) → (IsListed xs q → ⊥) → q ≢ x → IsListed (x ∷ xs) q → ⊥
    behind q unlisted apart (zero, h, is) = apart (sym is)
    behind q unlisted apart (suc i, h, is) = unlisted (i, omega arith, is)

-- as many identifiers are listed as the map has
len-ids : (entry : ℕ → Option Entry) (n : ℕ) (ids : List ℕ) (places : List SlotOf) → IsStrictlyIncreasing ids → AreListed entry n ids places
    → len (selected entry n) ≡ length ids
len-ids entry n ids places up had =
    len-keys ids (selected entry n) up
    (λ q listed.
    let d : SlotOf = record { slot = 0; generation = 0; len = 0; next = [] } in
    let place = get-listed entry n listed.0 d ids places had listed.1 in
    ((place.0, (get_or places listed.0 d).generation), ap (get (selected entry n)) (sym listed.2) ∙ place.2))
    (λ q unlisted. get-unlisted entry n q ids places had unlisted)

-- of lists kept in step with the slots
pub len_stored : (entry : ℕ → Option Entry) (slots size : ℕ) (found : Found) → IsListing slots size found → IsListOf entry slots found
    → len (selected entry slots) ≡ length found.ids.items
len_stored entry slots size found listing list = len-ids entry slots found.ids.items found.places.items listing.index.rising list.listed

-- where a slot has no record, fewer identifiers are listed than there are slots
empty_some : (entry : ℕ → Option Entry) (n j : ℕ) → j < n → entry j ≡ None → 1 ≤ empty_among entry n
unfolding empty_among
empty_some entry zero j h none = absurd (omega arith)
empty_some entry (suc n) j h none = elim (cases_eq j n) [
  | inl last ↦ let one : one_if_none (entry n) ≡ 1 = ap one_if_none (ap entry (sym last) ∙ none) in omega arith
  | inr before ↦ let rest : 1 ≤ empty_among entry n = empty_some entry n j (omega arith) none in omega arith
]

pub fewer_ids : (entry : ℕ → Option Entry) (n j : ℕ) (ids : List ℕ) (places : List SlotOf) → IsStrictlyIncreasing ids → AreListed entry n ids places
    → j < n → entry j ≡ None → length ids < n
fewer_ids entry n j ids places up had low none =
    let some : 1 ≤ empty_among entry n = empty_some entry n j low none in
    let size : len (selected entry n) ≡ length ids = len-ids entry n ids places up had in
    let most = empty_among-len_at_most entry n in
    omega arith

-- as many slots are listed as free as are
length-list_below : (test : ℕ → Bool) (n : ℕ) → length (list_below test n) ≡ count_below test n
unfolding list_below count_below
length-list_below test zero = refl
length-list_below test (suc n) = with_last (test n) (length-list_below test n)
  where
    with_last : (b : Bool) → length (list_below test n) ≡ count_below test n → length (with_number b n (list_below test n)) ≡ one_if b + count_below test n
    with_last true same = let long = length_push (list_below test n) n in omega arith
    with_last false same = omega arith

length-free_slots : (entry : ℕ → Option Entry) (n : ℕ) → length (free_slots entry n) ≡ free_among entry n
unfolding free_slots free_among
length-free_slots entry n = length-list_below (λ k. not (is_taken entry n k)) n

-- where only first slots of records are upright, the free slots and those of the records are all
pub free_and_stored : (size slots : ℕ) (image : List ℕ) (found : Found) → 65 ≤ size → length image ≡ size * slots → OnlyFirstUp size slots image
    → IsListOf (entry_at size slots image) slots found → length found.free.items + parts_in (size - 64) (stored_in size slots image) ≡ slots
free_and_stored size slots image found large sized only list =
    let free : length found.free.items ≡ length (free_slots (entry_at size slots image) slots) = ap (λ (xs : List ℕ). length xs) list.free in
    let counted = length-free_slots (entry_at size slots image) slots in
    let all = free_of_image size slots image large sized only in
    omega arith
