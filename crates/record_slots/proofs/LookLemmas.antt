-- What a look at a slot says of it.
use Rattle.std.proofs.Common.{◌≡◌, ℕ, zero, suc, ◌+◌, ◌-◌, ◌*◌, ◌<◌, ◌≤◌, Bool, true, false, not, List, [], ◌∷◌, ◌++◌, length, take, get_or, None, sym, ap, subst, ◌∙◌, arith, inl, inr}
use Rattle.std.specs.Prelude.{◌||◌}
use Rattle.std.proofs.lemmas.Bool.{and_parts, both_ways, cases_eq, false_from_ne_true, leb-true, not-true}
use Rattle.std.proofs.Math.ListN.{get_or-append}
use Rattle.std.proofs.Math.Seq.{get_or-append_seam}
use Rattle.flash_model.specs.declared.geometry.Geometry.{Geometry}
use Rattle.base_model.specs.Layout.{reach_of}
use Rattle.record_model.specs.Records.{Head, Slot, slot_at, head_at, tail_at, is_reserved, is_upright, is_spread, is_up, are_parts, further_of, is_live, entry_at, parts_of, AreBelow}
use Rattle.record_model.proofs.LiveLemmas.{live_parts, from_parts, entry_dead, down_entry}
use Rattle.record_model.proofs.PartsLemmas.{UpForm, up_form, further_form, parts_of-some, parts_of-few}
use Rattle.record_slots.specs.Slots.{numbers_of}
use Rattle.record_slots.specs.declared.found.Look.{Look}
use Rattle.record_slots.specs.declared.found.SlotOf.{SlotOf}
use Rattle.record_slots.specs.Listed.{IsWithin}
use Rattle.record_slots.specs.Looks.{IsSeen, AreSeen}
use Rattle.record_model.proofs.Words.{is_alone}

pub upright_id : (room slots : ℕ) (head : Head) (tail : ℕ) → is_upright room slots head tail ≡ true → is_reserved head.id ≡ false
unfolding is_upright
upright_id room slots head tail up =
    let a = and_parts _ (is_alone room head || is_spread room slots head) up in
    let b = and_parts _ (not (is_reserved head.id)) a.0 in
    not-true (is_reserved head.id) b.1

reach_least : (room : ℕ) → room ≤ 65536 → room ≤ reach_of room
unfolding reach_of
reach_least room h = omega arith

-- what was read of a slot is seen of it
pub seen_here : (size n : ℕ) (image : List ℕ) (look : Look) → numbers_of look.head ≡ head_at image (n * size) → look.tail ≡ tail_at image (n * size) size → IsSeen (slot_at size image n) look
unfolding slot_at
seen_here size n image look head tail = record { head = head; tail = tail }

pub seen_push : (slot : ℕ → Slot) (n : ℕ) (looks : List Look) (look : Look) → length looks ≡ n → IsSeen (slot n) look → AreSeen slot n looks → AreSeen slot (n + 1) (looks ++ look ∷ [])
seen_push slot n looks look long here had k d h = elim (cases_eq k n) [
  | inl last ↦
      let at : get_or (looks ++ look ∷ []) (length looks) d ≡ look = get_or-append_seam looks look [] d in
      let is : length looks ≡ k = omega arith in
      subst (λ (x : Look). IsSeen (slot k) x) (sym (ap (λ (i : ℕ). get_or (looks ++ look ∷ []) i d) (sym is) ∙ at))
      (subst (λ (i : ℕ). IsSeen (slot i) look) (sym last) here)
  | inr before ↦
      let low : k < length looks = omega arith in
      subst (λ (x : Look). IsSeen (slot k) x) (sym (get_or-append looks (look ∷ []) d k low)) (had k d (omega arith))
]

pub seen_head : (size n : ℕ) (image : List ℕ) (look : Look) → IsSeen (slot_at size image n) look → numbers_of look.head ≡ head_at image (n * size)
unfolding slot_at
seen_head size n image look seen = seen.head

-- whether a slot is upright, by what was seen of it
pub seen_up : (room slots : ℕ) (slot : Slot) (look : Look) (b : Bool) → IsSeen slot look → b ≡ is_upright room slots (numbers_of look.head) look.tail → b ≡ is_up room slots slot
unfolding is_up
seen_up room slots slot look b seen is = is ∙ (λ i. is_upright room slots (seen.head i) (seen.tail i))

-- and whether it is live
pub seen_live : (size slots n : ℕ) (image : List ℕ) (look : Look) → n < slots → IsSeen (slot_at size image n) look
    → true ≡ is_upright (size - 64) slots (numbers_of look.head) look.tail
    → true ≡ are_parts (size - 64) n (numbers_of look.head) (slot_at size image) 1 (further_of (size - 64) (numbers_of look.head))
    → is_live (size - 64) slots (slot_at size image) n ≡ true
seen_live size slots n image look within seen up parts = from_parts (size - 64) slots (slot_at size image) n (record {
  within = within;
  up = sym (seen_up (size - 64) slots (slot_at size image n) look true seen up);
  parts = sym (parts ∙ ap (λ (h : Head). are_parts (size - 64) n h (slot_at size image) 1 (further_of (size - 64) h)) seen.head);
})

pub seen_dead : (size slots n : ℕ) (image : List ℕ) (look : Look) → IsSeen (slot_at size image n) look
    → false ≡ are_parts (size - 64) n (numbers_of look.head) (slot_at size image) 1 (further_of (size - 64) (numbers_of look.head)) → entry_at size slots image n ≡ None
unfolding entry_at
seen_dead size slots n image look seen parts = entry_dead (size - 64) slots (slot_at size image) n (false_from_ne_true (is_live (size - 64) slots (slot_at size image) n) (λ live.
    both_ways (are_parts (size - 64) n (numbers_of look.head) (slot_at size image) 1 (further_of (size - 64) (numbers_of look.head))) (sym parts)
    (ap (λ (h : Head). are_parts (size - 64) n h (slot_at size image) 1 (further_of (size - 64) h)) seen.head ∙ (live_parts (size - 64) slots (slot_at size image) n live).parts)))

pub seen_down : (size slots n : ℕ) (image : List ℕ) → false ≡ is_up (size - 64) slots (slot_at size image n) → entry_at size slots image n ≡ None
unfolding entry_at
seen_down size slots n image down = down_entry (size - 64) slots (slot_at size image) n (sym down)

below_at : (slots : ℕ) (next : List ℕ) (m at : ℕ) → AreBelow slots (take m next) → at < m → at < length next → get_or next at 0 < slots
below_at slots [] m at below h l = absurd (omega arith)
below_at slots (x ∷ next) zero at below h l = absurd (omega arith)
below_at slots (x ∷ next) (suc m) zero below h l = below.0
below_at slots (x ∷ next) (suc m) (suc at) below h l = below_at slots next m at below.1 (omega arith) (omega arith)

-- an upright slot has a form of its own, whatever its body
form_of : (room slots : ℕ) (head : Head) (tail : ℕ) → is_upright room slots head tail ≡ true → UpForm room slots head
unfolding is_up
form_of room slots head tail up = up_form room slots (record { head = head; tail = tail; body = [] }) up

-- a head names as many slots of the store as its record has further parts
pub record NamesParts (geometry : Geometry) (head : Head) : Type 0 where
  pub least : 128 ≤ head.len
  pub some : 1 ≤ parts_of (geometry.slot_size - 64) head.len
  pub few : parts_of (geometry.slot_size - 64) head.len ≤ 4
  pub below : (at : ℕ) → at + 1 < parts_of (geometry.slot_size - 64) head.len → get_or head.next at 0 < geometry.slots

pub names_parts : (geometry : Geometry) (head : Head) (tail : ℕ) → is_upright (geometry.slot_size - 64) geometry.slots head tail ≡ true → length head.next ≡ 3 → NamesParts geometry head
unfolding further_of
names_parts geometry head tail up three =
    let large : 512 ≤ geometry.slot_size = geometry.least_slot in
    let form = form_of (geometry.slot_size - 64) geometry.slots head tail up in
    let least : 128 ≤ head.len = form.least in
    let further = further_form (geometry.slot_size - 64) geometry.slots head (omega arith) three form in
    let few : parts_of (geometry.slot_size - 64) head.len ≤ 4 = parts_of-few (geometry.slot_size - 64) head.len (omega arith) further.within in
    record {
      least = least;
      some = parts_of-some (geometry.slot_size - 64) head.len (omega arith) (omega arith);
      few = few;
      below = λ at h. below_at geometry.slots head.next (parts_of (geometry.slot_size - 64) head.len - 1) at further.below (omega arith) (omega arith);
    }

alone_len : (room : ℕ) (head : Head) → is_alone room head ≡ true → head.len ≤ room
alone_len room head alone = let both = and_parts _ _ alone in leb-true head.len room both.1

spread_len : (room slots : ℕ) (head : Head) → is_spread room slots head ≡ true → head.len ≤ reach_of room
unfolding is_spread
spread_len room slots head spread =
    let a = and_parts _ _ spread in
    let b = and_parts _ _ a.0 in
    let c = and_parts _ _ b.0 in
    leb-true head.len (reach_of room) c.1

pub len_reach : (room slots : ℕ) (head : Head) → room ≤ 65536 → UpForm room slots head → head.len ≤ reach_of room
len_reach room slots head most form = elim form.form [
  | inl alone ↦ let fits : head.len ≤ room = alone_len room head alone in let r = reach_least room most in omega arith
  | inr spread ↦ spread_len room slots head spread
]

pub within_of : (geometry : Geometry) (head : Head) (tail : ℕ) (place : SlotOf) → is_upright (geometry.slot_size - 64) geometry.slots head tail ≡ true → length head.next ≡ 3
    → place.slot < geometry.slots → head.len ≡ place.len → head.next ≡ place.next → IsWithin geometry.slots geometry.slot_size place
within_of geometry head tail place up three within len next =
    let form = form_of (geometry.slot_size - 64) geometry.slots head tail up in
    let least : 128 ≤ head.len = form.least in
    let great : geometry.slot_size ≤ 65600 = geometry.greatest_slot in
    let most : head.len ≤ reach_of (geometry.slot_size - 64) = len_reach (geometry.slot_size - 64) geometry.slots head (omega arith) form in
    let names = names_parts geometry head tail up three in
    record {
      slot = within;
      least = omega arith;
      most = omega arith;
      below = λ at h. subst (λ (xs : List ℕ). get_or xs at 0 < geometry.slots) next (names.below at (subst (λ (n : ℕ). at + 1 < parts_of (geometry.slot_size - 64) n) (sym len) h));
    }

-- a place within the store has one part at least, and four at most
pub place_parts : (geometry : Geometry) (place : SlotOf) → IsWithin geometry.slots geometry.slot_size place
    → (1 ≤ parts_of (geometry.slot_size - 64) place.len) × (parts_of (geometry.slot_size - 64) place.len ≤ 4)
unfolding reach_of
place_parts geometry place within =
    let large : 512 ≤ geometry.slot_size = geometry.least_slot in
    let least : 128 ≤ place.len = within.least in
    let most : place.len ≤ reach_of (geometry.slot_size - 64) = within.most in
    (parts_of-some (geometry.slot_size - 64) place.len (omega arith) (omega arith), parts_of-few (geometry.slot_size - 64) place.len (omega arith) (omega arith))
