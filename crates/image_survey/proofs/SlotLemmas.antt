-- Live slots and first slots, by what was seen of all slots.
use Rattle.std.proofs.Common.{◌≡◌, ℕ, zero, suc, ◌+◌, ◌-◌, ◌<◌, Bool, true, false, not, List, [], ◌∷◌, length, get_or, take, Option, None, refl, sym, ap, ◌∙◌, arith, inl, inr}
use Rattle.std.specs.Prelude.{◌==◌, ◌&&◌, ◌||◌, nat_lt}
use Rattle.std.specs.List.{list_any}
use Rattle.std.proofs.lemmas.Bool.{cases_eq, both_ways, false_from_ne_true, lt-ltb, cond-true, cond-false}
use Rattle.record_model.specs.Records.{Head, Slot, Entry, is_upright, is_up, are_parts, further_of, is_live, entry_of, record_of, goes_before, is_behind, is_first, holds, is_taken, parts_of}
use Rattle.record_model.proofs.LiveLemmas.{live_parts, entry_live, entry_dead, live_entry}
use Rattle.record_model.proofs.FirstLemmas.{is_first-chosen}
use Rattle.record_slots.specs.Listed.{first_records}
use Rattle.record_slots.specs.Slots.{numbers_of}
use Rattle.record_slots.specs.declared.found.Look.{Look}
use Rattle.record_slots.specs.Looks.{IsSeen}
use Rattle.record_slots.proofs.LookLemmas.{seen_up}
use Rattle.record_model.proofs.Words.{leads}

three_tests : (p q r : Bool) → p ≡ true → q ≡ true → (p && q && r) ≡ r
three_tests p q r h i = ap (λ (b : Bool). b && q && r) h ∙ ap (λ (b : Bool). b && r) i

pub live_by : (room slots k : ℕ) (seen : ℕ → Slot) (look : Look) (b : Bool) → k < slots → IsSeen (seen k) look
    → true ≡ is_upright room slots (numbers_of look.head) look.tail
    → b ≡ are_parts room k (numbers_of look.head) seen 1 (further_of room (numbers_of look.head)) → b ≡ is_live room slots seen k
unfolding is_live
live_by room slots k seen look b within is up parts =
    parts ∙ ap (λ (h : Head). are_parts room k h seen 1 (further_of room h)) is.head
    ∙ sym (three_tests (nat_lt k slots) (is_up room slots (seen k)) (are_parts room k (seen k).head seen 1 (further_of room (seen k).head))
    (lt-ltb k slots within) (sym (seen_up room slots (seen k) look true is up)))

pub down_by : (room slots k : ℕ) (seen : ℕ → Slot) (look : Look) → IsSeen (seen k) look
    → false ≡ is_upright room slots (numbers_of look.head) look.tail → false ≡ is_live room slots seen k
down_by room slots k seen look is down =
    sym (false_from_ne_true (is_live room slots seen k) (λ live.
    both_ways (is_up room slots (seen k)) (sym (seen_up room slots (seen k) look false is down)) (live_parts room slots seen k live).up))

-- whether a record goes before another
pub dead_behind : (room slots : ℕ) (seen : ℕ → Slot) (at k : ℕ) → is_live room slots seen at ≡ false
    → false ≡ goes_before (entry_of room slots seen at) at (record_of room seen k) k
dead_behind room slots seen at k dead = sym (ap (λ (o : Option Entry). goes_before o at (record_of room seen k) k) (entry_dead room slots seen at dead))

pub live_ahead : (room slots : ℕ) (seen : ℕ → Slot) (at k : ℕ) (other this : Head) (b : Bool) → is_live room slots seen at ≡ true → other ≡ (seen at).head → this ≡ (seen k).head
    → b ≡ (other.id == this.id && (nat_lt this.generation other.generation || (this.generation == other.generation && nat_lt at k)))
    → b ≡ goes_before (entry_of room slots seen at) at (record_of room seen k) k
unfolding record_of
live_ahead room slots seen at k other this b live one two is =
    is ∙ (λ i. (one i).id == (two i).id && (nat_lt (two i).generation (one i).generation || ((two i).generation == (one i).generation && nat_lt at k)))
    ∙ sym (ap (λ (o : Option Entry). goes_before o at (record_of room seen k) k) (entry_live room slots seen at live))

pub behind_more : (entry : ℕ → Option Entry) (n k : ℕ) (this : Entry) → is_behind entry n this k ≡ false → false ≡ goes_before (entry n) n this k
    → is_behind entry (n + 1) this k ≡ false
unfolding is_behind
behind_more entry n k this had here =
    let next : n + 1 ≡ suc n = omega arith in
    ap (λ (m : ℕ). is_behind entry m this k) next ∙ ap (λ (b : Bool). b || is_behind entry n this k) (sym here) ∙ had

pub behind_here : (entry : ℕ → Option Entry) (n slots k : ℕ) (this : Entry) → n < slots → true ≡ goes_before (entry n) n this k → is_behind entry slots this k ≡ true
unfolding is_behind
behind_here entry n zero k this h here = absurd (omega arith)
behind_here entry n (suc m) k this h here = elim (cases_eq n m) [
  | inl last ↦ ap (λ (b : Bool). b || is_behind entry m this k) (ap (λ (i : ℕ). goes_before (entry i) i this k) (sym last) ∙ sym here)
  | inr before ↦ right (goes_before (entry m) m this k) (behind_here entry n m k this (omega arith) here)
]
  where
    right : (b : Bool) → is_behind entry m this k ≡ true → (b || is_behind entry m this k) ≡ true
    right true later = refl
    right false later = later

-- whether a slot is the first slot of its identifier's record
pub first-dead : (room slots : ℕ) (seen : ℕ → Slot) (k : ℕ) → is_live room slots seen k ≡ false → false ≡ is_first (entry_of room slots seen) slots k
unfolding is_first
first-dead room slots seen k dead = sym (ap (λ (o : Option Entry). leads (entry_of room slots seen) slots o k) (entry_dead room slots seen k dead))

pub first-live : (room slots : ℕ) (seen : ℕ → Slot) (k : ℕ) (b : Bool) → is_live room slots seen k ≡ true → is_behind (entry_of room slots seen) slots (record_of room seen k) k ≡ b
    → not b ≡ is_first (entry_of room slots seen) slots k
unfolding is_first
first-live room slots seen k b live is =
    sym (ap (λ (o : Option Entry). leads (entry_of room slots seen) slots o k) (entry_live room slots seen k live) ∙ ap not is)

-- the slots of first slots' records
pub taken_more : (entry : ℕ → Option Entry) (n j : ℕ) → is_taken entry n j ≡ false → false ≡ holds (entry n) n j → is_taken entry (n + 1) j ≡ false
unfolding is_taken
taken_more entry n j had here =
    let next : n + 1 ≡ suc n = omega arith in
    ap (λ (m : ℕ). is_taken entry m j) next ∙ ap (λ (b : Bool). b || holds (entry n) n j) had ∙ sym here

pub taken_here : (entry : ℕ → Option Entry) (n slots j : ℕ) → n < slots → true ≡ holds (entry n) n j → is_taken entry slots j ≡ true
unfolding is_taken
taken_here entry n zero j h here = absurd (omega arith)
taken_here entry n (suc m) j h here = elim (cases_eq n m) [
  | inl last ↦ or_right (is_taken entry m j) (holds (entry m) m j) (ap (λ (i : ℕ). holds (entry i) i j) (sym last) ∙ sym here)
  | inr before ↦ ap (λ (b : Bool). b || holds (entry m) m j) (taken_here entry n m j (omega arith) here)
]
  where
    or_right : (a b : Bool) → b ≡ true → (a || b) ≡ true
    or_right true b is = refl
    or_right false b is = is

pub later_holds : (entry : ℕ → Option Entry) (slots n j : ℕ) → is_first entry slots n ≡ false → false ≡ holds (first_records entry slots n) n j
unfolding first_records
later_holds entry slots n j later = sym (ap (λ (o : Option Entry). holds o n j) (cond-false {A = Option Entry} (is_first entry slots n) (entry n) None later))

pub first_holds : (room slots : ℕ) (seen : ℕ → Slot) (n j : ℕ) (head : Head) (b : Bool) → n < slots → is_first (entry_of room slots seen) slots n ≡ true → head ≡ (seen n).head
    → b ≡ (j == n || list_any (λ m. j == m) (further_of room head)) → b ≡ holds (first_records (entry_of room slots seen) slots n) n j
unfolding first_records record_of
first_holds room slots seen n j head b within first is held =
    let chosen = is_first-chosen (entry_of room slots seen) slots n within first in
    let live = live_entry room slots seen n chosen.0 (chosen.1).here in
    held ∙ ap (λ (h : Head). j == n || list_any (λ m. j == m) (further_of room h)) is
    ∙ sym (ap (λ (o : Option Entry). holds o n j) (cond-true {A = Option Entry} (is_first (entry_of room slots seen) slots n) (entry_of room slots seen n) None
    first ∙ entry_live room slots seen n live))

-- the first n of three numbers
three_of : (next : List ℕ) → length next ≡ 3 → next ≡ get_or next 0 0 ∷ get_or next 1 0 ∷ get_or next 2 0 ∷ []
three_of [] e = absurd (omega arith)
three_of (a ∷ []) e = absurd (omega arith)
three_of (a ∷ b ∷ []) e = absurd (omega arith)
three_of (a ∷ b ∷ c ∷ []) e = refl
three_of (a ∷ b ∷ c ∷ d ∷ rest) e = absurd (omega arith)

no_more : (n : ℕ) → take {A = ℕ} n [] ≡ []
no_more zero = refl
no_more (suc n) = refl

any_1 : (p : Bool) → (p || false || false) ≡ (p || false)
any_1 true = refl
any_1 false = refl

any_2 : (p q : Bool) → (p || q || false) ≡ (p || (q || false))
any_2 true q = refl
any_2 false true = refl
any_2 false false = refl

any_3 : (p q r : Bool) → (p || q || r) ≡ (p || (q || (r || false)))
any_3 true q r = refl
any_3 false true r = refl
any_3 false false true = refl
any_3 false false false = refl

any_three : (test : ℕ → Bool) (a b c n : ℕ)
    → ((nat_lt 0 n && test a) || (nat_lt 1 n && test b) || (nat_lt 2 n && test c)) ≡ list_any test (take n (a ∷ b ∷ c ∷ []))
any_three test a b c zero = refl
any_three test a b c (suc zero) = any_1 (test a)
any_three test a b c (suc (suc zero)) = any_2 (test a) (test b)
any_three test a b c (suc (suc (suc n))) =
    (rw (lt-ltb 0 (suc (suc (suc n))) (omega arith), lt-ltb 1 (suc (suc (suc n))) (omega arith), lt-ltb 2 (suc (suc (suc n))) (omega arith), no_more n)
    (any_3 (test a) (test b) (test c)))

pub named_by : (room slot further : ℕ) (head : Head) → length head.next ≡ 3 → further ≡ parts_of room head.len - 1
    → ((nat_lt 0 further && (slot == get_or head.next 0 0)) || (nat_lt 1 further && (slot == get_or head.next 1 0)) || (nat_lt 2 further && (slot == get_or head.next 2 0)))
    ≡ list_any (λ n. slot == n) (further_of room head)
unfolding further_of
named_by room slot further head three is =
    any_three (λ n. slot == n) (get_or head.next 0 0) (get_or head.next 1 0) (get_or head.next 2 0) further
    ∙ ap (λ (xs : List ℕ). list_any (λ n. slot == n) (take further xs)) (sym (three_of head.next three))
    ∙ ap (λ (m : ℕ). list_any (λ n. slot == n) (take m head.next)) is

-- nothing is behind, and nothing taken, of no slots
pub behind_none : (entry : ℕ → Option Entry) (this : Entry) (k : ℕ) → is_behind entry 0 this k ≡ false
unfolding is_behind
behind_none entry this k = refl

pub taken_none : (entry : ℕ → Option Entry) (j : ℕ) → is_taken entry 0 j ≡ false
unfolding is_taken
taken_none entry j = refl
