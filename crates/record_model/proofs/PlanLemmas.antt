-- A record that is being written into several slots: what each change leaves, whatever is torn.
use Rattle.std.proofs.Common.{◌≡◌, ◌≢◌, ◌⊎◌, ℕ, zero, suc, ◌+◌, ◌-◌, ◌*◌, ◌<◌, ◌≤◌, Bool, true, false, List, [], ◌∷◌, ◌++◌, length, take, drop, get_or, Option}
use Rattle.std.proofs.Common.{Some, refl, sym, ap, subst, ◌∙◌, arith, inl, inr}
use Rattle.std.specs.Prelude.{◌==◌, ◌||◌}
use Rattle.std.specs.List.{list_any}
use Rattle.std.specs.FinMap.{insert}
use Rattle.std.proofs.lemmas.Bool.{cases_eq, cases_Bool, eq-eqb, eqb-true, or_parts, or_from, or_cases, both_ways, false_from_ne_true}
use Rattle.base_model.specs.Bytes.{SameOutside, number_at}
use Rattle.base_model.proofs.BytesLemmas.{SameOutside-wider}
use Rattle.base_model.specs.Layout.{Layout}
use Rattle.record_model.specs.Records.{Slot, slot_at, Entry, entry_at, stored_in, is_taken, OnlyFirstUp, NearlyOnlyFirstUp, HasPart, HaveParts, AreDistinct, gate_open, tail_mark}
use Rattle.record_model.specs.Filling.{Step, IsFilled}
use Rattle.record_model.specs.Plan.{Plan, IsPlan, Fill, Gate, target_of, further_done, slots_ahead, PartsStand, KnowsPlan, StandsAtStage}
use Rattle.record_model.proofs.LiveLemmas.{others_kept, gate_map, gate_replaces, gate_adds}
use Rattle.record_model.proofs.SlotLemmas.{slot_at-other, differs_entries, differs_only, differs_stored, down_by_gate}
use Rattle.record_model.proofs.GateLemmas.{whole_record}
use Rattle.record_model.proofs.BegunLemmas.{HasPart-filled, StandsFirst-opened}
use Rattle.record_model.proofs.Words.{DiffersInFreeSlot}

-- parts in slots of which none is slot j, as slot j changes
have_parts-other : (room k id generation : ℕ) (further body : List ℕ) (old new : ℕ → Slot) (j number : ℕ) (xs : List ℕ) → ((n : ℕ) → n ≢ j → new n ≡ old n)
    → list_any (λ n. j == n) xs ≡ false → HaveParts room k id generation further body old number xs → HaveParts room k id generation further body new number xs
have_parts-other room k id generation further body old new j number [] same none have = tt
have_parts-other room k id generation further body old new j number (n ∷ rest) same none have =
    let apart = or_parts (j == n) (list_any (λ m. j == m) rest) none in (
      subst (λ (s : Slot). HasPart room k id generation further body number s) (sym (same n (λ e. both_ways (j == n) apart.0 (eq-eqb j n (sym e))))) have.0,
      have_parts-other room k id generation further body old new j (number + 1) rest same apart.1 have.1,
    )

-- one more part behind others
have_parts-push : (room k id generation : ℕ) (further body : List ℕ) (slot : ℕ → Slot) (number n : ℕ) (xs : List ℕ) → HaveParts room k id generation further body slot number xs
    → HasPart room k id generation further body (number + length xs) (slot n) → HaveParts room k id generation further body slot number (xs ++ n ∷ [])
have_parts-push room k id generation further body slot number n [] have last = (subst (λ (m : ℕ). HasPart room k id generation further body m (slot n)) (omega arith) last, tt)
have_parts-push room k id generation further body slot number n (x ∷ xs) have last = (
  have.0,
  have_parts-push room k id generation further body slot (number + 1) n xs have.1
      (subst (λ (m : ℕ). HasPart room k id generation further body m (slot n)) (omega arith) last),
)

-- a number that is not in a list is not at a place of it, nor in a part of it
not_at : (x : ℕ) (xs : List ℕ) (i : ℕ) → list_any (λ m. x == m) xs ≡ false → i < length xs → get_or xs i 0 ≢ x
not_at x [] i none h = absurd (omega arith)
not_at x (y ∷ ys) zero none h = let apart = or_parts (x == y) (list_any (λ m. x == m) ys) none in λ e. both_ways (x == y) apart.0 (eq-eqb x y (sym e))
not_at x (y ∷ ys) (suc i) none h = let apart = or_parts (x == y) (list_any (λ m. x == m) ys) none in not_at x ys i apart.1 (omega arith)

at_in : (xs : List ℕ) (i : ℕ) → i < length xs → list_any (λ m. get_or xs i 0 == m) xs ≡ true
at_in [] i h = absurd (omega arith)
at_in (y ∷ ys) zero h = ap (λ (b : Bool). b || list_any (λ m. y == m) ys) (eq-eqb y y refl)
at_in (y ∷ ys) (suc i) h = elim (cases_Bool (get_or ys i 0 == y)) [
  | inl here ↦ ap (λ (b : Bool). b || list_any (λ m. get_or ys i 0 == m) ys) here
  | inr apart ↦ ap (λ (b : Bool). b || list_any (λ m. get_or ys i 0 == m) ys) apart ∙ at_in ys i (omega arith)
]

-- of distinct numbers each is apart from those before it
pub not_before : (xs : List ℕ) (i : ℕ) → AreDistinct xs → i < length xs → list_any (λ m. get_or xs i 0 == m) (take i xs) ≡ false
not_before [] i apart h = absurd (omega arith)
not_before (x ∷ xs) zero apart h = refl
not_before (x ∷ xs) (suc i) apart h =
    or_from (get_or xs i 0 == x) (list_any (λ m. get_or xs i 0 == m) (take i xs))
    (false_from_ne_true (get_or xs i 0 == x) (λ is. not_at x xs i apart.0 (omega arith) (eqb-true (get_or xs i 0) x is)))
    (not_before xs i apart.1 (omega arith))

-- and from those behind it
not_behind : (xs : List ℕ) (i n : ℕ) → AreDistinct xs → i < length xs → list_any (λ m. n == m) (drop (suc i) xs) ≡ true → n ≢ get_or xs i 0
not_behind [] i n apart h is = absurd (omega arith)
not_behind (x ∷ xs) zero n apart h is = λ e. both_ways (list_any (λ m. x == m) xs) apart.0 (subst (λ (k : ℕ). list_any (λ m. k == m) xs ≡ true) e is)
not_behind (x ∷ xs) (suc i) n apart h is = not_behind xs i n apart.1 (omega arith) is

pub any_append : (n : ℕ) (xs ys : List ℕ) → list_any (λ m. n == m) (xs ++ ys) ≡ true → (list_any (λ m. n == m) xs ≡ true) ⊎ (list_any (λ m. n == m) ys ≡ true)
any_append n [] ys is = inr is
any_append n (x ∷ xs) ys is = elim (or_cases (n == x) (list_any (λ m. n == m) (xs ++ ys)) is) [
  | inl here ↦ inl (ap (λ (b : Bool). b || list_any (λ m. n == m) xs) here)
  | inr later ↦ elim (any_append n xs ys later) [
    | inl left ↦ inl (elim (cases_Bool (n == x)) [
      | inl here ↦ ap (λ (b : Bool). b || list_any (λ m. n == m) xs) here
      | inr apart ↦ ap (λ (b : Bool). b || list_any (λ m. n == m) xs) apart ∙ left
    ])
    | inr right ↦ inr right
  ]
]

-- the slot of a part is one of the plan's, and neither filled nor ahead while it is being filled
pub target_in : (layout : Layout) (plan : Plan) (number : ℕ) → number ≤ length plan.further → list_any (λ m. (target_of layout plan number).slot == m) (plan.first ∷ plan.further) ≡ true
target_in layout plan zero h = at_in (plan.first ∷ plan.further) 0 (omega arith)
target_in layout plan (suc n) h = at_in (plan.first ∷ plan.further) (suc n) (omega arith)

pub target_undone : (layout : Layout) (plan : Plan) (number : ℕ) → IsPlan layout plan → number ≤ length plan.further
    → list_any (λ m. (target_of layout plan number).slot == m) (further_done number plan.further) ≡ false
target_undone layout plan zero is h = is.distinct.0
target_undone layout plan (suc n) is h = not_before plan.further n is.distinct.1 (omega arith)

pub target_not_ahead : (layout : Layout) (plan : Plan) (number n : ℕ) → IsPlan layout plan → number ≤ length plan.further
    → list_any (λ m. n == m) (slots_ahead number plan.first plan.further) ≡ true → n ≢ (target_of layout plan number).slot
target_not_ahead layout plan zero n is h ahead = absurd (both_ways false refl ahead)
target_not_ahead layout plan (suc i) n is h ahead = elim (any_append n (drop (suc i) plan.further) (plan.first ∷ []) ahead) [
  | inl behind ↦ not_behind plan.further i n is.distinct.1 (omega arith) behind
  | inr first ↦ elim (or_cases (n == plan.first) false first) [
    | inr never ↦ absurd (both_ways false refl never)
    | inl here ↦ λ e. not_at plan.first plan.further i is.distinct.0 (omega arith) (sym e ∙ eqb-true n plan.first here)
  ]
]

-- The change of a step of filling, whatever it leaves in its slot while that is not upright: the map stays, and so does all
-- that is known but of that slot
pub record StaysKnown (layout : Layout) (plan : Plan) (number : ℕ) (old new : List ℕ) : Type 0 where
  pub entries : entry_at layout.slot_size layout.slots new ≡ entry_at layout.slot_size layout.slots old
  pub stored : stored_in layout.slot_size layout.slots new ≡ stored_in layout.slot_size layout.slots old
  pub knows : KnowsPlan layout plan new
  pub parts : PartsStand layout plan new (further_done number plan.further)
  pub ahead : (n : ℕ) → list_any (λ m. n == m) (slots_ahead number plan.first plan.further) ≡ true → ((slot_at layout.slot_size new n).tail == tail_mark) ≡ plan.marked n

pub stays_known : (layout : Layout) (plan : Plan) (number : ℕ) (step : Step) (old new : List ℕ) → IsPlan layout plan → number ≤ length plan.further
    → KnowsPlan layout plan old → StandsAtStage layout plan old (Fill number step)
    → DiffersInFreeSlot layout.slot_size layout.slots (target_of layout plan number).slot old new → StaysKnown layout plan number old new
stays_known layout plan number step old new is h knows stands differs =
    let size = layout.slot_size in
    let slots = layout.slots in
    let slot = (target_of layout plan number).slot in
    let large : 512 ≤ size = layout.least_slot in
    let free = knows.free slot (target_in layout plan number h) in
    let others = λ (n : ℕ) (apart : n ≢ slot). slot_at-other size slot n old new (omega arith) differs.same apart in
    let entries : entry_at size slots new ≡ entry_at size slots old = differs_entries size slots slot old new (omega arith) free.0 knows.only free.1 differs in
    record {
      entries = entries;
      stored = differs_stored size slots slot old new (omega arith) free.0 knows.only free.1 differs;
      knows = record {
        only = differs_only size slots slot old new (omega arith) free.0 knows.only free.1 differs;
        free = λ n one_of.
            let had = knows.free n one_of in
            (had.0, ap (λ (entry : ℕ → Option Entry). is_taken entry slots n) entries ∙ had.1);
        newest = λ k e within here. knows.newest k e within (ap (λ (entry : ℕ → Option Entry). entry k) (sym entries) ∙ here);
      };
      parts = have_parts-other (size - 64) plan.first plan.id plan.generation plan.further plan.body (slot_at size old) (slot_at size new) slot 1 (further_done number plan.further)
          others (target_undone layout plan number is h) stands.0;
      ahead = λ n one_of. ap (λ (s : Slot). s.tail == tail_mark) (others n (target_not_ahead layout plan number n is h one_of)) ∙ stands.2 n one_of;
    }

take_push : (xs : List ℕ) (n : ℕ) → n < length xs → take (suc n) xs ≡ take n xs ++ get_or xs n 0 ∷ []
take_push [] n h = absurd (omega arith)
take_push (x ∷ xs) zero h = refl
take_push (x ∷ xs) (suc n) h = ap (λ (ys : List ℕ). x ∷ ys) (take_push xs n (omega arith))

-- a further slot that is filled joins those that are
pub next_part : (layout : Layout) (plan : Plan) (n : ℕ) (image : List ℕ) → n < length plan.further → PartsStand layout plan image (take n plan.further)
    → IsFilled layout.slot_size (target_of layout plan (suc n)) image → PartsStand layout plan image (take (suc n) plan.further)
next_part layout plan n image h stand filled =
    let long : length (take n plan.further) ≡ n = length_front plan.further n (omega arith) in
    subst (λ (xs : List ℕ). PartsStand layout plan image xs) (sym (take_push plan.further n h))
    (have_parts-push (layout.slot_size - 64) plan.first plan.id plan.generation plan.further plan.body (slot_at layout.slot_size image) 1 (get_or plan.further n 0) (take n plan.further) stand
    (subst (λ (m : ℕ). HasPart (layout.slot_size - 64) plan.first plan.id plan.generation plan.further plan.body m (slot_at layout.slot_size image (get_or plan.further n 0))) (omega arith)
    (HasPart-filled layout.slot_size plan.first plan.id plan.generation (suc n) (get_or plan.further n 0) plan.further plan.body image filled)))
  where
    length_front : (xs : List ℕ) (m : ℕ) → m ≤ length xs → length (take m xs) ≡ m
    length_front xs zero l = refl
    length_front [] (suc m) l = absurd (omega arith)
    length_front (x ∷ xs) (suc m) l = ap (λ (i : ℕ). suc i) (length_front xs m (omega arith))

-- the record of a plan
abbrev pub record_for : Plan → Entry
record_for plan = record { id = plan.id; generation = plan.generation; body = plan.body; further = plan.further }

-- The gate. Behind an open gate stands the whole record
pub opened_entry : (layout : Layout) (plan : Plan) (old new : List ℕ) → IsPlan layout plan → KnowsPlan layout plan old → StandsAtStage layout plan old Gate
    → SameOutside (plan.first * layout.slot_size) 1 old new → number_at new (plan.first * layout.slot_size) 1 ≡ gate_open →
    entry_at layout.slot_size layout.slots new plan.first ≡ Some (record_for plan)
unfolding entry_at
opened_entry layout plan old new is knows stands same gate =
    let size = layout.slot_size in
    let large : 512 ≤ size = layout.least_slot in
    let first = StandsFirst-opened size plan.first plan.id plan.generation plan.further plan.body old new large stands.1 same gate in
    let wide = SameOutside-wider (plan.first * size) 1 (plan.first * size) size old new (omega arith) (omega arith) same in
    whole_record (size - 64) layout.slots plan.first plan.id plan.generation plan.further plan.body (slot_at size new) (omega arith)
    (knows.free plan.first (target_in layout plan 0 (omega arith))).0 first.head first.tail first.bytes is.names is.allowed
    (have_parts-other (size - 64) plan.first plan.id plan.generation plan.further plan.body (slot_at size old) (slot_at size new) plan.first 1 plan.further
    (λ n apart. slot_at-other size plan.first n old new (omega arith) wide apart) is.distinct.0 stands.0)

-- what the gate leaves: all as it was, or the map with the record
pub record Opens (layout : Layout) (plan : Plan) (old new : List ℕ) : Type 0 where
  pub here : entry_at layout.slot_size layout.slots new plan.first ≡ Some (record_for plan)
  pub others : (k : ℕ) → k ≢ plan.first → entry_at layout.slot_size layout.slots new k ≡ entry_at layout.slot_size layout.slots old k
  pub stored : stored_in layout.slot_size layout.slots new ≡ insert (stored_in layout.slot_size layout.slots old) plan.id (plan.body, plan.generation)

pub gate_opens : (layout : Layout) (plan : Plan) (old new : List ℕ) → IsPlan layout plan → KnowsPlan layout plan old → StandsAtStage layout plan old Gate
    → SameOutside (plan.first * layout.slot_size) 1 old new → number_at new (plan.first * layout.slot_size) 1 ≡ gate_open → Opens layout plan old new
unfolding entry_at stored_in
gate_opens layout plan old new is knows stands same gate =
    let size = layout.slot_size in
    let large : 512 ≤ size = layout.least_slot in
    let free = knows.free plan.first (target_in layout plan 0 (omega arith)) in
    let wide = SameOutside-wider (plan.first * size) 1 (plan.first * size) size old new (omega arith) (omega arith) same in
    let apart = λ (n : ℕ) (other : n ≢ plan.first). slot_at-other size plan.first n old new (omega arith) wide other in
    let here = opened_entry layout plan old new is knows stands same gate in
    record {
      here = here;
      others = λ k other. others_kept (size - 64) layout.slots (slot_at size old) (slot_at size new) plan.first knows.only free.1 apart k other;
      stored = gate_map (size - 64) layout.slots (slot_at size old) (slot_at size new) plan.first (record_for plan) knows.only free.1 free.0 apart here knows.newest;
    }

-- torn, the gate opens, or all stays as it was
pub gate_torn : (layout : Layout) (plan : Plan) (old new : List ℕ) → IsPlan layout plan → KnowsPlan layout plan old → StandsAtStage layout plan old Gate
    → SameOutside (plan.first * layout.slot_size) 1 old new
    → Opens layout plan old new ⊎ ((stored_in layout.slot_size layout.slots new ≡ stored_in layout.slot_size layout.slots old) × OnlyFirstUp layout.slot_size layout.slots new)
gate_torn layout plan old new is knows stands same = elim (cases_eq (number_at new (plan.first * layout.slot_size) 1) gate_open) [
  | inl gate ↦ inl (gate_opens layout plan old new is knows stands same gate)
  | inr closed ↦
      let size = layout.slot_size in
      let large : 512 ≤ size = layout.least_slot in
      let free = knows.free plan.first (target_in layout plan 0 (omega arith)) in
      let differs : DiffersInFreeSlot size layout.slots plan.first old new = record {
        same = SameOutside-wider (plan.first * size) 1 (plan.first * size) size old new (omega arith) (omega arith) same;
        down = down_by_gate size layout.slots plan.first new closed;
      } in
      inr (
        differs_stored size layout.slots plan.first old new (omega arith) free.0 knows.only free.1 differs,
        differs_only size layout.slots plan.first old new (omega arith) free.0 knows.only free.1 differs,
      )
]

-- with the gate open, only first slots of records are upright where the identifier is new, and else but for its old slot
pub gate_only : (layout : Layout) (plan : Plan) (old new : List ℕ) → IsPlan layout plan → KnowsPlan layout plan old → StandsAtStage layout plan old Gate
    → SameOutside (plan.first * layout.slot_size) 1 old new → number_at new (plan.first * layout.slot_size) 1 ≡ gate_open
    → ((k : ℕ) (x : Entry) → k < layout.slots → entry_at layout.slot_size layout.slots old k ≡ Some x → x.id ≡ plan.id → ⊥) → OnlyFirstUp layout.slot_size layout.slots new
unfolding entry_at
gate_only layout plan old new is knows stands same gate none =
    let size = layout.slot_size in
    let large : 512 ≤ size = layout.least_slot in
    let free = knows.free plan.first (target_in layout plan 0 (omega arith)) in
    let wide = SameOutside-wider (plan.first * size) 1 (plan.first * size) size old new (omega arith) (omega arith) same in
    gate_adds (size - 64) layout.slots (slot_at size old) (slot_at size new) plan.first (record_for plan) knows.only free.1 free.0
    (λ n other. slot_at-other size plan.first n old new (omega arith) wide other) (opened_entry layout plan old new is knows stands same gate) none

pub gate_spare : (layout : Layout) (plan : Plan) (spare : ℕ) (kept : Entry) (old new : List ℕ) → IsPlan layout plan → KnowsPlan layout plan old → StandsAtStage layout plan old Gate
    → SameOutside (plan.first * layout.slot_size) 1 old new → number_at new (plan.first * layout.slot_size) 1 ≡ gate_open
    → spare < layout.slots → entry_at layout.slot_size layout.slots old spare ≡ Some kept → kept.id ≡ plan.id → NearlyOnlyFirstUp layout.slot_size layout.slots new
unfolding entry_at
gate_spare layout plan spare kept old new is knows stands same gate within had its =
    let size = layout.slot_size in
    let large : 512 ≤ size = layout.least_slot in
    let free = knows.free plan.first (target_in layout plan 0 (omega arith)) in
    let wide = SameOutside-wider (plan.first * size) 1 (plan.first * size) size old new (omega arith) (omega arith) same in
    gate_replaces (size - 64) layout.slots (slot_at size old) (slot_at size new) plan.first spare (record_for plan) kept knows.only free.1 free.0
    (λ n other. slot_at-other size plan.first n old new (omega arith) wide other) (opened_entry layout plan old new is knows stands same gate) knows.newest within had its
