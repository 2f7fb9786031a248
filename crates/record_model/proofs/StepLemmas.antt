-- Each step of a write over several slots: what power lost in its change leaves, and the stage that the whole change leads to.
use Rattle.std.proofs.Common.{◌≡◌, ◌≢◌, ℕ, zero, suc, ◌+◌, ◌-◌, ◌*◌, ◌^◌, ◌<◌, ◌≤◌, Bool, true, false, cond, List, [], ◌∷◌, ◌++◌, length, take, drop, get_or}
use Rattle.std.proofs.Common.{refl, sym, ap, subst, ◌∙◌, arith, inl, inr}
use Rattle.std.specs.Prelude.{◌==◌, ◌||◌, nat_lt, min}
use Rattle.std.specs.List.{list_any}
use Rattle.std.proofs.lemmas.Bool.{ltb-true, ltb-false, eqb-true, eqb-false, eq-eqb, or_cases, false_from_ne_true, both_ways}
use Rattle.std.proofs.lemmas.Option.{none-some}
use Rattle.std.proofs.Math.Nat.{add-mul, mul-le-mul_right}
use Rattle.base_model.specs.Bytes.{SameOutside, part, spelled}
use Rattle.base_model.proofs.BytesLemmas.{SameOutside-wider}
use Rattle.base_model.specs.Flash.{IsErased}
use Rattle.base_model.specs.Layout.{Layout, reach_of}
use Rattle.record_model.specs.Records.{slot_at, head_fields, head_bytes, tail_at, is_up, entry_of, entry_at, is_taken, OnlyFirstUp, part_len, named, AreBelow}
use Rattle.record_model.specs.Records.{gate_further, gate_open, tail_mark, not_killed}
use Rattle.record_model.specs.Filling.{Target, first_target, IsCleanFromHead, IsCleanFromTail, IsBegun, IsFilled, Step, EraseFromHead, EraseFromTail, PutHead}
use Rattle.record_model.specs.Filling.{Piece, TailMark, StandsAt, IsStep, place_of, len_of, IsWritten}
use Rattle.record_model.specs.Plan.{Plan, IsPlan, Stage, Fill, target_of, slots_ahead, PartsStand, KnowsPlan, StandsAtStage, first_step, after_part, stage_after}
use Rattle.record_model.proofs.LiveLemmas.{only_live, entry_live, free_none}
use Rattle.record_model.proofs.FillLemmas.{reach, StaysDown-from_head, StaysDown-from_tail, IsCleanFromHead-more, IsCleanFromTail-more}
use Rattle.record_model.proofs.BegunLemmas.{IsBegun-first, IsBegun-further, IsBegun-more, IsFilled-tail, StaysDown-erased, StaysDown-begun, StaysDown-mark, length-bytes, length-first, part_len-le}
use Rattle.record_model.proofs.PlanLemmas.{any_append, target_in, StaysKnown, stays_known, next_part}
use Rattle.record_model.proofs.MarkLemmas.{open_is_not_further, open_is_not_erased}
use Rattle.record_model.proofs.Words.{StaysDown}

-- a free slot is not upright
pub free_down : (size slots j : ℕ) (image : List ℕ) → OnlyFirstUp size slots image → j < slots → is_taken (entry_at size slots image) slots j ≡ false →
    is_up (size - 64) slots (slot_at size image j) ≡ false
unfolding entry_at
free_down size slots j image only within free = false_from_ne_true (is_up (size - 64) slots (slot_at size image j)) (λ up.
    none-some _ (sym (free_none (entry_of (size - 64) slots (slot_at size image)) slots j within free)
    ∙ entry_live (size - 64) slots (slot_at size image) j (only_live (size - 64) slots (slot_at size image) j only within up)))

-- the gate of a target is closed, and its bytes fit its slot
target_closed : (layout : Layout) (plan : Plan) (number : ℕ) → (target_of layout plan number).head.gate ≢ gate_open
target_closed layout plan zero is = open_is_not_erased is refl
target_closed layout plan (suc n) is = open_is_not_further is refl

bytes_fit : (layout : Layout) (plan : Plan) (number : ℕ) → length (target_of layout plan number).bytes ≤ layout.slot_size - 64
bytes_fit layout plan zero =
    let long = length-first (layout.slot_size - 64) plan.body in
    let most = part_len-le (layout.slot_size - 64) (length plan.body) 0 in
    omega arith
bytes_fit layout plan (suc n) =
    let long = length-bytes (layout.slot_size - 64) (suc n) plan.body in
    let most = part_len-le (layout.slot_size - 64) (length plan.body) (suc n) in
    omega arith

-- the slot stays down in the change of each step, whatever is torn
pub step_down : (layout : Layout) (plan : Plan) (number : ℕ) (step : Step) (image : List ℕ) → IsStep layout (length (target_of layout plan number).bytes) step
    → is_up (layout.slot_size - 64) layout.slots (slot_at layout.slot_size image (target_of layout plan number).slot) ≡ false → StandsAt layout (target_of layout plan number) image step
    → StaysDown (place_of layout number (target_of layout plan number) step) (len_of layout (target_of layout plan number) step) layout.slot_size layout.slots (target_of layout plan number).slot image
step_down layout plan number (EraseFromHead done) image form down stands = StaysDown-from_head layout (target_of layout plan number).slot done image form stands
step_down layout plan number (EraseFromTail done) image form down stands = StaysDown-from_tail layout (target_of layout plan number).slot done image form down stands
step_down layout plan zero PutHead image form down stands =
    let large : 512 ≤ layout.slot_size = layout.least_slot in
    StaysDown-erased layout.slot_size layout.slots plan.first (plan.first * layout.slot_size + 2) 24 image large stands (omega arith)
step_down layout plan (suc n) PutHead image form down stands =
    let large : 512 ≤ layout.slot_size = layout.least_slot in
    StaysDown-erased layout.slot_size layout.slots (get_or plan.further n 0) (get_or plan.further n 0 * layout.slot_size) 24 image large stands (omega arith)
step_down layout plan number (Piece piece) image form down stands =
    let large : 512 ≤ layout.slot_size = layout.least_slot in
    let target = target_of layout plan number in
    let fits : length target.bytes ≤ layout.slot_size - 64 = bytes_fit layout plan number in
    let low : 256 * piece < length target.bytes = form in
    StaysDown-begun layout.slot_size layout.slots target (256 * piece) (target.slot * layout.slot_size + 32 + 256 * piece)
    (min 256 (length target.bytes - 256 * piece)) image large (omega arith) stands (omega arith)
step_down layout plan number TailMark image form down stands =
    let large : 512 ≤ layout.slot_size = layout.least_slot in
    let target = target_of layout plan number in
    StaysDown-mark layout.slot_size layout.slots target (length target.bytes) (target.slot * layout.slot_size + (layout.slot_size - 1)) 1 image (target_closed layout plan number) stands (omega arith)

-- the range of a step lies in its slot
pub record LiesIn (at len place size : ℕ) : Type 0 where
  pub low : place ≤ at
  pub high : at + len ≤ place + size

sector_in : (layout : Layout) (done : ℕ) → done < layout.per_slot → done * layout.sector + layout.sector ≤ layout.slot_size
sector_in layout done h =
    let next : (done + 1) * layout.sector ≡ done * layout.sector + 1 * layout.sector = add-mul done 1 layout.sector in
    let below : (done + 1) * layout.sector ≤ layout.per_slot * layout.sector = mul-le-mul_right layout.sector (omega arith) in
    let r = reach layout.per_slot layout.slot_size layout.sector 0 (omega arith) layout.product in
    let whole : (layout.per_slot - 0) * layout.sector + 0 * layout.sector ≡ layout.slot_size = r.whole in
    let same : (layout.per_slot - 0) * layout.sector ≡ layout.per_slot * layout.sector = ap (λ (k : ℕ). k * layout.sector) (omega arith) in
    omega arith

range_in : (layout : Layout) (plan : Plan) (number : ℕ) (step : Step) → IsStep layout (length (target_of layout plan number).bytes) step
    → LiesIn (place_of layout number (target_of layout plan number) step) (len_of layout (target_of layout plan number) step) ((target_of layout plan number).slot * layout.slot_size) layout.slot_size
range_in layout plan number (EraseFromHead done) form = let fits = sector_in layout done form in record { low = omega arith; high = omega arith }
range_in layout plan number (EraseFromTail done) form =
    let h : done < layout.per_slot = form in
    let fits = sector_in layout (layout.per_slot - 1 - done) (omega arith) in
    record { low = omega arith; high = omega arith }
range_in layout plan zero PutHead form = let large : 512 ≤ layout.slot_size = layout.least_slot in record { low = omega arith; high = omega arith }
range_in layout plan (suc n) PutHead form = let large : 512 ≤ layout.slot_size = layout.least_slot in record { low = omega arith; high = omega arith }
range_in layout plan number (Piece piece) form =
    let large : 512 ≤ layout.slot_size = layout.least_slot in
    let fits : length (target_of layout plan number).bytes ≤ layout.slot_size - 64 = bytes_fit layout plan number in
    let low : 256 * piece < length (target_of layout plan number).bytes = form in
    record { low = omega arith; high = omega arith }
range_in layout plan number TailMark form = let large : 512 ≤ layout.slot_size = layout.least_slot in record { low = omega arith; high = omega arith }

-- Whatever power lost in the change of a step leaves, the map stays, and so does all that is known but of the slot
pub step_torn : (layout : Layout) (plan : Plan) (number : ℕ) (step : Step) (old image : List ℕ) → IsPlan layout plan → number ≤ length plan.further
    → IsStep layout (length (target_of layout plan number).bytes) step → KnowsPlan layout plan old → StandsAtStage layout plan old (Fill number step)
    → SameOutside (place_of layout number (target_of layout plan number) step) (len_of layout (target_of layout plan number) step) old image
    → StaysKnown layout plan number old image
step_torn layout plan number step old image is h form knows stands same =
    let slot = (target_of layout plan number).slot in
    let at = place_of layout number (target_of layout plan number) step in
    let len = len_of layout (target_of layout plan number) step in
    let inside = range_in layout plan number step form in
    let free = knows.free slot (target_in layout plan number h) in
    stays_known layout plan number step old image is h knows stands (record {
      same = SameOutside-wider at len (slot * layout.slot_size) layout.slot_size old image inside.low inside.high same;
      down = step_down layout plan number step old form (free_down layout.slot_size layout.slots slot old knows.only free.0 free.1) stands.1 image same;
    })

-- the head of a first slot, by how many further slots it names
first_begun : (layout : Layout) (plan : Plan) (further : List ℕ) (old new : List ℕ) → length further ≤ 3 → AreBelow layout.slots further → plan.id < 2 ^ 64 →
    plan.generation < 2 ^ 32 → length plan.body < 2 ^ 32
    → IsErased old (plan.first * layout.slot_size) layout.slot_size → SameOutside (plan.first * layout.slot_size + 2) 24 old new
    → part new (plan.first * layout.slot_size + 2) 24 ≡ head_fields (first_target (layout.slot_size - 64) plan.first plan.id plan.generation further plan.body).head
    → IsBegun layout.slot_size (first_target (layout.slot_size - 64) plan.first plan.id plan.generation further plan.body) 0 new
unfolding head_fields named spelled
first_begun layout plan [] old new few below id generation len blank same fields =
    let target = first_target (layout.slot_size - 64) plan.first plan.id plan.generation [] plan.body in
    IsBegun-first layout.slot_size target 2 plan.generation plan.id (length plan.body) 0xFFFF 0xFFFF 0xFFFF old new layout.least_slot refl
    (record { format_fits = omega arith; generation_fits = generation; id_fits = id; len_fits = len; a_fits = omega arith; b_fits = omega arith; c_fits = omega arith }) blank same fields
first_begun layout plan (a ∷ []) old new few below id generation len blank same fields =
    let target = first_target (layout.slot_size - 64) plan.first plan.id plan.generation (a ∷ []) plan.body in
    let one : a < layout.slots = below.0 in
    let many : layout.slots ≤ 1024 = layout.many_slots in
    IsBegun-first layout.slot_size target 2 plan.generation plan.id (length plan.body) a 0xFFFF 0xFFFF old new layout.least_slot refl
    (record { format_fits = omega arith; generation_fits = generation; id_fits = id; len_fits = len; a_fits = omega arith; b_fits = omega arith; c_fits = omega arith }) blank same fields
first_begun layout plan (a ∷ b ∷ []) old new few below id generation len blank same fields =
    let target = first_target (layout.slot_size - 64) plan.first plan.id plan.generation (a ∷ b ∷ []) plan.body in
    let one : a < layout.slots = below.0 in
    let two : b < layout.slots = below.1.0 in
    let many : layout.slots ≤ 1024 = layout.many_slots in
    IsBegun-first layout.slot_size target 2 plan.generation plan.id (length plan.body) a b 0xFFFF old new layout.least_slot refl
    (record { format_fits = omega arith; generation_fits = generation; id_fits = id; len_fits = len; a_fits = omega arith; b_fits = omega arith; c_fits = omega arith }) blank same fields
first_begun layout plan (a ∷ b ∷ c ∷ []) old new few below id generation len blank same fields =
    let target = first_target (layout.slot_size - 64) plan.first plan.id plan.generation (a ∷ b ∷ c ∷ []) plan.body in
    let one : a < layout.slots = below.0 in
    let two : b < layout.slots = below.1.0 in
    let three : c < layout.slots = below.1.1.0 in
    let many : layout.slots ≤ 1024 = layout.many_slots in
    IsBegun-first layout.slot_size target 2 plan.generation plan.id (length plan.body) a b c old new layout.least_slot refl
    (record { format_fits = omega arith; generation_fits = generation; id_fits = id; len_fits = len; a_fits = omega arith; b_fits = omega arith; c_fits = omega arith }) blank same fields
first_begun layout plan (a ∷ b ∷ c ∷ d ∷ rest) old new few below id generation len blank same fields = absurd (omega arith)

-- a choice of two stages
by_choice : (layout : Layout) (plan : Plan) (image : List ℕ) (b : Bool) (one other : Stage) → (b ≡ true → StandsAtStage layout plan image one) → (b ≡ false → StandsAtStage layout plan image other)
    → StandsAtStage layout plan image (cond b one other)
by_choice layout plan image true one other first second = first refl
by_choice layout plan image false one other first second = second refl

-- a slot all of whose sectors are erased
all_from_head : (layout : Layout) (slot done : ℕ) (image : List ℕ) → done ≡ layout.per_slot → IsCleanFromHead layout.slot_size layout.sector slot done image →
    IsErased image (slot * layout.slot_size) layout.slot_size
all_from_head layout slot done image all clean =
    let r = reach layout.per_slot layout.slot_size layout.sector done (omega arith) layout.product in
    let whole : (layout.per_slot - done) * layout.sector + done * layout.sector ≡ layout.slot_size = r.whole in
    let none : (layout.per_slot - done) * layout.sector ≡ 0 * layout.sector = ap (λ (k : ℕ). k * layout.sector) (omega arith) in
    let size : done * layout.sector ≡ layout.slot_size = omega arith in
    subst (λ (n : ℕ). IsErased image (slot * layout.slot_size) n) size clean.erased

all_from_tail : (layout : Layout) (slot done : ℕ) (image : List ℕ) → done ≡ layout.per_slot → IsCleanFromTail layout.slot_size layout.sector layout.per_slot
    slot done image → IsErased image (slot * layout.slot_size) layout.slot_size
all_from_tail layout slot done image all clean =
    let r = reach layout.per_slot layout.slot_size layout.sector done (omega arith) layout.product in
    let whole : (layout.per_slot - done) * layout.sector + done * layout.sector ≡ layout.slot_size = r.whole in
    let none : (layout.per_slot - done) * layout.sector ≡ 0 * layout.sector = ap (λ (k : ℕ). k * layout.sector) (omega arith) in
    let size : done * layout.sector ≡ layout.slot_size = omega arith in
    let at : slot * layout.slot_size + (layout.per_slot - done) * layout.sector ≡ slot * layout.slot_size = omega arith in
    subst (λ (n : ℕ). IsErased image (slot * layout.slot_size) n) size (subst (λ (k : ℕ). IsErased image k (done * layout.sector)) at clean.erased)

-- what stands before the first change of a slot
first_stands : (layout : Layout) (target : Target) (image : List ℕ) (marked : Bool) → ((slot_at layout.slot_size image target.slot).tail == tail_mark) ≡ marked
    → StandsAt layout target image (first_step marked)
unfolding part slot_at
first_stands layout target image true is = record {
  marked = λ none. eqb-true (tail_at image (target.slot * layout.slot_size) layout.slot_size) tail_mark is;
  erased = subst (λ (n : ℕ). IsErased image (target.slot * layout.slot_size + (layout.per_slot - 0) * layout.sector) n) (zero_of layout.sector) refl;
}
  where
    zero_of : (n : ℕ) → 0 ≡ 0 * n
    zero_of n = omega arith
first_stands layout target image false is = record {
  unmarked = λ none. eqb-false (tail_at image (target.slot * layout.slot_size) layout.slot_size) tail_mark is;
  erased = subst (λ (n : ℕ). IsErased image (target.slot * layout.slot_size) n) (zero_of layout.sector) refl;
}
  where
    zero_of : (n : ℕ) → 0 ≡ 0 * n
    zero_of n = omega arith

-- where a number is among others
or_right : (a b : Bool) → b ≡ true → (a || b) ≡ true
or_right true b is = refl
or_right false b is = is

any_right : (k : ℕ) (xs ys : List ℕ) → list_any (λ m. k == m) ys ≡ true → list_any (λ m. k == m) (xs ++ ys) ≡ true
any_right k [] ys is = is
any_right k (x ∷ xs) ys is = or_right (k == x) (list_any (λ m. k == m) (xs ++ ys)) (any_right k xs ys is)

any_left : (k : ℕ) (xs ys : List ℕ) → list_any (λ m. k == m) xs ≡ true → list_any (λ m. k == m) (xs ++ ys) ≡ true
any_left k [] ys is = absurd (both_ways false refl is)
any_left k (x ∷ xs) ys is = elim (or_cases (k == x) (list_any (λ m. k == m) xs) is) [
  | inl here ↦ ap (λ (b : Bool). b || list_any (λ m. k == m) (xs ++ ys)) here
  | inr later ↦ or_right (k == x) (list_any (λ m. k == m) (xs ++ ys)) (any_left k xs ys later)
]

any_drop : (k n : ℕ) (xs : List ℕ) → list_any (λ m. k == m) (drop (suc n) xs) ≡ true → list_any (λ m. k == m) (drop n xs) ≡ true
any_drop k zero [] is = is
any_drop k zero (x ∷ xs) is = or_right (k == x) (list_any (λ m. k == m) xs) is
any_drop k (suc n) [] is = is
any_drop k (suc n) (x ∷ xs) is = any_drop k n xs is

at_drop : (n : ℕ) (xs : List ℕ) → n < length xs → list_any (λ m. get_or xs n 0 == m) (drop n xs) ≡ true
at_drop n [] h = absurd (omega arith)
at_drop zero (x ∷ xs) h = ap (λ (b : Bool). b || list_any (λ m. x == m) xs) (eq-eqb x x refl)
at_drop (suc n) (x ∷ xs) h = at_drop n xs (omega arith)

is_one : (k : ℕ) → list_any (λ m. k == m) (k ∷ []) ≡ true
is_one k = ap (λ (b : Bool). b || false) (eq-eqb k k refl)

-- what is ahead of a part is ahead of the one before it
ahead_next : (n k : ℕ) (xs : List ℕ) (first : ℕ) → list_any (λ m. k == m) (slots_ahead (suc (suc n)) first xs) ≡ true → list_any (λ m. k == m) (slots_ahead (suc n) first xs) ≡ true
ahead_next n k xs first is = elim (any_append k (drop (suc (suc n)) xs) (first ∷ []) is) [
  | inl behind ↦ any_left k (drop (suc n) xs) (first ∷ []) (any_drop k (suc n) xs behind)
  | inr last ↦ any_right k (drop (suc n) xs) (first ∷ []) last
]

reach_small : (room : ℕ) → reach_of room ≤ 65536
unfolding reach_of
reach_small room = omega arith

-- the head of a further slot
further_begun : (layout : Layout) (plan : Plan) (n : ℕ) (old new : List ℕ) → suc n ≤ 3 → plan.first < layout.slots → plan.id < 2 ^ 64 → plan.generation < 2 ^ 32
    → IsErased old (get_or plan.further n 0 * layout.slot_size) layout.slot_size → SameOutside (get_or plan.further n 0 * layout.slot_size) 24 old new
    → part new (get_or plan.further n 0 * layout.slot_size) 24 ≡ take 24 (head_bytes (target_of layout plan (suc n)).head)
    → IsBegun layout.slot_size (target_of layout plan (suc n)) 0 new
unfolding head_bytes head_fields spelled
further_begun layout plan n old new few within id generation blank same fields =
    let most : part_len (layout.slot_size - 64) (length plan.body) (suc n) ≤ layout.slot_size - 64 = part_len-le (layout.slot_size - 64) (length plan.body) (suc n) in
    let great : layout.slot_size ≤ 65600 = layout.greatest_slot in
    let many : layout.slots ≤ 1024 = layout.many_slots in
    IsBegun-further layout.slot_size (target_of layout plan (suc n)) gate_further not_killed 3 plan.generation plan.id
    (part_len (layout.slot_size - 64) (length plan.body) (suc n)) (suc n) plan.first old new layout.least_slot refl
    (record { format_fits = omega arith; generation_fits = generation; id_fits = id; len_fits = omega arith; a_fits = omega arith; b_fits = omega arith; c_fits = omega arith }) blank same fields

take_whole : (n : ℕ) (xs : List ℕ) → length xs ≤ n → take n xs ≡ xs
take_whole zero [] h = refl
take_whole (suc n) [] h = refl
take_whole zero (x ∷ xs) h = absurd (omega arith)
take_whole (suc n) (x ∷ xs) h = ap (λ (ys : List ℕ). x ∷ ys) (take_whole n xs (omega arith))

-- a slot is filled: the next one, or the gate
part_made : (layout : Layout) (plan : Plan) (number : ℕ) (old new : List ℕ) → IsPlan layout plan → number ≤ length plan.further → StaysKnown layout plan number old new
    → IsFilled layout.slot_size (target_of layout plan number) new → StandsAtStage layout plan new (after_part plan number)
part_made layout plan zero old new is h known filled = (known.parts, filled)
part_made layout plan (suc n) old new is h known filled =
    let stand = next_part layout plan n new (omega arith) known.parts filled in
    by_choice layout plan new (nat_lt (suc n) (length plan.further)) (Fill (suc (suc n)) (first_step (plan.marked (get_or plan.further (suc n) 0)))) (Fill 0 (first_step (plan.marked plan.first)))
    (λ more.
    let within : suc n < length plan.further = ltb-true (suc n) (length plan.further) more in
    let mark = known.ahead (get_or plan.further (suc n) 0) (any_left (get_or plan.further (suc n) 0) (drop (suc n) plan.further) (plan.first ∷ []) (at_drop (suc n) plan.further within)) in (
      stand,
      first_stands layout (target_of layout plan (suc (suc n))) new (plan.marked (get_or plan.further (suc n) 0)) mark,
      λ k one_of. known.ahead k (ahead_next n k plan.further plan.first one_of),
    ))
    (λ all.
    let past : length plan.further ≤ suc n = ltb-false (suc n) (length plan.further) all in
    let mark = known.ahead plan.first (any_right plan.first (drop (suc n) plan.further) (plan.first ∷ []) (is_one plan.first)) in (
      subst (λ (xs : List ℕ). PartsStand layout plan new xs) (take_whole (suc n) plan.further past) stand,
      first_stands layout (target_of layout plan 0) new (plan.marked plan.first) mark,
      λ k never. absurd (both_ways false refl never),
    ))

-- once a sector is erased, the next one is, or all are
sector_made : (layout : Layout) (plan : Plan) (number done : ℕ) (next : Step) (new : List ℕ) → done < layout.per_slot → StandsAtStage layout plan new (Fill number next)
    → (done + 1 ≡ layout.per_slot → StandsAtStage layout plan new (Fill number PutHead))
    → StandsAtStage layout plan new (cond (nat_lt (done + 1) layout.per_slot) (Fill number next) (Fill number PutHead))
sector_made layout plan number done next new low more all =
    by_choice layout plan new (nat_lt (done + 1) layout.per_slot) (Fill number next) (Fill number PutHead) (λ on. more)
    (λ past. all (let least : layout.per_slot ≤ done + 1 = ltb-false (done + 1) layout.per_slot past in omega arith))

-- Once the change of a step is made, the next stage stands
pub step_made : (layout : Layout) (plan : Plan) (number : ℕ) (step : Step) (old new : List ℕ) → IsPlan layout plan → number ≤ length plan.further
    → IsStep layout (length (target_of layout plan number).bytes) step → KnowsPlan layout plan old → StandsAtStage layout plan old (Fill number step)
    → SameOutside (place_of layout number (target_of layout plan number) step) (len_of layout (target_of layout plan number) step) old new
    → IsWritten layout number (target_of layout plan number) step new → StandsAtStage layout plan new (stage_after layout plan number step)
step_made layout plan number (EraseFromHead done) old new is h form knows stands same written =
    let known = step_torn layout plan number (EraseFromHead done) old new is h form knows stands same in
    let more = IsCleanFromHead-more layout (target_of layout plan number).slot done old new form stands.1 same written in
    sector_made layout plan number done (EraseFromHead (done + 1)) new form (known.parts, more, known.ahead)
    (λ last. (known.parts, all_from_head layout (target_of layout plan number).slot (done + 1) new last more, known.ahead))
step_made layout plan number (EraseFromTail done) old new is h form knows stands same written =
    let known = step_torn layout plan number (EraseFromTail done) old new is h form knows stands same in
    let more = IsCleanFromTail-more layout (target_of layout plan number).slot done old new form stands.1 same written in
    sector_made layout plan number done (EraseFromTail (done + 1)) new form (known.parts, more, known.ahead)
    (λ last. (known.parts, all_from_tail layout (target_of layout plan number).slot (done + 1) new last more, known.ahead))
step_made layout plan zero PutHead old new is h form knows stands same written =
    let known = step_torn layout plan zero PutHead old new is h form knows stands same in (
      known.parts,
      first_begun layout plan plan.further old new is.names.few is.names.below is.id is.generation (let most = is.names.most in let small =
          reach_small (layout.slot_size - 64) in omega arith) stands.1 same written,
      known.ahead,
    )
step_made layout plan (suc n) PutHead old new is h form knows stands same written =
    let known = step_torn layout plan (suc n) PutHead old new is h form knows stands same in
    let few : length plan.further ≤ 3 = is.names.few in
    let within = (knows.free plan.first (target_in layout plan 0 (omega arith))).0 in
    (known.parts, further_begun layout plan n old new (omega arith) within is.id is.generation stands.1 same written, known.ahead)
step_made layout plan number (Piece piece) old new is h form knows stands same written =
    let known = step_torn layout plan number (Piece piece) old new is h form knows stands same in
    let target = target_of layout plan number in
    let fits : length target.bytes ≤ layout.slot_size - 64 = bytes_fit layout plan number in
    let low : 256 * piece < length target.bytes = form in
    let more = IsBegun-more layout.slot_size target (256 * piece) (min 256 (length target.bytes - 256 * piece)) old new layout.least_slot (omega arith) stands.1 same written in
    by_choice layout plan new (nat_lt (256 * (piece + 1)) (length target.bytes)) (Fill number (Piece (piece + 1))) (Fill number TailMark)
    (λ on.
    let next : 256 * (piece + 1) < length target.bytes = ltb-true (256 * (piece + 1)) (length target.bytes) on in
    let count : 256 * piece + min 256 (length target.bytes - 256 * piece) ≡ 256 * (piece + 1) = omega arith in
    (known.parts, subst (λ (n : ℕ). IsBegun layout.slot_size target n new) count more, known.ahead))
    (λ all.
    let past : length target.bytes ≤ 256 * (piece + 1) = ltb-false (256 * (piece + 1)) (length target.bytes) all in
    let count : 256 * piece + min 256 (length target.bytes - 256 * piece) ≡ length target.bytes = omega arith in
    (known.parts, subst (λ (n : ℕ). IsBegun layout.slot_size target n new) count more, known.ahead))
step_made layout plan number TailMark old new is h form knows stands same written =
    let known = step_torn layout plan number TailMark old new is h form knows stands same in
    part_made layout plan number old new is h known
    (IsFilled-tail layout.slot_size (target_of layout plan number) old new layout.least_slot (bytes_fit layout plan number) stands.1 same written)

-- the first stage of a write
abbrev pub first_stage : Plan → Stage
first_stage plan = cond (nat_lt 0 (length plan.further)) (Fill 1 (first_step (plan.marked (get_or plan.further 0 0)))) (Fill 0 (first_step (plan.marked plan.first)))

-- it stands where the tail marks of the slots were read
pub first_stage_stands : (layout : Layout) (plan : Plan) (image : List ℕ)
    → ((n : ℕ) → list_any (λ m. n == m) (plan.first ∷ plan.further) ≡ true → ((slot_at layout.slot_size image n).tail == tail_mark) ≡ plan.marked n) →
    StandsAtStage layout plan image (first_stage plan)
first_stage_stands layout plan image read =
    by_choice layout plan image (nat_lt 0 (length plan.further)) (Fill 1 (first_step (plan.marked (get_or plan.further 0 0)))) (Fill 0 (first_step (plan.marked plan.first)))
    (λ more.
    let some : 0 < length plan.further = ltb-true 0 (length plan.further) more in
    let first = read (get_or plan.further 0 0) (target_in layout plan 1 (omega arith)) in
    (tt, first_stands layout (target_of layout plan 1) image (plan.marked (get_or plan.further 0 0)) first, λ n ahead. read n (one_of n ahead)))
    (λ none.
    let few : length plan.further ≤ 0 = ltb-false 0 (length plan.further) none in
    let first = read plan.first (target_in layout plan 0 (omega arith)) in (
      subst (λ (xs : List ℕ). PartsStand layout plan image xs) (take_whole 0 plan.further few) tt,
      first_stands layout (target_of layout plan 0) image (plan.marked plan.first) first,
      λ n never. absurd (both_ways false refl never),
    ))
  where
    one_of : (n : ℕ) → list_any (λ m. n == m) (slots_ahead 1 plan.first plan.further) ≡ true → list_any (λ m. n == m) (plan.first ∷ plan.further) ≡ true
    one_of n ahead = elim (any_append n (drop 1 plan.further) (plan.first ∷ []) ahead) [
      | inl behind ↦ or_right (n == plan.first) (list_any (λ m. n == m) plan.further) (any_drop n 0 plan.further behind)
      | inr last ↦ elim (or_cases (n == plan.first) false last) [
        | inl here ↦ ap (λ (b : Bool). b || list_any (λ m. n == m) plan.further) here
        | inr never ↦ absurd (both_ways false refl never)
      ]
    ]
