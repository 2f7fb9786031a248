-- How many changes are made before each stage of a write, and in all before the gate.
use Rattle.std.proofs.Common.{◌≡◌, ℕ, zero, suc, ◌+◌, ◌-◌, ◌*◌, ◌<◌, ◌≤◌, Bool, true, false, cond, length, get_or, refl, ap, ◌∙◌, arith}
use Rattle.std.specs.Prelude.{nat_lt}
use Rattle.std.proofs.lemmas.Bool.{ltb-false}
use Rattle.std.proofs.Math.Nat.{add-mul}
use Rattle.base_model.specs.Layout.{Layout, room_of}
use Rattle.record_model.specs.Records.{part_len, parts_of}
use Rattle.record_model.specs.RecordMap.{pieces_of, pieces_of_parts, changes_of_parts}
use Rattle.record_model.specs.Filling.{Step, EraseFromHead, EraseFromTail, PutHead, Piece, TailMark, IsStep}
use Rattle.record_model.specs.Plan.{Plan, IsPlan, Stage, Fill, Gate, target_of, first_step, stage_after, made_in_slot, made_in_further, made_at}
use Rattle.record_model.proofs.BegunLemmas.{length-bytes, length-first}

-- the further slots and the first one take the changes of all parts
made_in_all : (per_slot room size n : ℕ)
    → made_in_further per_slot room size n + (per_slot + 2 + pieces_of (part_len room size 0)) ≡ suc n * (per_slot + 2) + pieces_of_parts room size (suc n)
unfolding made_in_further pieces_of_parts
made_in_all per_slot room size zero = let one : 1 * (per_slot + 2) ≡ per_slot + 2 = omega arith in omega arith
made_in_all per_slot room size (suc n) =
    let so_far : made_in_further per_slot room size n + (per_slot + 2 + pieces_of (part_len room size 0)) ≡ suc n * (per_slot + 2) + pieces_of_parts room size
    (suc n) = made_in_all per_slot room size n in
    let spread : (suc n + 1) * (per_slot + 2) ≡ suc n * (per_slot + 2) + 1 * (per_slot + 2) = add-mul (suc n) 1 (per_slot + 2) in
    let next : suc (suc n) * (per_slot + 2) ≡ (suc n + 1) * (per_slot + 2) = ap (λ (m : ℕ). m * (per_slot + 2)) (omega arith) in
    omega arith

made_more : (per_slot room size n : ℕ) → made_in_further per_slot room size (suc n) ≡ made_in_further per_slot room size n + (per_slot + 2 + pieces_of (part_len room size (suc n)))
unfolding made_in_further
made_more per_slot room size n = refl

-- so the gate comes after exactly the changes of all parts
pub made_before_gate : (layout : Layout) (plan : Plan) → IsPlan layout plan
    → made_at layout plan Gate ≡ changes_of_parts layout (length plan.body) (parts_of (room_of layout) (length plan.body))
made_before_gate layout plan is =
    made_in_all layout.per_slot (room_of layout) (length plan.body) (length plan.further)
    ∙ ap (changes_of_parts layout (length plan.body)) (let counted = is.names.counted in omega arith)

-- a number that a choice of two has
by_choice : (f : Stage → ℕ) (b : Bool) (one other : Stage) (n : ℕ) → (b ≡ true → f one ≡ n) → (b ≡ false → f other ≡ n) → f (cond b one other) ≡ n
by_choice f true one other n first second = first refl
by_choice f false one other n first second = second refl

none_made : (per_slot len : ℕ) (marked : Bool) → made_in_slot per_slot len (first_step marked) ≡ 0
none_made per_slot len true = refl
none_made per_slot len false = refl

-- behind a sector the next one is erased, or all are
one_sector_more : (f : Stage → ℕ) (layout : Layout) (done : ℕ) (next all : Stage) (n : ℕ) → done < layout.per_slot → f next ≡ n →
    (done + 1 ≡ layout.per_slot → f all ≡ n) → f (cond (nat_lt (done + 1) layout.per_slot) next all) ≡ n
one_sector_more f layout done next all n low more last =
    by_choice f (nat_lt (done + 1) layout.per_slot) next all n (λ on. more) (λ past. last (let least : layout.per_slot ≤ done + 1 = ltb-false (done + 1) layout.per_slot past in omega arith))

-- one change more is made at the stage after one
pub made_one_more : (layout : Layout) (plan : Plan) (number : ℕ) (step : Step) → number ≤ length plan.further → IsStep layout (length (target_of layout plan number).bytes) step
    → made_at layout plan (stage_after layout plan number step) ≡ made_at layout plan (Fill number step) + 1
made_one_more layout plan zero (EraseFromHead done) h form = one_sector_more (made_at layout plan) layout done (Fill 0 (EraseFromHead (done + 1)))
    (Fill 0 PutHead) _ form (omega arith) (λ last. omega arith)
made_one_more layout plan (suc n) (EraseFromHead done) h form = one_sector_more (made_at layout plan) layout done (Fill (suc n) (EraseFromHead (done + 1)))
    (Fill (suc n) PutHead) _ form (omega arith) (λ last. omega arith)
made_one_more layout plan zero (EraseFromTail done) h form = one_sector_more (made_at layout plan) layout done (Fill 0 (EraseFromTail (done + 1)))
    (Fill 0 PutHead) _ form (omega arith) (λ last. omega arith)
made_one_more layout plan (suc n) (EraseFromTail done) h form = one_sector_more (made_at layout plan) layout done (Fill (suc n) (EraseFromTail (done + 1)))
    (Fill (suc n) PutHead) _ form (omega arith) (λ last. omega arith)
made_one_more layout plan zero PutHead h form = omega arith
made_one_more layout plan (suc n) PutHead h form = omega arith
made_one_more layout plan zero (Piece piece) h form =
    let long = length-first (layout.slot_size - 64) plan.body in
    by_choice (made_at layout plan) (nat_lt (256 * (piece + 1)) (length (target_of layout plan 0).bytes)) (Fill 0 (Piece (piece + 1))) (Fill 0 TailMark) _ (λ on. omega arith)
    (λ all. let past : length (target_of layout plan 0).bytes ≤ 256 * (piece + 1) = ltb-false (256 * (piece + 1)) _ all in
    let low : 256 * piece < length (target_of layout plan 0).bytes = form in omega arith)
made_one_more layout plan (suc n) (Piece piece) h form =
    let long = length-bytes (layout.slot_size - 64) (suc n) plan.body in
    by_choice (made_at layout plan) (nat_lt (256 * (piece + 1)) (length (target_of layout plan (suc n)).bytes)) (Fill (suc n) (Piece (piece + 1))) (Fill (suc n) TailMark) _ (λ on. omega arith)
    (λ all. let past : length (target_of layout plan (suc n)).bytes ≤ 256 * (piece + 1) = ltb-false (256 * (piece + 1)) _ all in
    let low : 256 * piece < length (target_of layout plan (suc n)).bytes = form in omega arith)
made_one_more layout plan zero TailMark h form = omega arith
made_one_more layout plan (suc n) TailMark h form =
    let room = layout.slot_size - 64 in
    let len = length plan.body in
    let one : made_in_further layout.per_slot room len (suc n) ≡ made_in_further layout.per_slot room len n +
    (layout.per_slot + 2 + pieces_of (part_len room len (suc n))) = made_more layout.per_slot room len n in
    by_choice (made_at layout plan) (nat_lt (suc n) (length plan.further)) (Fill (suc (suc n)) (first_step (plan.marked (get_or plan.further (suc n) 0))))
    (Fill 0 (first_step (plan.marked plan.first)))
    (made_at layout plan (Fill (suc n) TailMark) + 1)
    (λ more. let none = none_made layout.per_slot (part_len room len (suc (suc n))) (plan.marked (get_or plan.further (suc n) 0)) in omega arith)
    (λ all.
    let past : length plan.further ≤ suc n = ltb-false (suc n) (length plan.further) all in
    let last : made_in_further layout.per_slot room len (length plan.further) ≡ made_in_further layout.per_slot room len (suc n) = ap (made_in_further layout.per_slot room len) (equal h past) in
    let none = none_made layout.per_slot (part_len room len 0) (plan.marked plan.first) in
    omega arith)
  where
    equal : suc n ≤ length plan.further → length plan.further ≤ suc n → length plan.further ≡ suc n
    equal low high = omega arith
