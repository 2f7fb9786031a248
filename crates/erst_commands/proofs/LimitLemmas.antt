-- The changes of a write, and the timings, of a layout.
use Rattle.std.proofs.Common.{◌≡◌, ℕ, zero, suc, ◌+◌, ◌-◌, ◌*◌, ◌/◌, ◌%◌, ◌^◌, ◌<◌, ◌≤◌, ap, ◌∙◌, arith}
use Rattle.std.proofs.Math.Nat.{mul_comm, mul-le-mul_left}
use Rattle.std.proofs.lemmas.Nat.{le-div, div-add-mod'}
use Rattle.base_model.specs.Layout.{Layout, room_of, reach_of}
use Rattle.record_model.specs.Records.{parts_of, part_len}
use Rattle.record_model.specs.RecordMap.{pieces_of, pieces_of_parts, changes_of_parts}
use Rattle.record_model.proofs.PartsLemmas.{parts_of-few}
use Rattle.erst_device.specs.Timings.{most_changes, timings_of}

-- a slot has 256 sectors at most
pub few_sectors : (layout : Layout) → layout.per_slot ≤ 256
few_sectors layout =
    let least = mul-le-mul_left layout.per_slot layout.least_sector in
    let swapped = mul_comm layout.per_slot layout.sector in
    let product = layout.product in
    let most = layout.greatest_slot in
    omega (arith, least, swapped)

pub reach-few : (layout : Layout) → reach_of (room_of layout) ≤ 65536
unfolding reach_of
reach-few layout = omega arith

pub reach-least : (layout : Layout) → 128 ≤ reach_of (room_of layout)
unfolding reach_of
reach-least layout = let least = layout.least_slot in omega arith

reach-four : (layout : Layout) → reach_of (room_of layout) ≤ 4 * room_of layout
unfolding reach_of
reach-four layout = omega arith

-- the pieces of parts
one_part : (room size n : ℕ) → room ≤ 65536 → pieces_of (part_len room size n) ≤ 256
unfolding part_len
one_part room size n few = omega arith

pieces-few : (room size n : ℕ) → room ≤ 65536 → pieces_of_parts room size n ≤ 256 * n
unfolding pieces_of_parts
pieces-few room size zero few = omega arith
pieces-few room size (suc n) few = let before = pieces-few room size n few in let here = one_part room size n few in omega (arith, before, here)

one_longer : (room size more n : ℕ) → size ≤ more → pieces_of (part_len room size n) ≤ pieces_of (part_len room more n)
unfolding part_len
one_longer room size more n longer = omega arith

pieces-longer : (room size more n : ℕ) → size ≤ more → pieces_of_parts room size n ≤ pieces_of_parts room more n
unfolding pieces_of_parts
pieces-longer room size more zero longer = omega arith
pieces-longer room size more (suc n) longer = let before = pieces-longer room size more n longer in let here = one_longer room size more n longer in omega (arith, before, here)

grows : (room size n : ℕ) → pieces_of_parts room size n ≤ pieces_of_parts room size (suc n)
unfolding pieces_of_parts
grows room size n = omega arith

pieces-further : (room size n k : ℕ) → pieces_of_parts room size n ≤ pieces_of_parts room size (k + n)
pieces-further room size n zero = let same : pieces_of_parts room size (0 + n) ≡ pieces_of_parts room size n = ap (pieces_of_parts room size) (omega arith) in omega (arith, same)
pieces-further room size n (suc k) =
    let before = pieces-further room size n k in
    let next : pieces_of_parts room size (suc k + n) ≡ pieces_of_parts room size (suc (k + n)) = ap (pieces_of_parts room size) (omega arith) in
    let grown = grows room size (k + n) in
    omega (arith, before, next, grown)

-- a longer record has no fewer parts
parts-longer : (room size more : ℕ) → 1 ≤ room → size ≤ more → parts_of room size ≤ parts_of room more
unfolding parts_of
parts-longer room size more some longer =
    let whole : (size + (room - 1)) / room * room + (size + (room - 1)) % room ≡ size + (room - 1) = div-add-mod' (size + (room - 1)) room in
    le-div ((size + (room - 1)) / room) (more + (room - 1)) room some (omega (arith, whole))

-- no write makes more changes than the timings say
pub changes-most : (layout : Layout) (size : ℕ) → size ≤ reach_of (room_of layout) → changes_of_parts layout size (parts_of (room_of layout) size) + 2 ≤ most_changes layout
changes-most layout size fits =
    let room = room_of layout in
    let reach = reach_of (room_of layout) in
    let least = layout.least_slot in
    let parts = parts-longer (room_of layout) size (reach_of (room_of layout)) (omega arith) fits in
    by_parts (parts_of (room_of layout) size) (parts_of (room_of layout) (reach_of (room_of layout))) parts
  where
    by_parts : (n m : ℕ) → n ≤ m → changes_of_parts layout size n + 2 ≤ changes_of_parts layout (reach_of (room_of layout)) m + 2
    by_parts n m fewer =
        let longer = pieces-longer (room_of layout) size (reach_of (room_of layout)) n fits in
        let further = pieces-further (room_of layout) (reach_of (room_of layout)) n (m - n) in
        let whole : pieces_of_parts (room_of layout) (reach_of (room_of layout)) (m - n + n) ≡ pieces_of_parts (room_of layout) (reach_of (room_of layout)) m =
        ap (pieces_of_parts (room_of layout) (reach_of (room_of layout))) (omega arith) in
        let slots = mul-le-mul_left (layout.per_slot + 2) fewer in
        let one = mul_comm (layout.per_slot + 2) n in
        let other = mul_comm (layout.per_slot + 2) m in
        omega (arith, longer, further, whole, slots, one, other)

pub most-small : (layout : Layout) → most_changes layout ≤ 2058
most-small layout =
    let least = layout.least_slot in
    let most = layout.greatest_slot in
    let four = reach-four layout in
    let few = parts_of-few (room_of layout) (reach_of (room_of layout)) (omega arith) four in
    by_parts (parts_of (room_of layout) (reach_of (room_of layout))) few
  where
    by_parts : (n : ℕ) → n ≤ 4 → changes_of_parts layout (reach_of (room_of layout)) n + 2 ≤ 2058
    by_parts n few =
        let pieces = pieces-few (room_of layout) (reach_of (room_of layout)) n (let most = layout.greatest_slot in omega arith) in
        let sectors = few_sectors layout in
        let slots : n * (layout.per_slot + 2) ≤ n * 258 = mul-le-mul_left n (omega arith) in
        omega (arith, pieces, slots)

halves : (a b : ℕ) → a < 2 ^ 32 → b < 2 ^ 32 → ((2 ^ 32 * a + b) % 2 ^ 64 / 2 ^ 32 ≡ a) × ((2 ^ 32 * a + b) % 2 ^ 64 % 2 ^ 32 ≡ b)
halves a b high low =
    let whole : (2 ^ 32 * a + b) % 2 ^ 64 ≡ 2 ^ 32 * a + b = omega arith in
    (ap (λ (n : ℕ). n / 2 ^ 32) whole ∙ (omega arith), ap (λ (n : ℕ). n % 2 ^ 32) whole ∙ (omega arith))

-- the two times that the timings say
pub timings-halves : (layout : Layout) → (timings_of layout % 2 ^ 64 / 2 ^ 32 ≡ 10 * most_changes layout) × (timings_of layout % 2 ^ 64 % 2 ^ 32 ≡ 10 * (layout.per_slot + 4))
timings-halves layout =
    let most = most-small layout in
    let sectors = few_sectors layout in
    halves (10 * most_changes layout) (10 * (layout.per_slot + 4)) (omega (arith, most)) (omega (arith, sectors))
