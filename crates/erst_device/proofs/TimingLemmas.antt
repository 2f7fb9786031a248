-- The changes of the parts of a record, one part more at a time.
use Rattle.std.proofs.Common.{◌≡◌, ℕ, suc, ◌+◌, ◌-◌, ◌*◌, ◌/◌, ◌≤◌, ◌<◌, ◌^◌, min, ap, ◌∙◌, arith, add-one}
use Rattle.std.proofs.Math.Nat.{add-mul}
use Rattle.base_model.specs.Layout.{Layout, room_of, reach_of}
use Rattle.record_model.specs.Records.{parts_of, part_len}
use Rattle.record_model.specs.RecordMap.{pieces_of, pieces_of_parts, changes_of_parts}
use Rattle.record_model.proofs.PartsLemmas.{parts_of-few}
use Rattle.erst_device.specs.Timings.{most_changes}

pub no_part : (layout : Layout) (size : ℕ) → changes_of_parts layout size 0 ≡ 0
unfolding pieces_of_parts
no_part layout size = omega arith

one_part : (per_slot room size n : ℕ) → suc n * (per_slot + 2) + pieces_of_parts room size (suc n) ≡ n * (per_slot + 2) + pieces_of_parts room size n +
    (per_slot + 2 + pieces_of (part_len room size n))
unfolding pieces_of_parts
one_part per_slot room size n =
    let spread : (n + 1) * (per_slot + 2) ≡ n * (per_slot + 2) + 1 * (per_slot + 2) = add-mul n 1 (per_slot + 2) in
    let next : suc n * (per_slot + 2) ≡ (n + 1) * (per_slot + 2) = ap (λ (m : ℕ). m * (per_slot + 2)) (omega arith) in
    omega arith

pub one_part_more : (layout : Layout) (size n : ℕ) → changes_of_parts layout size (n + 1) ≡ changes_of_parts layout size n + (layout.per_slot + 2 + pieces_of (part_len (room_of layout) size n))
one_part_more layout size n = rw add-one (one_part layout.per_slot (room_of layout) size n)

-- a part has the room of a slot at most
pub few_pieces : (room size n : ℕ) → room ≤ 65536 → pieces_of (part_len room size n) ≤ 256
unfolding part_len
few_pieces room size n few = omega arith

pub few_parts : (layout : Layout) → (reach_of (room_of layout) + (room_of layout - 1)) / room_of layout ≤ 4
unfolding reach_of parts_of
few_parts layout =
    let least = layout.least_slot in
    parts_of-few (room_of layout) (reach_of (room_of layout)) (omega arith) (omega arith)

pub sum_fits : (layout : Layout) (reach room : ℕ) → reach ≡ reach_of (room_of layout) → room ≡ room_of layout → reach + (room - 1) < 2 ^ 64
unfolding reach_of
sum_fits layout reach room reach_is room_is = let most = layout.greatest_slot in omega arith

pub parts_at_most : (layout : Layout) (reach room : ℕ) → reach ≡ reach_of (room_of layout) → room ≡ room_of layout → (reach + (room - 1)) / room ≤ 4
parts_at_most layout reach room reach_is room_is =
    let whole : (reach + (room - 1)) / room ≡ (reach_of (room_of layout) + (room_of layout - 1)) / room_of layout =
    ap (λ (n : ℕ). (n + (room - 1)) / room) reach_is ∙ ap (λ (n : ℕ). (reach_of (room_of layout) + (n - 1)) / n) room_is in
    let few = few_parts layout in
    omega arith

pub len_is : (layout : Layout) (reach room part len rest : ℕ) → len ≡ min room rest → rest ≡ reach - part * room → room ≡ room_of layout → len ≡ part_len (room_of layout) reach part
unfolding part_len
len_is layout reach room part len rest len_min rest_is room_is =
    len_min ∙ ap (λ (n : ℕ). min room n) rest_is ∙ ap (λ (n : ℕ). min n (reach - part * n)) room_is

-- the part at hand is added
pub so_far_more : (layout : Layout) (reach part len changes : ℕ) → changes ≡ changes_of_parts layout reach part → len ≡ part_len (room_of layout) reach part
    → changes + (layout.per_slot + 2 + (len + 255) / 256) ≡ changes_of_parts layout reach (part + 1)
so_far_more layout reach part len changes changes_is len_eq =
    let more = one_part_more layout reach part in
    let pieces : (len + 255) / 256 ≡ pieces_of (part_len (room_of layout) reach part) = ap pieces_of len_eq in
    omega arith

pub all_parts : (layout : Layout) (reach room part changes : ℕ) → reach ≡ reach_of (room_of layout) → room ≡ room_of layout → part ≡ (reach + (room - 1)) / room
    → changes ≡ changes_of_parts layout reach part
    → changes + 2 ≡ most_changes layout
unfolding parts_of
all_parts layout reach room part changes reach_is room_is part_is changes_is =
    let whole : part ≡ parts_of (room_of layout) (reach_of (room_of layout)) =
    part_is ∙ ap (λ (n : ℕ). (n + (room - 1)) / room) reach_is ∙ ap (λ (n : ℕ). (reach_of (room_of layout) + (n - 1)) / n) room_is in
    ap (λ (n : ℕ). n + 2) (changes_is ∙ ap (λ (n : ℕ). changes_of_parts layout n part) reach_is ∙ ap (λ (n : ℕ). changes_of_parts layout (reach_of (room_of layout)) n) whole)

pub few_more : (layout : Layout) (reach part len changes : ℕ) → room_of layout ≤ 65536 → layout.per_slot ≤ 16 → len ≡ part_len (room_of layout) reach part → changes ≤ 300 * part
    → changes + (layout.per_slot + 2 + (len + 255) / 256) ≤ 300 * (part + 1)
few_more layout reach part len changes few sectors len_eq so_far =
    let pieces : (len + 255) / 256 ≡ pieces_of (part_len (room_of layout) reach part) = ap pieces_of len_eq in
    let most = few_pieces (room_of layout) reach part few in
    omega arith
