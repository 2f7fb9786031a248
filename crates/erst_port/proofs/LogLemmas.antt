-- A flash in memory at an opening: it fails nothing, and its log has each change.
use Rattle.std.proofs.Common.{◌≡◌, ◌∙◌, ℕ, zero, suc, ◌+◌, ◌-◌, ◌*◌, ◌/◌, ◌^◌, ◌<◌, ◌≤◌, Bool, true, false, List, [], length, inl, inr, ap, arith}
use Rattle.std.proofs.Math.Nat.{mul_comm, mul-le-mul_right}
use Rattle.std.proofs.lemmas.Nat.{le-div}
use Rattle.std.proofs.lemmas.List.{length_push}
use Rattle.base_model.specs.Faults.{Rose}
use Rattle.base_model.specs.Flash.{Change, Told, FlashState, Changed, MayChange}
use Rattle.flash_model.specs.declared.geometry.Geometry.{Geometry}
use Rattle.record_model.specs.Records.{one_if, count_below, second_copies}
use Rattle.record_slots.specs.Recovered.{KillsBelow, NoKill, Kill}
use Rattle.erst_port.specs.Dues.{IsLogged, bytes_in}
use Rattle.erst_port.proofs.Logs.{bytes_in-push}
use Rattle.image_survey.specs.Headers.{flash_size}

-- at most n changes were made, and their ranges have no more bytes
abbrev AreFew : (n : ℕ) (first last : Told) → Type 0
AreFew n first last = (length last.past ≤ length first.past + n) × (bytes_in last.past ≤ bytes_in first.past + n)

few_more : (place size n m : ℕ) (first before last : Told) → size ≤ 1 → n < m → AreFew n first before → Changed place size before last → AreFew m first last
few_more place size n m first before last small less few changed =
    let change : Change = record { before = before.image; at = place; len = size } in
    let long = ap length changed.past ∙ length_push before.past change in
    let wide = ap bytes_in changed.past ∙ bytes_in-push before.past change in
    (omega (arith, long, less, few.0), omega (arith, wide, small, less, few.1))

few_or_same : (place n m : ℕ) (first before last : Told) → n < m → AreFew n first before → MayChange place 1 before last → AreFew m first last
few_or_same place n m first before last less few (inl same) =
    let long = ap (λ (told : Told). length told.past) same in
    let wide = ap (λ (told : Told). bytes_in told.past) same in
    (omega (arith, long, less, few.0), omega (arith, wide, less, few.1))
few_or_same place n m first before last less few (inr (inl changed)) = few_more place 1 n m first before last (omega arith) less few changed
few_or_same place n m first before last less few (inr (inr changed)) = few_more 0 0 n m first before last (omega arith) less few changed

-- slots are ended by one change of one byte each
few_kills : (slot_size : ℕ) (first : Told) (n : ℕ) (last : Told) → KillsBelow slot_size first n last → AreFew n first last
few_kills slot_size first n last (NoKill m) = (omega arith, omega arith)
few_kills slot_size first n last (Kill slot m before end earlier less may) =
    few_or_same (slot * slot_size + 1) slot n first before last less (few_kills slot_size first slot before earlier) may

-- the log of a flash that made no change before an opening has each change of it
pub opening_is_logged : (geometry : Geometry) (first : Told) (flash : FlashState) → first.past ≡ [] → flash.size ≡ flash_size geometry
    → KillsBelow geometry.slot_size first geometry.slots flash.told → IsLogged flash
opening_is_logged geometry first flash none size kills =
    let few = few_kills geometry.slot_size first geometry.slots flash.told kills in
    let no_change : length first.past ≡ 0 = ap length none in
    let no_byte : bytes_in first.past ≡ 0 = ap bytes_in none in
    let least = mul-le-mul_right geometry.slots geometry.least_slot in
    let room : geometry.slots ≤ flash.size / 512 =
    le-div geometry.slots flash.size 512 (omega arith) (omega (arith, size, least, mul_comm geometry.slots 512)) in
    let many = geometry.many_slots in
    record { few = omega (arith, few.0, no_change, room, many); small = omega (arith, few.1, no_byte, room, many) }

one_few : (b : Bool) → one_if b ≤ 1
one_few true = omega arith
one_few false = omega arith

few_below : (test : ℕ → Bool) (n : ℕ) → count_below test n ≤ n
unfolding count_below
few_below test zero = omega arith
few_below test (suc n) = let before = few_below test n in let here = one_few (test n) in omega (arith, before, here)

few_copies : (size slots : ℕ) (image : List ℕ) → second_copies size slots image ≤ slots
unfolding second_copies
few_copies size slots image = few_below _ slots

-- a flash that fails only where no more changes can be counted fails nothing in an opening
pub opening_fails_nothing : (geometry : Geometry) (first back : FlashState) → first.faults ≡ 0 → first.steps ≡ 0
    → back.steps ≤ first.steps + second_copies geometry.slot_size geometry.slots first.told.image → (0 < back.faults → back.steps ≡ 2 ^ 64 - 1)
    → Rose first.faults back.faults → ⊥
opening_fails_nothing geometry first back faultless unchanged steps late (inl rose) =
    let last = late (omega (arith, faultless, rose)) in
    omega (arith, last, steps, unchanged, few_copies geometry.slot_size geometry.slots first.told.image, geometry.many_slots)
opening_fails_nothing geometry first back faultless unchanged steps late (inr all) =
    let last = late (omega (arith, all)) in
    omega (arith, last, steps, unchanged, few_copies geometry.slot_size geometry.slots first.told.image, geometry.many_slots)
