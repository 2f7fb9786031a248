-- Erased ranges, and ranges that are apart.
use Rattle.std.proofs.Common.{◌≡◌, ℕ, ◌+◌, ◌-◌, ◌*◌, ◌<◌, ◌≤◌, List, ◌++◌, replicate, sym, ap, ◌∙◌, arith}
use Rattle.std.specs.Prelude.{take, drop}
use Rattle.std.proofs.Math.Nat.{add-mul, mul-le-mul_right}
use Rattle.std.proofs.lemmas.List.{take-replicate, drop-replicate, replicate-append-replicate}
use Rattle.base_model.specs.Bytes.{part, SameOutside}
use Rattle.base_model.specs.Flash.{IsErased}
use Rattle.base_model.proofs.BytesLemmas.{part-before, part-after, part-part, part-append}

-- a slot ends before a later one begins
pub slots_apart : (k j size : ℕ) → k < j → k * size + size ≤ j * size
slots_apart k j size h =
    let next : (k + 1) * size ≡ k * size + 1 * size = add-mul k 1 size in
    let below : (k + 1) * size ≤ j * size = mul-le-mul_right size (omega arith) in
    omega arith

-- a range within an erased one is erased
pub IsErased-within : (image : List ℕ) (place len at n : ℕ) → IsErased image place len → place ≤ at → at + n ≤ place + len → IsErased image at n
unfolding part
IsErased-within image place len at n erased low high =
    let inner : place + (at - place) ≡ at = omega arith in
    let fits : (at - place) + n ≤ len = omega arith in
    let rest : n ≤ len - (at - place) = omega arith in
    ap (λ (k : ℕ). part image k n) (sym inner)
    ∙ sym (part-part image place len (at - place) n fits)
    ∙ ap (λ (xs : List ℕ). take n (drop (at - place) xs)) erased
    ∙ ap (take n) (drop-replicate (at - place) len 0xFF)
    ∙ take-replicate n (len - (at - place)) 0xFF rest

-- an erased range before or behind a change stays so
pub IsErased-before : (place len at n : ℕ) (old new : List ℕ) → SameOutside place len old new → at + n ≤ place → IsErased old at n → IsErased new at n
IsErased-before place len at n old new same h erased = part-before place len at n old new same h ∙ erased

pub IsErased-after : (place len at n : ℕ) (old new : List ℕ) → SameOutside place len old new → place + len ≤ at → IsErased old at n → IsErased new at n
IsErased-after place len at n old new same h erased = part-after place len at n old new same h ∙ erased

-- two erased ranges that adjoin
pub IsErased-append : (image : List ℕ) (place n m : ℕ) → IsErased image place n → IsErased image (place + n) m → IsErased image place (n + m)
IsErased-append image place n m first second =
    sym (part-append image place n m) ∙ ap (λ (xs : List ℕ). xs ++ part image (place + n) m) first ∙ ap (λ (xs : List ℕ). replicate n 0xFF ++ xs) second
    ∙ replicate-append-replicate n m 0xFF
