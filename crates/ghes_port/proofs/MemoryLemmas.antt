-- A memory, and what is written to it.
use Rattle.std.proofs.Common.{◌≡◌, ◌∙◌, ℕ, zero, suc, ◌+◌, ◌<◌, ◌≤◌, ◌⊎◌, inl, inr, Bool, if◌then◌else◌, List, [], ◌∷◌, ◌++◌, length, refl, ap, arith}
use Rattle.std.proofs.lemmas.Bool.{eq-eqb, ne_eqb}
use Rattle.ghes_port.specs.Memories.{bytes_from, with_byte, with_bytes}
use Rattle.ghes_port.specs.Readers.{AreOff}

pub other_byte : (m : ℕ → ℕ) (at byte a : ℕ) → (a ≡ at → ⊥) → with_byte m at byte a ≡ m a
other_byte m at byte a apart = ap (λ (t : Bool). if t then byte else m a) (ne_eqb a at apart)

pub same_byte : (m : ℕ → ℕ) (at byte : ℕ) → with_byte m at byte at ≡ byte
same_byte m at byte = ap (λ (t : Bool). if t then byte else m at) (eq-eqb at at refl)

apart_byte : (at n a : ℕ) → (a < at) ⊎ (at + suc n ≤ a) → a ≡ at → ⊥
apart_byte at n a (inl below) e = omega (arith, below, e)
apart_byte at n a (inr above) e = omega (arith, above, e)

apart_next : (at n a : ℕ) → (a < at) ⊎ (at + suc n ≤ a) → (a < suc at) ⊎ (suc at + n ≤ a)
apart_next at n a (inl below) = inl (omega (arith, below))
apart_next at n a (inr above) = inr (omega (arith, above))

pub far_byte : (m : ℕ → ℕ) (at : ℕ) (bytes : List ℕ) (a : ℕ) → (a < at) ⊎ (at + length bytes ≤ a) → with_bytes m at bytes a ≡ m a
far_byte m at [] a far = refl
far_byte m at (byte ∷ bytes) a far =
    other_byte (with_bytes m (suc at) bytes) at byte a (apart_byte at (length bytes) a far) ∙ far_byte m (suc at) bytes a (apart_next at (length bytes) a far)

first_far : (other n at m : ℕ) → AreOff other (suc n) at m → (other < at) ⊎ (at + m ≤ other)
first_far other n at m (inl below) = inl (omega (arith, below))
first_far other n at m (inr above) = inr above

rest_far : (other n at m : ℕ) → AreOff other (suc n) at m → AreOff (suc other) n at m
rest_far other n at m (inl below) = inl (omega (arith, below))
rest_far other n at m (inr above) = inr (omega (arith, above))

pub far : (m : ℕ → ℕ) (at : ℕ) (bytes : List ℕ) (other n : ℕ) → AreOff other n at (length bytes) → bytes_from (with_bytes m at bytes) other n ≡ bytes_from m other n
far m at bytes other zero off = refl
far m at bytes other (suc n) off =
    ap (λ (b : ℕ). b ∷ bytes_from (with_bytes m at bytes) (suc other) n) (far_byte m at bytes other (first_far other n at (length bytes) off))
    ∙ ap (λ (bs : List ℕ). m other ∷ bs) (far m at bytes (suc other) n (rest_far other n at (length bytes) off))

pub exact : (m : ℕ → ℕ) (at : ℕ) (bytes : List ℕ) → bytes_from (with_bytes m at bytes) at (length bytes) ≡ bytes
exact m at [] = refl
exact m at (byte ∷ bytes) =
    let under : ℕ → ℕ = with_bytes m (suc at) bytes in
    ap (λ (b : ℕ). b ∷ bytes_from (with_byte under at byte) (suc at) (length bytes)) (same_byte under at byte)
    ∙ ap (λ (bs : List ℕ). byte ∷ bs) (far under at (byte ∷ []) (suc at) (length bytes) (inr (omega (arith))) ∙ exact m (suc at) bytes)

pub length-bytes_from : (m : ℕ → ℕ) (at n : ℕ) → length (bytes_from m at n) ≡ n
length-bytes_from m at zero = refl
length-bytes_from m at (suc n) = ap suc (length-bytes_from m (suc at) n)

pub two : (m : ℕ → ℕ) (at n p : ℕ) → bytes_from m at (n + p) ≡ bytes_from m at n ++ bytes_from m (at + n) p
two m at zero p =
    let e : zero + p ≡ p = omega (arith) in
    let f : at ≡ at + zero = omega (arith) in
    ap (bytes_from m at) e ∙ ap (λ (a : ℕ). bytes_from m a p) f
two m at (suc n) p =
    let e : suc n + p ≡ suc (n + p) = omega (arith) in
    let f : suc at + n ≡ at + suc n = omega (arith) in
    ap (bytes_from m at) e ∙ ap (λ (bs : List ℕ). m at ∷ bs) (two m (suc at) n p ∙ ap (λ (a : ℕ). bytes_from m (suc at) n ++ bytes_from m a p) f)
