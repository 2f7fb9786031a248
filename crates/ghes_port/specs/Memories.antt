-- A memory: the byte at each index.
use Rattle.std.specs.Prelude.{ℕ, zero, suc, ◌==◌, if◌then◌else◌, List, [], ◌∷◌}

-- the n bytes from an index on
abbrev pub bytes_from : (ℕ → ℕ) → ℕ → ℕ → List ℕ
bytes_from memory at zero = []
bytes_from memory at (suc n) = memory at ∷ bytes_from memory (suc at) n

abbrev pub with_byte : (ℕ → ℕ) → ℕ → ℕ → ℕ → ℕ
with_byte memory at byte = λ a. if a == at then byte else memory a

-- a memory with these bytes from an index on
abbrev pub with_bytes : (ℕ → ℕ) → ℕ → List ℕ → ℕ → ℕ
with_bytes memory at [] = memory
with_bytes memory at (byte ∷ bytes) = with_byte (with_bytes memory (suc at) bytes) at byte
