-- The boot error region: error status blocks that stand one after another.
use Rattle.std.specs.Prelude.{◌≡◌, ℕ, ◌+◌, nat_lt, ◌==◌, ◌||◌, if◌then◌else◌, Bool, true, List, [], ◌∷◌, ◌++◌, length, drop, All, Option, Some, None, Result, Ok, Err}
use Rattle.base_model.specs.Bytes.{part, number_at, joined}
pub use Rattle.base_model.specs.Bytes.{zeros}
use Rattle.ghes_block.specs.declared.error.BlockError.{BlockError}
use Rattle.ghes_block.specs.Grammar.{BlockValue, IsBlock}
use Rattle.ghes_block.specs.Reading.{checked}

-- exactly one block
abbrev pub IsOneBlock : List ℕ → Type 0
IsOneBlock bytes = (value : BlockValue) × IsBlock value bytes

-- no further block: fewer than 20 bytes, or a block status of 0
abbrev pub ends : List ℕ → Bool
ends rest = nat_lt (length rest) 20 || number_at rest 0 4 == 0

-- the list of blocks whose concatenation a region begins with, up to a block status of 0 or fewer than 20 bytes
pub record IsListOf (blocks : List (List ℕ)) (region : List ℕ) : Type 0 where
  pub each : All IsOneBlock blocks
  pub rest : List ℕ
  pub begins : region ≡ joined blocks ++ rest
  pub done : ends rest ≡ true

-- whole blocks, and then so many zeros
pub record IsLaidOut (blocks : List (List ℕ)) (left : ℕ) (region : List ℕ) : Type 0 where
  pub each : All IsOneBlock blocks
  pub region_is : region ≡ joined blocks ++ zeros left

-- what stands at a place: nothing, or a block and the place behind it, or the reason why it is no block
abbrev pub next_from : List ℕ → ℕ → Result (Option ℕ) BlockError
next_from region at =
    if ends (drop at region) then Ok None
    else elim (checked (drop at region)) [ Ok size ↦ Ok (Some (at + size)) | Err error ↦ Err error ]

-- the next of some blocks is found at a place with all its bytes, or none where there is none
abbrev pub FindsNext : List ℕ → ℕ → List (List ℕ) → Type 0
FindsNext region at [] = next_from region at ≡ Ok None
FindsNext region at (block ∷ blocks) = (next_from region at ≡ Ok (Some (at + length block))) × (part region at (length block) ≡ block)
