-- Which blocks are refused.
use Rattle.std.specs.Prelude.{ℕ, ◌-◌, nat_lt, if◌then◌else◌, List, length, Option, Some, None, Ok, Err}
use Rattle.ghes_block.specs.Reading.{checked}
use Rattle.ghes_ack.specs.declared.submission.SubmitError.{SubmitError}
use Rattle.ghes_ack.specs.declared.submission.SubmitError.TheVariants.{Long, Malformed, Trailing, Full}

-- the first reason why a block is refused by a window of so many bytes, where so many blocks wait: none where it is exactly
-- one block of at most the window's length, and fewer than 64 wait
abbrev pub refusal_of : ℕ → List ℕ → ℕ → Option SubmitError
refusal_of len block waiting =
    if nat_lt len (length block) then Some (Long (length block))
    else elim (checked block) [
      | Err error ↦ Some (Malformed error)
      | Ok size ↦
          if nat_lt size (length block) then Some (Trailing (length block - size))
          else if nat_lt waiting 64 then None else Some Full
    ]
