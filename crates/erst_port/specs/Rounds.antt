-- GET_RECORD_IDENTIFIER of a port goes round.
use Rattle.std.specs.Prelude.{ℕ, ◌-◌, ◌^◌, Some, None}
use Rattle.record_model.specs.Records.{Stored}
use Rattle.record_model.specs.RecordMap.{IsNextAbove}

-- the identifier behind a cursor: the least one above it; where none is above it, the least of all; and all ones where there is none
pub data GoesRound (cursor : ℕ) (stored : Stored) : ℕ → Type 0 where
  Above : (id : ℕ) → IsNextAbove cursor stored (Some id) → GoesRound cursor stored id
  First : (id : ℕ) → IsNextAbove cursor stored None → IsNextAbove 0 stored (Some id) → GoesRound cursor stored id
  NoRecord : IsNextAbove 0 stored None → GoesRound cursor stored (2 ^ 64 - 1)
