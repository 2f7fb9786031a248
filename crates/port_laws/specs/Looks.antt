-- GET_RECORD_IDENTIFIER by the table of a port goes round.
use Rattle.std.specs.Prelude.{◌≡◌, Option, Some, None, Result, Ok, Err, ℕ}
use Rattle.record_model.specs.RecordMap.{IsNextAbove}
use Rattle.erst_client.specs.declared.errors.ClientError.{ClientError}
use Rattle.erst_client.specs.declared.errors.ClientError.TheVariants.{Hardware}
use Rattle.erst_machine.specs.MachineState.{MachineState, records_of}
use Rattle.erst_commands.specs.Looks.{HasAsked, HasFailed}

-- the least stored identifier above the cursor; where none is above it, the least of all. The one that is told becomes the cursor
pub data NextRound (first last : MachineState) : Result (Option ℕ) ClientError → Type 0 where
  IsAbove : (id : ℕ) → HasAsked first last → IsNextAbove first.device.cursor (records_of first) (Some id) → last.device.cursor ≡ id → NextRound first last (Ok (Some id))
  IsFirst : (id : ℕ) → HasAsked first last → IsNextAbove first.device.cursor (records_of first) None → IsNextAbove 0 (records_of first) (Some id) → last.device.cursor ≡ id
      → NextRound first last (Ok (Some id))
  IsNone : HasAsked first last → IsNextAbove first.device.cursor (records_of first) None → IsNextAbove 0 (records_of first) None → last.device.cursor ≡ 0 → NextRound first last (Ok None)
  IsNotFound : HasFailed first last → NextRound first last (Err Hardware)
