-- Parts of a command, as proofs name them.
use Rattle.std.specs.Prelude.{ℕ, ◌==◌, if◌then◌else◌, List, [], ◌∷◌, slice_get, slice_index, nat_lt, not, bit_and, Result, Ok, Err, ◌-◌, Option, Some, None, IfErr}
use Rattle.erst_entries.specs.declared.actions.Action.TheVariants.{GetExecuteOperationTimings}
use Rattle.erst_client.specs.declared.requests.Request.{Request}
use Rattle.erst_entries.specs.Layout.{Erst}
use Rattle.erst_client.specs.Timings.{timings_of}
use Rattle.erst_client.specs.Commands.{ClientState, address_in}
use Rattle.erst_interp.specs.declared.stops.RunStop.{RunStop}
use Rattle.erst_client.specs.declared.errors.AttachError.{AttachError}
use Rattle.erst_client.specs.declared.errors.AttachError.TheVariants.{Stopped, NonVolatile, NoRange}
use Rattle.erst_client.specs.declared.errors.ClientError.{ClientError}
use Rattle.erst_client.specs.declared.errors.ClientError.TheVariants.{TooLong, Trailing, Frame, Stopped}
use Rattle.cper_frame.specs.declared.error.FrameError.{FrameError}
use Rattle.apei_space.specs.declared.faults.SpaceFault.{SpaceFault}
use Rattle.apei_space.specs.Calls.{Call, ReadBytes}
use Rattle.erst_client.specs.Causes.{OfError}
-- the answers of GET_RECORD_COUNT and of GET_RECORD_IDENTIFIER
pub use Rattle.erst_client.specs.Asking.{counted, named}

-- the timings are asked for where the table has entries for them
abbrev pub timing_requests : ℕ → List Request
timing_requests entries = if entries == 0 then [] else record { action = GetExecuteOperationTimings; given = 0 } ∷ []

-- the client of the answers: the range's address, its length, its attributes, and the timings
abbrev pub client_of : Erst → List ℕ → ClientState
client_of erst answers = record { table = erst; address = slice_index answers 0; range = slice_index answers 1; timings = timings_of (slice_get answers 3) }

-- the client of what was answered, or why there is none
abbrev pub attached : Erst → Result (List ℕ) RunStop → Result ClientState AttachError
attached erst answers =
    elim answers [
      | Err stop ↦ Err (Stopped stop)
      | Ok told ↦
          if not (bit_and (slice_index told 2) 2 == 0) then Err (NonVolatile (slice_index told 2))
          else (if nat_lt (slice_index told 1) 128 then Err (NoRange (slice_index told 1))
          else Ok (client_of erst told))
    ]

-- why bytes are not written: they are no error record, others follow it, or it is longer than the range
abbrev pub length_refusal : ℕ → ℕ → ℕ → Option ClientError
length_refusal len have range =
    if nat_lt len have then Some (Trailing (have - len))
    else (if nat_lt range have then Some (TooLong have range)
    else None)

abbrev pub frame_refusal : Result ℕ FrameError → ℕ → ℕ → Option ClientError
frame_refusal verdict have range = elim verdict [ Err error ↦ Some (Frame error) | Ok len ↦ length_refusal len have range ]

-- the record's length, the four bytes at 20, is read by one access
abbrev pub LengthRead : {W : Type 0} → (W → Call → W → Type 0) → ClientState → W → List ℕ → Result (Unit {0}) SpaceFault → W → Type 0
LengthRead allows client old field answer new = allows old (ReadBytes (address_in client.address 20) (0 ∷ 0 ∷ 0 ∷ 0 ∷ []) field answer) new

-- the stop of END_OPERATION is answered only where all before it was well
abbrev pub closed : Result (Unit {0}) ClientError → Result ℕ RunStop → Result (Unit {0}) ClientError
closed outcome ended = elim outcome [ Err error ↦ Err error | Ok done ↦ elim ended [ Ok answer ↦ Ok tt | Err stop ↦ Err (Stopped stop) ] ]

-- steps of its own for END_OPERATION
abbrev pub end_steps : ℕ
end_steps = 64

abbrev pub OfAnswer : {T : Type 0} → ℕ → ℕ → Result T ClientError → Type 0
OfAnswer before after result = IfErr result (OfError before after)
