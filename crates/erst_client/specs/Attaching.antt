-- What a client finds of a firmware's table.
use Rattle.std.specs.Prelude.{◌≡◌, ℕ, ◌==◌, nat_lt, if◌then◌else◌, not, bit_and, List, [], ◌∷◌, length, slice_get, slice_index, Option, Some, None, Result, Ok, Err}
use Rattle.apei_space.specs.Calls.{Call}
use Rattle.erst_entries.specs.declared.actions.Action.TheVariants.{GetErrorLogAddressRange, GetErrorLogAddressRangeLength, GetErrorLogAddressRangeAttributes, GetExecuteOperationTimings}
use Rattle.erst_entries.specs.declared.entries.Entry.{Entry}
use Rattle.erst_entries.specs.Actions.{code_of}
use Rattle.erst_entries.specs.Layout.{Erst}
use Rattle.erst_entries.specs.Programs.{entries_of}
use Rattle.erst_interp.specs.declared.stops.RunStop.{RunStop}
use Rattle.erst_client.specs.declared.attaching.FoundRange.{FoundRange}
use Rattle.erst_client.specs.declared.errors.AttachError.{AttachError}
use Rattle.erst_client.specs.declared.errors.AttachError.TheVariants.{Stopped, NonVolatile, NoRange}
use Rattle.erst_client.specs.declared.requests.Request.{Request}
use Rattle.erst_client.specs.Timings.{timings_of}
use Rattle.erst_client.specs.Requests.{Performs, Asks}
use Rattle.erst_client.specs.Commands.{ClientState}

-- the timings are asked for where the table has entries for them
abbrev pub attach_requests : List Entry → List Request
attach_requests entries =
    record { action = GetErrorLogAddressRange; given = 0 } ∷ record { action = GetErrorLogAddressRangeLength; given = 0 }
    ∷ record { action = GetErrorLogAddressRangeAttributes; given = 0 }
    ∷ (if length (entries_of (code_of GetExecuteOperationTimings) entries) == 0 then [] else record { action = GetExecuteOperationTimings; given = 0 } ∷ [])

-- all is asked first, and judged then: the answers are the range's address, its length, its attributes, of which bit 1 is non-volatile
-- memory, and the timings
pub record Attaches {W : Type 0} (allows : W → Call → W → Type 0) (erst : Erst) (budget : ℕ) (old : W) (result : Result ClientState AttachError) (left : ℕ) (last : W) : Type 0 where
  pub answers : Result (List ℕ) RunStop
  pub asks : Asks allows erst.entries (attach_requests erst.entries) budget old answers left last
  pub result_is :
      result ≡ elim answers [
        | Err stop ↦ Err (Stopped stop)
        | Ok told ↦
            if not (bit_and (slice_index told 2) 2 == 0) then Err (NonVolatile (slice_index told 2))
            else (if nat_lt (slice_index told 1) 128 then Err (NoRange (slice_index told 1))
            else Ok (record { table = erst; address = slice_index told 0; range = slice_index told 1; timings = timings_of (slice_get told 3) }))
      ]

-- the client of a table and of what was found of it
abbrev pub client_with : Erst → FoundRange → ClientState
client_with erst found = record { table = erst; address = found.address; range = found.len; timings = found.timings }

abbrev pub client_result : Erst → Result FoundRange AttachError → Result ClientState AttachError
client_result erst (Ok found) = Ok (client_with erst found)
client_result erst (Err error) = Err error

abbrev pub found_result : ℕ → ℕ → ℕ → Option (ℕ × ℕ) → Result FoundRange AttachError
found_result address len attributes timings =
    if not (bit_and attributes 2 == 0) then Err (NonVolatile attributes)
    else (if nat_lt len 128 then Err (NoRange len)
    else Ok (record { address = address; len = len; timings = timings }))

-- the timings were asked for, or there were no entries for them
pub data AsksTimings {W : Type 0} (allows : W → Call → W → Type 0) (entries : List Entry) (budget : ℕ) (old : W) : Result (Option (ℕ × ℕ)) RunStop → ℕ → W → Type 0 where
  NoTimings : length (entries_of (code_of GetExecuteOperationTimings) entries) ≡ 0 → AsksTimings allows entries budget old (Ok None) budget old
  HasTimings : (answer left : ℕ) (last : W) → (length (entries_of (code_of GetExecuteOperationTimings) entries) ≡ 0 → ⊥) →
      Performs allows entries GetExecuteOperationTimings 0 budget old (Ok answer) left last → AsksTimings allows entries budget old (Ok (timings_of (Some answer))) left last
  TimingsStop : (stop : RunStop) (left : ℕ) (last : W) → (length (entries_of (code_of GetExecuteOperationTimings) entries) ≡ 0 → ⊥) →
      Performs allows entries GetExecuteOperationTimings 0 budget old (Err stop) left last → AsksTimings allows entries budget old (Err stop) left last
