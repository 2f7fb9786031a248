-- What an attaching client asks for, without an access of its own.
use Rattle.std.specs.Prelude.{◌≡◌, ℕ, ◌==◌, if◌then◌else◌, Bool, true, false, List, [], ◌∷◌, length, Option, Some, None, Result, Ok, Err}
use Rattle.apei_space.specs.declared.faults.SpaceFault.{SpaceFault}
use Rattle.apei_space.specs.Calls.{Call}
use Rattle.erst_entries.specs.declared.actions.Action.{Action}
use Rattle.erst_entries.specs.declared.actions.Action.TheVariants.{GetErrorLogAddressRange, GetErrorLogAddressRangeLength, GetErrorLogAddressRangeAttributes, GetExecuteOperationTimings}
use Rattle.erst_entries.specs.declared.entries.Entry.{Entry}
use Rattle.erst_entries.specs.Actions.{code_of}
use Rattle.erst_entries.specs.Layout.{Erst}
use Rattle.erst_entries.specs.Programs.{entries_of}
use Rattle.erst_interp.specs.declared.demands.Demand.{Demand}
use Rattle.erst_interp.specs.declared.states.RunState.{RunState}
use Rattle.erst_interp.specs.declared.states.RunState.TheVariants.{Awaiting}
use Rattle.erst_interp.specs.declared.stops.RunStop.{RunStop}
use Rattle.erst_interp.specs.Told.{demanded, ended, bound, is_sound_state}
use Rattle.erst_client.specs.declared.asking.Asking.{Asking}
use Rattle.erst_client.specs.declared.attaching.FoundRange.{FoundRange}
use Rattle.erst_client.specs.declared.errors.AttachError.{AttachError}
use Rattle.erst_client.specs.declared.errors.AttachError.TheVariants.{Stopped}
use Rattle.erst_client.specs.declared.finding.Finding.{Finding}
use Rattle.erst_client.specs.declared.finding.Finding.TheVariants.{Address, Length, Attributes, Timings, Ended}
use Rattle.erst_client.specs.declared.requests.Request.{Request}
use Rattle.erst_client.specs.Timings.{timings_of}
use Rattle.erst_client.specs.Requests.{Asks}
use Rattle.erst_client.specs.Attaching.{Attaches, client_result, found_result}
use Rattle.erst_client.specs.Asking.{asking_first, asking_answered, AskingMoves, AskingStands, AskingMade}

abbrev pub finding_first : List Entry → ℕ → Finding
finding_first entries steps = Address (asking_first entries GetErrorLogAddressRange steps)

abbrev pub asking_in : Finding → Option Asking
asking_in (Address asking) = Some asking
asking_in (Length address asking) = Some asking
asking_in (Attributes address len asking) = Some asking
asking_in (Timings address len attributes asking) = Some asking
asking_in (Ended result left) = None

-- the same with its program further on
abbrev pub with_asking : Finding → Asking → Finding
with_asking (Address old) asking = Address asking
with_asking (Length address old) asking = Length address asking
with_asking (Attributes address len old) asking = Attributes address len asking
with_asking (Timings address len attributes old) asking = Timings address len attributes asking
with_asking (Ended result left) asking = Ended result left

abbrev pub demanded_by : Option Asking → Option Demand
demanded_by None = None
demanded_by (Some asking) = demanded asking.state

abbrev pub finding_demanded : Finding → Option Demand
finding_demanded at = demanded_by (asking_in at)

abbrev pub answered_by : Finding → Option Asking → Result ℕ SpaceFault → Finding
answered_by at None answer = at
answered_by at (Some asking) answer = with_asking at (asking_answered asking answer)

abbrev pub finding_answered : Finding → Result ℕ SpaceFault → Finding
finding_answered at answer = answered_by at (asking_in at) answer

-- the timings are asked for where the table has entries for them
abbrev pub attributed : List Entry → ℕ → ℕ → ℕ → ℕ → Finding
attributed entries address len attributes left =
    if length (entries_of (code_of GetExecuteOperationTimings) entries) == 0 then Ended (found_result address len attributes None) left
    else Timings address len attributes (asking_first entries GetExecuteOperationTimings left)

-- where a number leads that its program answered
abbrev pub told_in : List Entry → Finding → ℕ → ℕ → Finding
told_in entries (Address asking) number left = Length number (asking_first entries GetErrorLogAddressRangeLength left)
told_in entries (Length address asking) number left = Attributes address number (asking_first entries GetErrorLogAddressRangeAttributes left)
told_in entries (Attributes address len asking) number left = attributed entries address len number left
told_in entries (Timings address len attributes asking) number left = Ended (found_result address len attributes (timings_of (Some number))) left
told_in entries (Ended result before) number left = Ended result before

abbrev pub heard_in : List Entry → Finding → Result ℕ RunStop → ℕ → Finding
heard_in entries at (Ok number) left = told_in entries at number left
heard_in entries (Ended result before) (Err stop) left = Ended result before
heard_in entries at (Err stop) left = Ended (Err (Stopped stop)) left

abbrev pub finding_result : Finding → Option (Result FoundRange AttachError)
finding_result (Address asking) = None
finding_result (Length address asking) = None
finding_result (Attributes address len asking) = None
finding_result (Timings address len attributes asking) = None
finding_result (Ended result left) = Some result

-- the steps that are left, once it has ended
abbrev pub finding_left : Finding → ℕ
finding_left (Address asking) = asking.left
finding_left (Length address asking) = asking.left
finding_left (Attributes address len asking) = asking.left
finding_left (Timings address len attributes asking) = asking.left
finding_left (Ended result left) = left

abbrev pub is_sound_finding : Finding → Bool
is_sound_finding (Address asking) = is_sound_state asking.state
is_sound_finding (Length address asking) = is_sound_state asking.state
is_sound_finding (Attributes address len asking) = is_sound_state asking.state
is_sound_finding (Timings address len attributes asking) = is_sound_state asking.state
is_sound_finding (Ended result left) = true

-- it can't go on without an access
abbrev pub awaits : RunState → Bool
awaits (Awaiting task awaited) = true
awaits state = false

abbrev pub is_settled_finding : Finding → Bool
is_settled_finding (Address asking) = awaits asking.state
is_settled_finding (Length address asking) = awaits asking.state
is_settled_finding (Attributes address len asking) = awaits asking.state
is_settled_finding (Timings address len attributes asking) = awaits asking.state
is_settled_finding (Ended result left) = true

-- from one program to the next without an access
pub data FindingMoves (entries : List Entry) (first : Finding) : Finding → Type 0 where
  IsThere : FindingMoves entries first first
  IsHeard : (at : Finding) (old asking : Asking) (answer : Result ℕ RunStop) → FindingMoves entries first at → asking_in at ≡ Some old →
      AskingMoves entries old asking → ended asking.state ≡ Some answer →
      FindingMoves entries first (heard_in entries at answer asking.left)
  GoesOn : (at : Finding) (old asking : Asking) → FindingMoves entries first at → asking_in at ≡ Some old → AskingMoves entries old asking → FindingMoves entries first (with_asking at asking)

-- the requests `asked` were answered so, and the program of one more stands here
pub record IsAsking {W : Type 0} (allows : W → Call → W → Type 0) (entries : List Entry) (steps : ℕ) (first : W) (asked : List Request) (told : List ℕ)
    (action : Action) (asking : Asking) (now : W) : Type 0 where
  pub before : ℕ
  pub mid : W
  pub asks : Asks allows entries asked steps first (Ok told) before mid
  pub stands : AskingStands allows entries action before mid asking now

abbrev pub plain : Action → Request
plain action = record { action = action; given = 0 }

-- a client that attaches over the space, and began in `first`, stands here
abbrev pub FindingStands : {W : Type 0} → (W → Call → W → Type 0) → Erst → ℕ → W → Finding → W → Type 0
FindingStands allows erst steps first (Address asking) now = IsAsking allows erst.entries steps first [] [] GetErrorLogAddressRange asking now
FindingStands allows erst steps first (Length address asking) now =
    IsAsking allows erst.entries steps first (plain GetErrorLogAddressRange ∷ []) (address ∷ []) GetErrorLogAddressRangeLength asking now
FindingStands allows erst steps first (Attributes address len asking) now =
    IsAsking allows erst.entries steps first (plain GetErrorLogAddressRange ∷ plain GetErrorLogAddressRangeLength ∷ []) (address ∷ len ∷ []) GetErrorLogAddressRangeAttributes asking now
FindingStands allows erst steps first (Timings address len attributes asking) now =
    (length (entries_of (code_of GetExecuteOperationTimings) erst.entries) ≡ 0 → ⊥)
    × IsAsking allows erst.entries steps first (plain GetErrorLogAddressRange ∷ plain GetErrorLogAddressRangeLength ∷ plain GetErrorLogAddressRangeAttributes ∷
    []) (address ∷ len ∷ attributes ∷ []) GetExecuteOperationTimings asking now
FindingStands allows erst steps first (Ended result left) now = Attaches allows erst steps first (client_result erst result) left now

-- what the access that it tells, with its answer, does to a space
abbrev pub MadeFor : {W : Type 0} → (W → Call → W → Type 0) → Option Asking → W → Result ℕ SpaceFault → W → Type 0
MadeFor allows None now answer last = ⊥
MadeFor allows (Some asking) now answer last = AskingMade allows asking now answer last

abbrev pub FindingMade : {W : Type 0} → (W → Call → W → Type 0) → Finding → W → Result ℕ SpaceFault → W → Type 0
FindingMade allows at now answer last = MadeFor allows (asking_in at) now answer last

-- at least the accesses that attaching still makes
abbrev pub finding_bound : Finding → ℕ
finding_bound (Address asking) = bound asking.state asking.left
finding_bound (Length address asking) = bound asking.state asking.left
finding_bound (Attributes address len asking) = bound asking.state asking.left
finding_bound (Timings address len attributes asking) = bound asking.state asking.left
finding_bound (Ended result left) = 0
