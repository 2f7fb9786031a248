-- A read that makes no access itself.
use Rattle.std.specs.Prelude.{◌≡◌, ℕ, ◌+◌, Bool, true, false, List, [], ◌∷◌, ◌++◌, length, take, drop, Option, Some, None, Result, Ok, Err}
use Rattle.base_model.specs.Bytes.{number_at}
use Rattle.apei_space.specs.declared.faults.SpaceFault.{SpaceFault}
use Rattle.apei_space.specs.Calls.{Call, ReadBytes}
use Rattle.erst_entries.specs.declared.entries.Entry.{Entry}
use Rattle.erst_interp.specs.declared.demands.Demand.{Demand}
use Rattle.erst_interp.specs.Demands.{unnumbered}
use Rattle.erst_client.specs.declared.attaching.FoundRange.{FoundRange}
use Rattle.erst_client.specs.declared.errors.ClientError.{ClientError}
use Rattle.erst_client.specs.declared.errors.ClientError.TheVariants.{Range}
use Rattle.erst_interp.specs.declared.states.RunState.{RunState}
use Rattle.erst_client.specs.declared.positions.Position.{Position}
use Rattle.erst_client.specs.declared.reading.Reading.{Reading}
use Rattle.erst_client.specs.declared.reading.Reading.TheVariants.{Sequence, Length, Record, Ended}
use Rattle.erst_client.specs.declared.reading.ReadDemand.{ReadDemand}
use Rattle.erst_client.specs.declared.reading.ReadDemand.TheVariants.{TakeLength, TakeRecord, Access}
use Rattle.erst_client.specs.declared.stages.Command.TheVariants.{Read}
use Rattle.erst_client.specs.declared.stages.Part.TheVariants.{Begin}
use Rattle.erst_client.specs.declared.stages.Stage.{Stage}
use Rattle.erst_client.specs.declared.stages.Stage.TheVariants.{Requesting, Done}
use Rattle.erst_client.specs.Sequences.{read_requests, Sequence as IsSequence}
use Rattle.erst_client.specs.Commands.{ClientState, address_in, copy_refusal, Reads}
use Rattle.erst_client.specs.Positions.{entered, demanded_at, answered_at, is_sound_at, is_settled_at, Moves, MadeAt, StandsAt}
use Rattle.erst_client.specs.Bounds.{bound_of}

abbrev pub read_first : List Entry → ℕ → ℕ → Reading
read_first entries id steps = Sequence (entered entries (Read id) (Requesting Begin) steps)

abbrev pub access_of : Option Demand → Option ReadDemand
access_of None = None
access_of (Some demand) = Some (Access demand)

abbrev pub read_demanded : FoundRange → Reading → Option ReadDemand
read_demanded found (Sequence at) = access_of (demanded_at found.timings at)
read_demanded found (Length left) = Some (TakeLength (address_in found.address 20))
read_demanded found (Record len left) = Some (TakeRecord found.address len)
read_demanded found (Ended result left) = None

-- where the length leads, once it was judged
abbrev pub measured : Option ClientError → ℕ → ℕ → Reading
measured None len left = Record len left
measured (Some error) len left = Ended (Err error) left

abbrev pub read_answered : List Entry → ℕ → ℕ → ℕ → Reading → Result ℕ SpaceFault → Reading
read_answered entries range id room (Sequence at) answer = Sequence (answered_at entries (Read id) at answer)
read_answered entries range id room (Length left) (Ok len) = measured (copy_refusal len range room) len left
read_answered entries range id room (Length left) (Err fault) = Ended (Err (Range fault)) left
read_answered entries range id room (Record len left) (Ok number) = Ended (Ok len) left
read_answered entries range id room (Record len left) (Err fault) = Ended (Err (Range fault)) left
read_answered entries range id room (Ended result left) answer = Ended result left

abbrev pub is_sound_read : Reading → Bool
is_sound_read (Sequence at) = is_sound_at at
is_sound_read (Length left) = true
is_sound_read (Record len left) = true
is_sound_read (Ended result left) = true

abbrev pub read_result : Reading → Option (Result ℕ ClientError)
read_result (Sequence at) = None
read_result (Length left) = None
read_result (Record len left) = None
read_result (Ended result left) = Some result

-- the steps that are left, once it has ended
abbrev pub read_left : Reading → ℕ
read_left (Sequence at) = at.kept
read_left (Length left) = left
read_left (Record len left) = left
read_left (Ended result left) = left

-- where the end of the sequence leads
abbrev pub sequenced : Position → Stage → Reading
sequenced at (Done (Ok done)) = Length at.kept
sequenced at (Done (Err error)) = Ended (Err error) at.kept
sequenced at stage = Sequence at

-- it can't go on without an access
abbrev pub is_between : Stage → RunState → Bool
is_between (Done result) state = false
is_between stage state = is_settled_at stage state

abbrev pub is_settled_read : Reading → Bool
is_settled_read (Sequence at) = is_between at.stage at.state
is_settled_read reading = true

-- what it does without an access
abbrev pub ReadMoves : List Entry → ℕ → Option (ℕ × ℕ) → Reading → Reading → Type 0
ReadMoves entries id timings (Sequence old) reading = (at : Position) × (Moves entries (Read id) timings old at × (reading ≡ sequenced at at.stage))
ReadMoves entries id timings old reading = reading ≡ old

-- more than the accesses that a read still makes, or as many
abbrev pub read_bound : List Entry → Reading → ℕ
read_bound entries (Sequence at) = 2 + bound_of entries at
read_bound entries (Length left) = 2
read_bound entries (Record len left) = 1
read_bound entries (Ended result left) = 0

-- the sequence has run, the length was read, and the record fits
pub record IsMeasured {W : Type 0} (allows : W → Call → W → Type 0) (client : ClientState) (id : ℕ) (out : List ℕ) (steps : ℕ) (first : W) (len left : ℕ) (now : W) : Type 0 where
  pub mid : W
  pub field : List ℕ
  pub ran : IsSequence allows client.table.entries client.timings (read_requests id) steps first (Ok tt) left mid
  pub measures : allows mid (ReadBytes (address_in client.address 20) (0 ∷ 0 ∷ 0 ∷ 0 ∷ []) field (Ok tt)) now
  pub len_is : len ≡ number_at field 0 4
  pub fits : copy_refusal (number_at field 0 4) client.range (length out) ≡ None

-- a read over the space into a buffer of the bytes `out`, which began in `first`, stands here. The buffer holds `held`
abbrev pub ReadStands : {W : Type 0} → (W → Call → W → Type 0) → ClientState → ℕ → List ℕ → ℕ → W → Reading → List ℕ → W → Type 0
ReadStands allows client id out steps first (Sequence at) held now = (held ≡ out) × StandsAt allows client.table.entries (Read id) client.timings steps first at now
ReadStands allows client id out steps first (Length left) held now = (held ≡ out) × IsSequence allows client.table.entries client.timings (read_requests id) steps first (Ok tt) left now
ReadStands allows client id out steps first (Record len left) held now = (held ≡ out) × IsMeasured allows client id out steps first len left now
ReadStands allows client id out steps first (Ended result left) held now = Reads allows client id out steps first result held left now

-- the access that reads the length: the answer is the number of its four bytes
abbrev pub TakesLength : {W : Type 0} → (W → Call → W → Type 0) → ℕ → W → Result ℕ SpaceFault → W → Type 0
TakesLength allows address now (Ok len) last =
    (field : List ℕ) × (allows now (ReadBytes (address_in address 20) (0 ∷ 0 ∷ 0 ∷ 0 ∷ []) field (Ok tt)) last × (len ≡ number_at field 0 4))
TakesLength allows address now (Err fault) last =
    (field : List ℕ) × allows now (ReadBytes (address_in address 20) (0 ∷ 0 ∷ 0 ∷ 0 ∷ []) field (Err fault)) last

-- what is done as the read wants, with its answer, does to the buffer and to a space
abbrev pub ReadMade : {W : Type 0} → (W → Call → W → Type 0) → ClientState → Reading → List ℕ → W → Result ℕ SpaceFault → List ℕ → W → Type 0
ReadMade allows client (Sequence at) held now answer after last = (after ≡ held) × MadeAt allows client.timings at now answer last
ReadMade allows client (Length left) held now answer after last = (after ≡ held) × TakesLength allows client.address now answer last
ReadMade allows client (Record len left) held now answer after last =
    (whole : List ℕ) × (allows now (ReadBytes client.address (take len held) whole (unnumbered answer)) last × (after ≡ whole ++ drop len held))
ReadMade allows client (Ended result left) held now answer after last = ⊥
