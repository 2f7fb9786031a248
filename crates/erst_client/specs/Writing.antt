-- A write that makes no access itself.
use Rattle.std.specs.Prelude.{◌≡◌, ℕ, Bool, true, List, codes, Option, Some, None, Result, Ok, Err}
use Rattle.apei_space.specs.declared.faults.SpaceFault.{SpaceFault}
use Rattle.apei_space.specs.Calls.{Call, WriteBytes}
use Rattle.erst_entries.specs.declared.entries.Entry.{Entry}
use Rattle.erst_interp.specs.declared.demands.Demand.{Demand}
use Rattle.erst_interp.specs.Demands.{unnumbered}
use Rattle.erst_client.specs.declared.attaching.FoundRange.{FoundRange}
use Rattle.erst_client.specs.declared.errors.ClientError.{ClientError}
use Rattle.erst_client.specs.declared.errors.ClientError.TheVariants.{Range}
use Rattle.erst_client.specs.declared.positions.Position.{Position}
use Rattle.erst_client.specs.declared.stages.Command.TheVariants.{Write}
use Rattle.erst_client.specs.declared.stages.Part.TheVariants.{Begin}
use Rattle.erst_client.specs.declared.stages.Stage.TheVariants.{Requesting}
use Rattle.erst_client.specs.declared.writing.Writing.{Writing}
use Rattle.erst_client.specs.declared.writing.Writing.TheVariants.{Record, Mark, Sequence, Refused}
use Rattle.erst_client.specs.declared.writing.WriteDemand.{WriteDemand}
use Rattle.erst_client.specs.declared.writing.WriteDemand.TheVariants.{PutRecord, PutMark, Access}
use Rattle.erst_client.specs.Commands.{ClientState, write_refusal, address_in, Puts, Writes}
use Rattle.erst_client.specs.Positions.{entered, demanded_at, answered_at, result_at, is_sound_at, is_settled_at, Moves, MadeAt, StandsAt}

abbrev pub begun : Option ClientError → Writing
begun None = Record
begun (Some error) = Refused error

abbrev pub write_first : FoundRange → List ℕ → Writing
write_first found bytes = begun (write_refusal bytes found.len)

abbrev pub access_of : Option Demand → Option WriteDemand
access_of None = None
access_of (Some demand) = Some (Access demand)

abbrev pub write_demanded : FoundRange → Writing → Option WriteDemand
write_demanded found Record = Some (PutRecord found.address)
write_demanded found Mark = Some (PutMark (address_in found.address 108))
write_demanded found (Sequence at) = access_of (demanded_at found.timings at)
write_demanded found (Refused error) = None

abbrev pub write_answered : List Entry → ℕ → Writing → Result ℕ SpaceFault → Writing
write_answered entries steps Record (Ok number) = Mark
write_answered entries steps Record (Err fault) = Refused (Range fault)
write_answered entries steps Mark (Ok number) = Sequence (entered entries Write (Requesting Begin) steps)
write_answered entries steps Mark (Err fault) = Refused (Range fault)
write_answered entries steps (Sequence at) answer = Sequence (answered_at entries Write at answer)
write_answered entries steps (Refused error) answer = Refused error

abbrev pub is_sound_write : Writing → Bool
is_sound_write Record = true
is_sound_write Mark = true
is_sound_write (Sequence at) = is_sound_at at
is_sound_write (Refused error) = true

-- it can't go on without an access
abbrev pub is_settled_write : Writing → Bool
is_settled_write (Sequence at) = is_settled_at at.stage at.state
is_settled_write writing = true

abbrev pub write_result : Writing → Option (Result (Unit {0}) ClientError)
write_result Record = None
write_result Mark = None
write_result (Sequence at) = result_at at.stage
write_result (Refused error) = Some (Err error)

-- what it does without an access
abbrev pub WriteMoves : List Entry → Option (ℕ × ℕ) → Writing → Writing → Type 0
WriteMoves entries timings (Sequence old) (Sequence at) = Moves entries Write timings old at
WriteMoves entries timings old at = at ≡ old

-- the steps that are left, once it has ended
abbrev pub write_left : ℕ → Writing → ℕ
write_left steps (Sequence at) = at.kept
write_left steps writing = steps

-- the record was put, and its sequence stands here
pub record IsPutSo {W : Type 0} (allows : W → Call → W → Type 0) (client : ClientState) (bytes : List ℕ) (steps : ℕ) (first : W) (at : Position) (now : W) : Type 0 where
  pub is_record : write_refusal bytes client.range ≡ None
  pub mid : W
  pub puts : Puts allows client.address bytes first (Ok tt) mid
  pub stands : StandsAt allows client.table.entries Write client.timings steps mid at now

-- a write over the space, which began in `first`, stands here
abbrev pub WriteStands : {W : Type 0} → (W → Call → W → Type 0) → ClientState → List ℕ → ℕ → W → Writing → W → Type 0
WriteStands allows client bytes steps first Record now = (write_refusal bytes client.range ≡ None) × (now ≡ first)
WriteStands allows client bytes steps first Mark now = (write_refusal bytes client.range ≡ None) × allows first (WriteBytes client.address bytes (Ok tt)) now
WriteStands allows client bytes steps first (Sequence at) now = IsPutSo allows client bytes steps first at now
WriteStands allows client bytes steps first (Refused error) now = Writes allows client bytes steps first (Err error) steps now

-- what is done as the write wants, with its answer, does to a space
abbrev pub WriteMade : {W : Type 0} → (W → Call → W → Type 0) → ClientState → List ℕ → Writing → W → Result ℕ SpaceFault → W → Type 0
WriteMade allows client bytes Record now answer last = allows now (WriteBytes client.address bytes (unnumbered answer)) last
WriteMade allows client bytes Mark now answer last = allows now (WriteBytes (address_in client.address 108) (codes "ER") (unnumbered answer)) last
WriteMade allows client bytes (Sequence at) now answer last = MadeAt allows client.timings at now answer last
WriteMade allows client bytes (Refused error) now answer last = ⊥
