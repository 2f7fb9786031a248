-- A source as a machine: what it tells next, and what it is after that.
use Rattle.std.specs.Prelude.{◌≡◌, ℕ, ◌+◌, ◌-◌, ◌*◌, ◌%◌, ◌^◌, nat_lt, ◌==◌, if◌then◌else◌, Bool, List, [], ◌∷◌, ◌++◌, length, take, drop, Option, Some, None, Ok, bit_and, bit_or}
use Rattle.base_model.specs.Bytes.{part, put_at, spelled, AreBytes}
use Rattle.apei_tables.specs.declared.registers.Place.{Place}
use Rattle.apei_tables.specs.declared.registers.Place.TheVariants.{Memory}
use Rattle.apei_tables.specs.Access.{bits}
use Rattle.ghes_block.specs.Reading.{checked}
use Rattle.ghes_ack.specs.Machine.{Fits}
use Rattle.ghes_ack.specs.Submissions.{refusal_of}
use Rattle.ghes_port.specs.declared.errors.SubmitError.{SubmitError}
use Rattle.ghes_port.specs.declared.errors.SubmitError.TheVariants.{Bad, Full}
use Rattle.ghes_port.specs.declared.maps.SourceMap.{SourceMap}
use Rattle.ghes_port.specs.declared.maps.AckRegister.{AckRegister}
use Rattle.ghes_port.specs.declared.stages.Stage.{Stage}
use Rattle.ghes_port.specs.declared.stages.Stage.TheVariants.{Hide, TellAddress, ReadFirst, SetAck, Fill, ReadAck, ClearAck, Show, Notify, Await}
use Rattle.ghes_port.specs.declared.stages.Unacknowledged.{Unacknowledged}
use Rattle.ghes_port.specs.declared.stages.Unacknowledged.TheVariants.{TellAgain, Forget}
use Rattle.ghes_port.specs.declared.accesses.Access.{Access}
use Rattle.ghes_port.specs.declared.accesses.Access.TheVariants.{Nothing as NoAccess, Read, Write, Notify as NotifyGuest}
use Rattle.ghes_port.specs.declared.accesses.Outcome.{Outcome}
use Rattle.ghes_port.specs.declared.accesses.Outcome.TheVariants.{Nothing as NothingDone, Done, Waits}
use Rattle.ghes_port.specs.Places.{octets}

-- its identifier, where it lies, how far it is, its blocks (the oldest one is at work until it is acknowledged), and how many may wait
pub record SourceState : Type 0 where
  pub id : ℕ
  pub map : SourceMap
  pub stage : Stage
  pub queue : List (List ℕ)
  pub places : ℕ

-- what is to be done: nothing, a read of so many bytes, a write of these, or a notification
pub data Told : Type 0 where
  Nothing : Told
  Reads : Place → ℕ → Told
  Writes : Place → List ℕ → Told
  Notifies : Told

-- the pieces of a block begin after its block status
abbrev pub piece_at : ℕ → ℕ
piece_at k = 4 + 64 * k

abbrev pub piece_of : List ℕ → ℕ → List ℕ
piece_of block k = part block (piece_at k) 64

-- the number in the register of the block's address
abbrev pub address_number : SourceMap → ℕ
address_number map = map.block * 2 ^ map.address.offset

abbrev pub address_told : SourceMap → Told
address_told map = Writes map.address.place (spelled (octets map.address.access) (address_number map))

-- a read and a write of the acknowledge register, if there is one
abbrev pub ack_read : Option AckRegister → Told
ack_read None = Nothing
ack_read (Some ack) = Reads ack.place (octets ack.access)

abbrev pub ack_written : AckRegister → ℕ → Told
ack_written ack value = Writes ack.place (spelled (octets ack.access) value)

-- the acknowledge bits set, or clear, and all others as they were read
abbrev pub ack_set : Option AckRegister → ℕ → Told
ack_set None read = Nothing
ack_set (Some ack) read = ack_written ack (bit_or read ack.set)

abbrev pub cleared : AckRegister → ℕ → ℕ
cleared ack read = bit_and read (2 ^ bits ack.access - 1 - ack.set)

abbrev pub ack_cleared : Option AckRegister → ℕ → Told
ack_cleared None read = Nothing
ack_cleared (Some ack) read = ack_written ack (cleared ack read)

-- what tells whether the guest has acknowledged: the register, or without one the block status
abbrev pub ack_asked : SourceMap → Option AckRegister → Told
ack_asked map None = Reads (Memory map.block) 4
ack_asked map (Some ack) = Reads ack.place (octets ack.access)

-- a piece of the oldest block, and its block status
abbrev pub piece_told : SourceMap → List (List ℕ) → ℕ → Told
piece_told map [] piece = Nothing
piece_told map (block ∷ rest) piece = Writes (Memory (map.block + piece_at piece)) (piece_of block piece)

abbrev pub status_told : SourceMap → List (List ℕ) → Told
status_told map [] = Nothing
status_told map (block ∷ rest) = Writes (Memory map.block) (take 4 block)

abbrev pub told_at : SourceMap → List (List ℕ) → Stage → Told
told_at map queue Hide = Writes (Memory map.block) (spelled 4 0)
told_at map queue TellAddress = address_told map
told_at map queue ReadFirst = ack_read map.ack
told_at map queue (SetAck read) = ack_set map.ack read
told_at map queue (Fill piece) = piece_told map queue piece
told_at map queue ReadAck = ack_read map.ack
told_at map queue (ClearAck read) = ack_cleared map.ack read
told_at map queue Show = status_told map queue
told_at map queue Notify = Notifies
told_at map queue Await = ack_asked map map.ack

abbrev pub told : SourceState → Told
told s = told_at s.map s.queue s.stage

-- the guest has acknowledged, by what was read: the acknowledge bits are set, or without a register the block status is 0
abbrev pub frees : Option AckRegister → ℕ → Bool
frees None value = value % 2 ^ 32 == 0
frees (Some ack) value = bit_and value ack.set == ack.set

-- after the address, and after the last piece
abbrev pub addressed : Option AckRegister → Stage
addressed None = Fill 0
addressed (Some ack) = ReadFirst

abbrev pub filled : Option AckRegister → Stage
filled None = Show
filled (Some ack) = ReadAck

abbrev pub piece_done : SourceMap → List ℕ → ℕ → Stage
piece_done map block piece = if nat_lt (piece_at (piece + 1)) (length block) then Fill (piece + 1) else filled map.ack

abbrev pub filled_more : SourceMap → List (List ℕ) → ℕ → Stage
filled_more map [] piece = Fill piece
filled_more map (block ∷ rest) piece = piece_done map block piece

abbrev pub stage_after : SourceMap → List (List ℕ) → Stage → ℕ → Stage
stage_after map queue Hide value = TellAddress
stage_after map queue TellAddress value = addressed map.ack
stage_after map queue ReadFirst value = SetAck value
stage_after map queue (SetAck read) value = Fill 0
stage_after map queue (Fill piece) value = filled_more map queue piece
stage_after map queue ReadAck value = ClearAck value
stage_after map queue (ClearAck read) value = Show
stage_after map queue Show value = Notify
stage_after map queue Notify value = Await
stage_after map queue Await value = if frees map.ack value then Fill 0 else Await

-- the oldest block is given back when it is acknowledged
abbrev pub queue_after : SourceMap → List (List ℕ) → Stage → ℕ → List (List ℕ)
queue_after map queue Await value = if frees map.ack value then drop 1 queue else queue
queue_after map queue stage value = queue

-- after what was told was done, and what was read is this number
abbrev pub after : SourceState → ℕ → SourceState
after s value = record s { stage = stage_after s.map s.queue s.stage value; queue = queue_after s.map s.queue s.stage value }

abbrev pub outcome_of_fill : List (List ℕ) → Outcome
outcome_of_fill [] = NothingDone
outcome_of_fill (block ∷ rest) = Done

abbrev pub outcome_at : SourceMap → List (List ℕ) → Stage → ℕ → Outcome
outcome_at map queue (Fill piece) value = outcome_of_fill queue
outcome_at map queue Await value = if frees map.ack value then Done else Waits
outcome_at map queue stage value = Done

-- an access, with what it makes of a buffer, is what is told
abbrev pub IsTold : Told → Access → (old new : List ℕ) → Type 0
IsTold Nothing access old new = (access ≡ NoAccess) × (new ≡ old)
IsTold (Reads place n) access old new = (access ≡ Read place n) × (new ≡ old)
IsTold (Writes place bytes) access old new = (access ≡ Write place (length bytes)) × (new ≡ put_at old 0 bytes)
IsTold Notifies access old new = (access ≡ NotifyGuest) × (new ≡ old)

-- with a block more, and why a block is refused
abbrev pub submitted : SourceState → List ℕ → SourceState
submitted s block = record s { queue = s.queue ++ block ∷ [] }

abbrev pub refusal : SourceState → List ℕ → Option SubmitError
refusal s block = elim (refusal_of s.map.len block 0) [
  | Some fault ↦ Some (Bad fault)
  | None ↦ if nat_lt (length s.queue) s.places then None else Some Full
]

-- when its guest starts again: before the first access, with the blocks that are kept
abbrev pub kept : Unacknowledged → List (List ℕ) → List (List ℕ)
kept TellAgain queue = queue
kept Forget queue = []

abbrev pub reset : Unacknowledged → SourceState → SourceState
reset blocks s = record s { stage = Hide; queue = kept blocks s.queue }

-- exactly one error status block, which a window of so many bytes takes
pub record IsGood (len : ℕ) (block : List ℕ) : Type 0 where
  pub fits : Fits len block
  pub whole : checked block ≡ Ok (length block)
  pub bytes : AreBytes block
