-- The status of each answer of error sources and of a boot error region.
use Rattle.std.specs.Prelude.{ℕ}
use Rattle.ghes_ack.specs.declared.submission.SubmitError.{SubmitError as BlockFault}
use Rattle.ghes_ack.specs.declared.submission.SubmitError.TheVariants as block
use Rattle.ghes_port.specs.declared.accesses.Outcome.{Outcome}
use Rattle.ghes_port.specs.declared.accesses.Outcome.TheVariants as outcome
use Rattle.ghes_port.specs.declared.errors.OpenError.{OpenError}
use Rattle.ghes_port.specs.declared.errors.OpenError.TheVariants as opening
use Rattle.ghes_port.specs.declared.errors.SubmitError.{SubmitError}
use Rattle.ghes_port.specs.declared.errors.SubmitError.TheVariants as submitting
use Rattle.ghes_port.specs.declared.boot.BootError.{BootError}
use Rattle.ghes_port.specs.declared.boot.BootError.TheVariants as laying
use Rattle.apei_c.specs.declared.status.Status.{Status}
use Rattle.apei_c.specs.declared.status.Status.TheVariants.{Done, Nothing, Busy, Memory, Count, Reserved, Preallocation, Notification, Length, Places}
use Rattle.apei_c.specs.declared.status.Status.TheVariants.{AddressRegister, Address, AckRegister, Mask, Zero, Alignment, Late, Clash, Identifier, Full, Long}
use Rattle.apei_c.specs.declared.status.Status.TheVariants.{Block, Waits, Region}

abbrev pub status_of_sources : OpenError → Status
status_of_sources (opening.Count found) = Count
status_of_sources (opening.Reserved index) = Reserved
status_of_sources (opening.Preallocation index) = Preallocation
status_of_sources (opening.Notification index) = Notification
status_of_sources (opening.Length index) = Length
status_of_sources (opening.Places index) = Places
status_of_sources (opening.AddressRegister index why) = AddressRegister
status_of_sources (opening.Address index) = Address
status_of_sources (opening.AckRegister index why) = AckRegister
status_of_sources (opening.Mask index) = Mask
status_of_sources (opening.Zero index) = Zero
status_of_sources (opening.Alignment index) = Alignment
status_of_sources (opening.Late index) = Late
status_of_sources (opening.Clash index) = Clash
status_of_sources (opening.Id index) = Identifier
status_of_sources opening.Memory = Memory

-- the number of the source that is the reason, or the one from before where none is
abbrev pub index_told : OpenError → (was : ℕ) → ℕ
index_told (opening.Count found) was = was
index_told (opening.Reserved index) was = index
index_told (opening.Preallocation index) was = index
index_told (opening.Notification index) was = index
index_told (opening.Length index) was = index
index_told (opening.Places index) was = index
index_told (opening.AddressRegister index why) was = index
index_told (opening.Address index) was = index
index_told (opening.AckRegister index why) was = index
index_told (opening.Mask index) was = index
index_told (opening.Zero index) was = index
index_told (opening.Alignment index) was = index
index_told (opening.Late index) was = index
index_told (opening.Clash index) was = index
index_told (opening.Id index) was = index
index_told opening.Memory was = was

abbrev pub status_of_block : BlockFault → Status
status_of_block (block.Long len) = Long
status_of_block (block.Malformed why) = Block
status_of_block (block.Trailing bytes) = Block
status_of_block block.Full = Full

abbrev pub status_of_submitting : SubmitError → Status
status_of_submitting (submitting.Bad fault) = status_of_block fault
status_of_submitting submitting.Full = Full

abbrev pub status_of_laying : BootError → Status
status_of_laying laying.Place = Region
status_of_laying laying.Busy = Busy
status_of_laying (laying.Bad fault) = status_of_block fault
status_of_laying laying.Memory = Memory

abbrev pub status_of_outcome : Outcome → Status
status_of_outcome outcome.Nothing = Nothing
status_of_outcome outcome.Done = Done
status_of_outcome outcome.Waits = Waits
