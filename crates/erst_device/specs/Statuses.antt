-- Command statuses.
use Rattle.std.specs.Prelude.{ℕ}
use Rattle.record_store.specs.declared.errors.StoreError.{StoreError}
use Rattle.record_store.specs.declared.errors.StoreError.TheVariants as errors
use Rattle.erst_device.specs.declared.status.CommandStatus.{CommandStatus}
use Rattle.erst_device.specs.declared.status.CommandStatus.TheVariants.{Success, NotEnoughSpace, HardwareNotAvailable, Failed, RecordStoreEmpty, RecordNotFound}

-- the number of a status (ACPI 6.4, section 18.5.1)
abbrev pub number_of : CommandStatus → ℕ
number_of status = elim status [ Success ↦ 0 | NotEnoughSpace ↦ 1 | HardwareNotAvailable ↦ 2 | Failed ↦ 3 | RecordStoreEmpty ↦ 4 | RecordNotFound ↦ 5 ]

-- the status by which an error of the store is told
abbrev pub status_of : StoreError → CommandStatus
status_of (errors.NoSpace free) = NotEnoughSpace
status_of errors.Flash = HardwareNotAvailable
status_of (errors.LastGeneration id) = Failed
status_of (errors.Small need) = Failed
status_of errors.Empty = RecordStoreEmpty
status_of errors.NotFound = RecordNotFound
