-- When a scan gives each answer.
use Rattle.std.specs.Prelude.{◌≡◌, ◌≤◌, Result, Ok, Err}
use Rattle.base_model.specs.Faults.{Rose}
use Rattle.flash_model.specs.declared.geometry.Geometry.{Geometry}
use Rattle.base_model.specs.Flash.{FlashState, next_count}
use Rattle.record_slots.specs.Slots.{Fits}
use Rattle.record_slots.specs.declared.found.Found.{Found}
use Rattle.record_slots.specs.declared.scanning.ScanError.{ScanError}
use Rattle.record_slots.specs.declared.scanning.ScanError.TheVariants.{Size, Flash, Memory}

-- another size is answered exactly where the flash has one, a fault only where the count of faults rose, and before
-- an answer of size or memory the flash is left alone
abbrev pub IsAnswer : Geometry → FlashState → FlashState → Result Found ScanError → Type 0
IsAnswer geometry old new (Ok found) = Fits geometry old × (new.faults ≡ old.faults)
IsAnswer geometry old new (Err (Size found sector)) =
    (Fits geometry old → ⊥) × (found ≡ old.size) × (sector ≡ old.sector_size) × (new ≡ old)
IsAnswer geometry old new (Err Flash) = Fits geometry old × (old.faults ≤ new.faults) × Rose old.faults new.faults
IsAnswer geometry old new (Err Memory) = Fits geometry old × (new ≡ old)

-- the fault of a scan is its only one: nothing is asked of the flash behind it
abbrev pub IsOneFault : FlashState → FlashState → ScanError → Type 0
IsOneFault old new (Size found sector) = Unit {0}
IsOneFault old new Flash = new.faults ≡ next_count old.faults
IsOneFault old new Memory = Unit {0}
