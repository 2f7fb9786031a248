-- What a look at a flash leaves, and when it gives each answer.
use Rattle.std.specs.Prelude.{◌≡◌, ◌≤◌, ℕ, Result, Ok, Err}
use Rattle.std.specs.declared.alloc.Global.{Global}
use Rattle.std.specs.declared.vec.Vec.{Vec}
use Rattle.base_model.specs.Faults.{Rose}
use Rattle.flash_model.specs.declared.geometry.Geometry.{Geometry}
use Rattle.base_model.specs.Flash.{FlashState, StaysPowered, next_count}
use Rattle.record_slots.specs.Slots.{Fits}
use Rattle.record_slots.specs.declared.scanning.ScanError.{ScanError}
use Rattle.record_slots.specs.declared.scanning.ScanError.TheVariants.{Size, Flash, Memory}

-- no change was made and none was asked for: the content, the size, the count of changes and the power are as before
pub record LeavesAlone (tells : Type 0) (old new : FlashState) : Type 0 where
  pub told : tells → new.told ≡ old.told
  pub size : new.size ≡ old.size
  pub sector_size : new.sector_size ≡ old.sector_size
  pub steps : new.steps ≡ old.steps
  pub power : new.powered ≡ old.powered
  pub lit : StaysPowered old new

-- another size is answered exactly where the flash has one, and a fault only where the count of faults rose, by one. Bytes and a
-- fault come of one read, and the other answers of none
abbrev pub IsAnswer : Geometry → FlashState → FlashState → Result (Vec ℕ Global) ScanError → Type 0
IsAnswer geometry old new (Ok image) = Fits geometry old × (new.faults ≡ old.faults) × (new.reads ≡ next_count old.reads)
IsAnswer geometry old new (Err (Size found sector)) =
    (Fits geometry old → ⊥) × (found ≡ old.size) × (sector ≡ old.sector_size) × (new ≡ old)
IsAnswer geometry old new (Err Flash) =
    Fits geometry old × (old.faults ≤ new.faults) × Rose old.faults new.faults
    × (new.faults ≡ next_count old.faults) × (new.reads ≡ next_count old.reads)
IsAnswer geometry old new (Err Memory) = Fits geometry old × (new ≡ old)
