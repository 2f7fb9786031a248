-- The order of a publication, in any space.
use Rattle.std.specs.Prelude.{ℕ, ◌<◌, ◌^◌, [], ◌∷◌, Result, IfOk}
use Rattle.std.specs.Result.{result_unwrap_or}
use Rattle.apei_tables.specs.declared.registers.Place.TheVariants.{Memory}
use Rattle.apei_tables.specs.declared.widths.Width.TheVariants.{B32}
use Rattle.apei_tables.specs.Access.{bits}
use Rattle.apei_space.specs.declared.faults.SpaceFault.{SpaceFault}
use Rattle.apei_space.specs.Calls.{Call, Read, Write}
use Rattle.apei_space.specs.Accesses.{Trail}
use Rattle.ghes_ack.specs.declared.maps.HandoverMap.{HandoverMap}
use Rattle.ghes_ack.specs.Maps.{with_clear}

-- the acknowledge register is read, and written with its acknowledge bits clear and all others as they were read; only then the
-- status word is written, and nothing else is done
pub record ClearsThenShows {S : Type 0} (allows : S → Call → S → Type 0) (map : HandoverMap) (word : ℕ) (old new : S) : Type 0 where
  pub read : Result ℕ SpaceFault
  pub cleared : Result (Unit {0}) SpaceFault
  pub shown : Result (Unit {0}) SpaceFault
  pub looked : S
  pub clear : S
  pub small : IfOk read (λ value. value < 2 ^ bits map.ack.access)
  pub order : Trail allows old
      (record { event = Read map.ack.place map.ack.access read; left = looked } ∷
      record { event = Write map.ack.place map.ack.access (with_clear map (result_unwrap_or read 0)) cleared; left = clear } ∷
      record { event = Write (Memory map.block) B32 word shown; left = new } ∷ []) new
