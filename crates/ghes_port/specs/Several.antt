-- Several sources.
use Rattle.std.specs.Prelude.{◌≡◌, ◌⊎◌, ℕ, List, [], length, set, Some, None, IfSome, slice_get}
use Rattle.ghes_port.specs.declared.setups.Setup.{Setup}
use Rattle.ghes_port.specs.declared.errors.OpenError.{OpenError}
use Rattle.ghes_port.specs.declared.errors.OpenError.TheVariants.{Memory}
use Rattle.ghes_port.specs.Machine.{SourceState}
use Rattle.ghes_port.specs.Setups.{map_of, setup_fault, earlier_fault, setups_fault}

pub record SourcesState : Type 0 where
  pub list : List SourceState
  pub table : List ℕ

-- of the source with this index
abbrev pub IsAt : ℕ → List SourceState → (SourceState → Type 0) → Type 0
IsAt i list P = IfSome (slice_get list i) P

-- the source with this index is what this makes of it, and all else is as before
pub record Becomes (i : ℕ) (old new : SourcesState) (next : SourceState → SourceState) : Type 0 where
  pub source : SourceState
  pub is : slice_get old.list i ≡ Some source
  pub list : new.list ≡ set old.list i (next source)
  pub table : new.table ≡ old.table

-- a source may be served by itself and beside earlier ones
abbrev pub IsSoundAfter : List SourceState → Setup → Type 0
IsSoundAfter earlier s = (setup_fault (length earlier) s ≡ None) × (earlier_fault (length earlier) earlier s.source.id (map_of s) ≡ None)

-- why one is not begun, and why some are not: the first reason, or want of memory
abbrev pub RefusesAfter : List SourceState → Setup → OpenError → Type 0
RefusesAfter earlier s error =
    (setup_fault (length earlier) s ≡ Some error)
    ⊎ ((setup_fault (length earlier) s ≡ None) × (earlier_fault (length earlier) earlier s.source.id (map_of s) ≡ Some error))
    ⊎ (error ≡ Memory)

abbrev pub RefusesAll : List Setup → OpenError → Type 0
RefusesAll setups error = (setups_fault [] 0 setups ≡ Some error) ⊎ (error ≡ Memory)
