-- The calls of a space with their answers, and what a fault leaves.
use Rattle.std.specs.Prelude.{◌≡◌, ℕ, ◌≤◌, List, Option, Some, None, Result, Ok, Err}
use Rattle.base_model.specs.Faults.{Rose}
use Rattle.apei_tables.specs.declared.registers.Place.{Place}
use Rattle.apei_tables.specs.declared.widths.Width.{Width}
use Rattle.apei_space.specs.declared.faults.SpaceFault.{SpaceFault}
use Rattle.apei_space.specs.declared.faults.SpaceFault.TheVariants.{Unmapped, BadAccess, NotMemory, Device}

-- a call and its answer; a read of bytes with the buffer before and after it
pub data Call : Type 0 where
  Read : Place → Width → Result ℕ SpaceFault → Call
  Write : Place → Width → ℕ → Result (Unit {0}) SpaceFault → Call
  Wait : ℕ → Call
  Copy : ℕ → ℕ → ℕ → Result (Unit {0}) SpaceFault → Call
  ReadBytes : ℕ → List ℕ → List ℕ → Result (Unit {0}) SpaceFault → Call
  WriteBytes : ℕ → List ℕ → Result (Unit {0}) SpaceFault → Call

abbrev pub fault_in : {T : Type 0} → Result T SpaceFault → Option SpaceFault
fault_in (Ok value) = None
fault_in (Err fault) = Some fault

-- the fault that a call answered
abbrev pub fault_of : Call → Option SpaceFault
fault_of (Read at width answer) = fault_in answer
fault_of (Write at width value answer) = fault_in answer
fault_of (Wait micros) = None
fault_of (Copy from target len answer) = fault_in answer
fault_of (ReadBytes at before after answer) = fault_in answer
fault_of (WriteBytes at bytes answer) = fault_in answer

-- nothing changed, or a device failed
abbrev pub Leaves : {S : Type 0} → (S → ℕ) → S → S → Option SpaceFault → Type 0
Leaves faults old new None = Unit {0}
Leaves faults old new (Some (Unmapped at)) = new ≡ old
Leaves faults old new (Some (BadAccess at width)) = new ≡ old
Leaves faults old new (Some (NotMemory at)) = new ≡ old
Leaves faults old new (Some Device) = Rose (faults old) (faults new)

-- a refused access of plain memory, as only a copy answers it; a copy answers no broken rule of a window
abbrev pub IsOfCopy : Option SpaceFault → Type 0
IsOfCopy None = Unit {0}
IsOfCopy (Some (Unmapped at)) = Unit {0}
IsOfCopy (Some (BadAccess at width)) = ⊥
IsOfCopy (Some (NotMemory at)) = Unit {0}
IsOfCopy (Some Device) = Unit {0}

abbrev pub IsOfAccess : Option SpaceFault → Type 0
IsOfAccess None = Unit {0}
IsOfAccess (Some (Unmapped at)) = Unit {0}
IsOfAccess (Some (BadAccess at width)) = Unit {0}
IsOfAccess (Some (NotMemory at)) = ⊥
IsOfAccess (Some Device) = Unit {0}

abbrev pub IsOfCall : Call → Type 0
IsOfCall (Read at width answer) = IsOfAccess (fault_in answer)
IsOfCall (Write at width value answer) = IsOfAccess (fault_in answer)
IsOfCall (Wait micros) = Unit {0}
IsOfCall (Copy from target len answer) = IsOfCopy (fault_in answer)
IsOfCall (ReadBytes at before after answer) = IsOfAccess (fault_in answer)
IsOfCall (WriteBytes at bytes answer) = IsOfAccess (fault_in answer)

-- the count of faults never falls; a fault has its cause, or left everything as it was
pub record HasReason {S : Type 0} (faults : S → ℕ) (old : S) (call : Call) (new : S) : Type 0 where
  pub never_falls : faults old ≤ faults new
  pub leaves : Leaves faults old new (fault_of call)
  pub of_call : IsOfCall call
