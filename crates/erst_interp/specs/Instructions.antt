-- The table of serialization instructions (ACPI 6.4, section 18.5.1.2).
use Rattle.std.specs.Prelude.{◌≡◌, ℕ, ◌+◌, ◌-◌, ◌%◌, ◌^◌, ◌==◌, if◌then◌else◌, Bool, true, false, Some}
use Rattle.erst_entries.specs.declared.instructions.Instruction.{Instruction}
use Rattle.erst_entries.specs.declared.instructions.Instruction.TheVariants.{ReadRegister, ReadRegisterValue, WriteRegister, WriteRegisterValue, Noop, LoadVar1}
use Rattle.erst_entries.specs.declared.instructions.Instruction.TheVariants.{LoadVar2, StoreVar1, Add, Subtract, AddValue, SubtractValue, Stall, StallWhileTrue}
use Rattle.erst_entries.specs.declared.instructions.Instruction.TheVariants.{SkipNextIfTrue, Goto, SetSourceBase, SetTargetBase, MoveData}
use Rattle.erst_entries.specs.Instructions.{instruction_of}
use Rattle.erst_interp.specs.declared.configurations.Configuration.{Configuration}
use Rattle.erst_interp.specs.declared.configurations.Task.{Task}
use Rattle.erst_interp.specs.Configurations.{next}

-- what an instruction does: it goes on in a configuration, goes to a place, waits, takes its field, stores a value, stores
-- what it makes of its field, compares its field with the entry's value, or moves bytes
pub data Work : Type 0 where
  GoOn : Configuration → Work
  GoTo : ℕ → Work
  WaitFor : ℕ → Work
  TakeField : (ℕ → Configuration) → Work
  StoreValue : ℕ → Work
  ChangeField : (ℕ → ℕ) → Work
  CompareField : Work
  MoveBytes : Work

-- row by row
abbrev pub work_of : Task → Instruction → Work
work_of task ReadRegister = TakeField (λ x. record (next task.at) { result = Some x })
work_of task ReadRegisterValue = TakeField (λ x. record (next task.at) { result = Some (if x == task.entry.value then 1 else 0) })
work_of task WriteRegister = StoreValue task.given
work_of task WriteRegisterValue = StoreValue task.entry.value
work_of task Noop = GoOn (next task.at)
work_of task LoadVar1 = TakeField (λ x. record (next task.at) { var1 = x })
work_of task LoadVar2 = TakeField (λ x. record (next task.at) { var2 = x })
work_of task StoreVar1 = StoreValue task.at.var1
work_of task Add = GoOn (record (next task.at) { var1 = (task.at.var1 + task.at.var2) % 2 ^ 64 })
work_of task Subtract = GoOn (record (next task.at) { var1 = (task.at.var2 + (2 ^ 64 - task.at.var1)) % 2 ^ 64 })
work_of task AddValue = ChangeField (λ x. (x + task.entry.value) % 2 ^ 64)
work_of task SubtractValue = ChangeField (λ x. (x + (2 ^ 64 - task.entry.value)) % 2 ^ 64)
work_of task Stall = WaitFor task.entry.value
work_of task StallWhileTrue = CompareField
work_of task SkipNextIfTrue = TakeField (λ x. if x == task.entry.value then next (next task.at) else next task.at)
work_of task Goto = GoTo task.entry.value
work_of task SetSourceBase = TakeField (λ x. record (next task.at) { source = x })
work_of task SetTargetBase = TakeField (λ x. record (next task.at) { target = x })
work_of task MoveData = MoveBytes

-- the task's entry has an instruction that does this
pub record HasWork (task : Task) (work : Work) : Type 0 where
  pub instruction : Instruction
  pub code : instruction_of task.entry.code ≡ Some instruction
  pub work_is : work_of task instruction ≡ work

-- NOOP, ADD, SUBTRACT, GOTO and STALL use no register
abbrev pub uses_register : Work → Bool
uses_register (GoOn c) = false
uses_register (GoTo to) = false
uses_register (WaitFor micros) = false
uses_register work = true

-- it reads its field before all else
abbrev pub reads_first : Work → Bool
reads_first (TakeField taken) = true
reads_first (ChangeField changed) = true
reads_first MoveBytes = true
reads_first work = false
