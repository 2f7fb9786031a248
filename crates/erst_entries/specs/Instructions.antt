-- The serialization instructions (ACPI 6.4, section 18.5.1.2): their codes, and the standard's names.
use Rattle.std.specs.Prelude.{ℕ, List, [], ◌∷◌, Option, slice_get, codes}
use Rattle.erst_entries.specs.declared.instructions.Instruction.{Instruction}
use Rattle.erst_entries.specs.declared.instructions.Instruction.TheVariants.{ReadRegister, ReadRegisterValue, WriteRegister, WriteRegisterValue, Noop, LoadVar1}
use Rattle.erst_entries.specs.declared.instructions.Instruction.TheVariants.{LoadVar2, StoreVar1, Add, Subtract, AddValue, SubtractValue, Stall, StallWhileTrue}
use Rattle.erst_entries.specs.declared.instructions.Instruction.TheVariants.{SkipNextIfTrue, Goto, SetSourceBase, SetTargetBase, MoveData}

-- the instruction of a code: they stand in the order of their codes, from 0 on
abbrev pub instruction_of : ℕ → Option Instruction
instruction_of code =
    slice_get (
    ReadRegister ∷ ReadRegisterValue ∷ WriteRegister ∷ WriteRegisterValue ∷ Noop ∷ LoadVar1 ∷ LoadVar2 ∷ StoreVar1 ∷ Add ∷ Subtract
    ∷ AddValue ∷ SubtractValue ∷ Stall ∷ StallWhileTrue ∷ SkipNextIfTrue ∷ Goto ∷ SetSourceBase ∷ SetTargetBase ∷ MoveData ∷ []) code

abbrev pub instruction_name : Instruction → List ℕ
instruction_name = elim [
  | ReadRegister ↦ codes "READ_REGISTER"
  | ReadRegisterValue ↦ codes "READ_REGISTER_VALUE"
  | WriteRegister ↦ codes "WRITE_REGISTER"
  | WriteRegisterValue ↦ codes "WRITE_REGISTER_VALUE"
  | Noop ↦ codes "NOOP"
  | LoadVar1 ↦ codes "LOAD_VAR1"
  | LoadVar2 ↦ codes "LOAD_VAR2"
  | StoreVar1 ↦ codes "STORE_VAR1"
  | Add ↦ codes "ADD"
  | Subtract ↦ codes "SUBTRACT"
  | AddValue ↦ codes "ADD_VALUE"
  | SubtractValue ↦ codes "SUBTRACT_VALUE"
  | Stall ↦ codes "STALL"
  | StallWhileTrue ↦ codes "STALL_WHILE_TRUE"
  | SkipNextIfTrue ↦ codes "SKIP_NEXT_INSTRUCTION_IF_TRUE"
  | Goto ↦ codes "GOTO"
  | SetSourceBase ↦ codes "SET_SRC_ADDRESS_BASE"
  | SetTargetBase ↦ codes "SET_DST_ADDRESS_BASE"
  | MoveData ↦ codes "MOVE_DATA"
]
