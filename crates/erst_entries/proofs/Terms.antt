-- Lists that proofs name.
use Rattle.std.specs.Prelude.{List, [], ◌∷◌, codes, ◌≡◌, ℕ, ◌<◌, slice_index, map}
use Rattle.erst_entries.specs.declared.instructions.Instruction.{Instruction}
use Rattle.erst_entries.specs.declared.instructions.Instruction.TheVariants.{ReadRegister, ReadRegisterValue, WriteRegister, WriteRegisterValue, Noop, LoadVar1}
use Rattle.erst_entries.specs.declared.instructions.Instruction.TheVariants.{LoadVar2, StoreVar1, Add, Subtract, AddValue, SubtractValue, Stall, StallWhileTrue}
use Rattle.erst_entries.specs.declared.instructions.Instruction.TheVariants.{SkipNextIfTrue, Goto, SetSourceBase, SetTargetBase, MoveData}
use Rattle.erst_entries.specs.declared.entries.Entry.{Entry}
use Rattle.erst_entries.specs.Groups.{below}
use Rattle.base_model.specs.Bytes.{joined}
use Rattle.erst_entries.specs.Layout.{entry_spelling}

-- in the order of their codes, from 0 on
abbrev pub instructions : List Instruction
instructions =
    ReadRegister ∷ ReadRegisterValue ∷ WriteRegister ∷ WriteRegisterValue ∷ Noop ∷ LoadVar1 ∷ LoadVar2 ∷ StoreVar1 ∷ Add ∷ Subtract
    ∷ AddValue ∷ SubtractValue ∷ Stall ∷ StallWhileTrue ∷ SkipNextIfTrue ∷ Goto ∷ SetSourceBase ∷ SetTargetBase ∷ MoveData ∷ []

-- the place of each action's first entry, behind those of lower actions
abbrev pub AreStarts : List Entry → List ℕ → Type 0
AreStarts entries starts = (action : ℕ) → action < 256 → slice_index starts action ≡ below action entries

-- the signature of a table
abbrev pub signature : List ℕ
signature = codes "ERST"

-- entries one after another
abbrev pub entries_spelling : List Entry → List ℕ
entries_spelling entries = joined (map entry_spelling entries)
