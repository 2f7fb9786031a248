-- The programs of the table over the machine: two of them move the record, and but for three that tell the log range the others are
-- the machine's own.
use Rattle.std.proofs.Common.{◌≡◌, ℕ, zero, suc, List, [], ◌∷◌, Option, Some, Result, Err, refl, sym, subst, arith}
use Rattle.std.specs.Prelude.{slice_get}
use Rattle.std.proofs.lemmas.Option.{none-some, same_Some}
use Rattle.apei_tables.specs.declared.registers.Register.{Register}
use Rattle.apei_tables.specs.Check.{checked}
use Rattle.erst_entries.specs.declared.actions.Action.{Action}
use Rattle.erst_entries.specs.declared.actions.Action.TheVariants.{ExecuteOperation, GetCommandStatus, GetRecordIdentifier, GetRecordCount}
use Rattle.erst_entries.specs.declared.actions.Action.TheVariants.{GetErrorLogAddressRange, GetErrorLogAddressRangeLength, GetErrorLogAddressRangeAttributes}
use Rattle.erst_entries.specs.declared.entries.Entry.{Entry}
use Rattle.erst_entries.specs.declared.instructions.Instruction.TheVariants.{ReadRegister, WriteRegisterValue}
use Rattle.erst_entries.specs.Actions.{code_of}
use Rattle.erst_entries.specs.Programs.{Listed, entries_of, program_of}
use Rattle.erst_interp.specs.declared.configurations.Configuration.{Configuration}
use Rattle.erst_interp.specs.declared.stops.RunStop.{RunStop}
use Rattle.erst_interp.specs.Accesses.{Store, FieldRead}
use Rattle.erst_interp.specs.Steps.{Halt}
use Rattle.erst_interp.specs.Runs.{Run, task_of}
use Rattle.erst_client.specs.declared.errors.ClientError.{ClientError}
use Rattle.erst_client.specs.Requests.{Performs}
use Rattle.erst_client.specs.Commands.{Counts, Names}
use Rattle.erst_machine.specs.MachineState.{MachineState}
use Rattle.erst_machine.specs.Allowed.{Allows}
use Rattle.erst_machine.specs.OwnTables.{own_entries, act, answer}
use Rattle.erst_shadow.specs.MoveEntries.{move_entries}
use Rattle.erst_shadow.specs.MoveRuns.{move_then}
use Rattle.erst_interp.proofs.StepLemmas.{same_register, halt_by}
use Rattle.erst_interp.proofs.StraightLemmas.{whole_of, refused_of}
use Rattle.erst_shadow.proofs.EntryLemmas.{no_fault}
use Rattle.erst_shadow.proofs.RunLemmas.{moves_first}
use Rattle.erst_shadow.proofs.BehindLemmas.{IsOfItsOwn, StoresValue, TakesRegister, runs_behind}
use Rattle.erst_device.specs.Actions.{log_range_at}
use Rattle.erst_shadow.specs.ShadowTables.{shadow_entries}
use Rattle.erst_shadow.proofs.MoveLemmas.{below_in, below_out, space_in, moved_in, moved_out, first_comes, KeepsRange, space_out}
use Rattle.erst_machine.proofs.Words.{action_at, value_at}
use Rattle.erst_shadow.proofs.Terms.{MovesOn, StopsWithin, HoldsPieces, KeepsOthers, MovesThenExecutes, MovesThenTells, ExecutesMoved, StopsMovingIn, TellsMoved, StopsMovingOut, scratch_at}
use Rattle.erst_shadow.proofs.Serving.{after_rounds}

-- The device's registers refuse nothing

act_goes : (tells : Type 0) (program : Listed) (given : ℕ) (action : Action) (entry : Entry) (c : Configuration) (paid : ℕ) (w : MachineState) (stop : RunStop)
    (left : ℕ) (v : MachineState) → act action ≡ entry
    → Halt (Allows tells) (task_of program given entry c) paid w stop left v → ⊥
act_goes tells program given action entry c paid w stop left v is halt =
    let why = halt_by (Allows tells) (task_of program given (act action) c) WriteRegisterValue refl (λ used. (action_at, refl)) paid w stop left v
    (subst (λ (e : Entry). Halt (Allows tells) (task_of program given e c) paid w stop left v) (sym is) halt) in
    let register : why.0 ≡ action_at = same_register action_at why.0 (checked (act action).region) refl why.2 in
    let wrote = whole_of (Allows tells) action_at (act action) (code_of action) w (Err why.1) v
    (subst (λ (r : Register). Store (Allows tells) r (act action) (code_of action) w (Err why.1) v) register why.3) refl in
    no_fault tt why.1 wrote.0

answer_goes : (tells : Type 0) (program : Listed) (given : ℕ) (action : Action) (mask : ℕ) (entry : Entry) (c : Configuration) (paid : ℕ) (w : MachineState)
    (stop : RunStop) (left : ℕ) (v : MachineState) → answer action mask ≡ entry
    → Halt (Allows tells) (task_of program given entry c) paid w stop left v → ⊥
answer_goes tells program given action mask entry c paid w stop left v is halt =
    let why = halt_by (Allows tells) (task_of program given (answer action mask) c) ReadRegister refl (λ used. (value_at, refl)) paid w stop left v
    (subst (λ (e : Entry). Halt (Allows tells) (task_of program given e c) paid w stop left v) (sym is) halt) in
    let register : why.0 ≡ value_at = same_register value_at why.0 (checked (answer action mask).region) refl why.2 in
    let read = refused_of (Allows tells) value_at mask w (Err why.1) v why.1
    (subst (λ (r : Register). FieldRead (Allows tells) r mask w (Err why.1) v) register why.3) refl in
    no_fault w.device.value why.1 read.0

-- EXECUTE_OPERATION

abbrev execute_tail : List Entry
execute_tail = act ExecuteOperation ∷ []

execute_programs : (pieces : ℕ) → (program_of 0x5 (shadow_entries pieces) ≡ move_then ExecuteOperation scratch_at log_range_at pieces execute_tail)
    × (program_of 0x5 own_entries ≡ record { action = code_of ExecuteOperation; entries = execute_tail })
unfolding shadow_entries own_entries entries_of move_entries
execute_programs pieces = (refl, refl)

execute_entry : (k : ℕ) (entry : Entry) → slice_get execute_tail k ≡ Some entry → act ExecuteOperation ≡ entry
execute_entry zero entry here = same_Some _ _ here
execute_entry (suc k) entry here = absurd (none-some entry here)

execute_is_its_own : (k : ℕ) (entry : Entry) → slice_get execute_tail k ≡ Some entry → IsOfItsOwn entry
execute_is_its_own k entry here = subst (λ (e : Entry). IsOfItsOwn e) (execute_entry k entry here) (StoresValue refl)

pub moves_then_executes : (tells : Type 0) (pieces : ℕ) (first : MachineState) → HoldsPieces first pieces → (given budget : ℕ) (result : Result ℕ RunStop) (left : ℕ) (last : MachineState)
    → Performs (Allows tells) (shadow_entries pieces) ExecuteOperation given budget first result left last → MovesThenExecutes tells pieces given budget first result left last
moves_then_executes tells pieces first room given budget result left last run =
    let ran = moves_first (Allows tells) (KeepsOthers first) scratch_at log_range_at pieces (space_in tells first pieces room)
    (below_in tells first pieces room) ExecuteOperation execute_tail given budget first
    (first_comes tells first pieces room) result left last (subst (λ (p : Listed). Run (Allows tells) p given budget first result left last) (execute_programs pieces).0 run) in
    elim ran as (λ result left last ran. MovesThenExecutes tells pieces given budget first result left last) [
      | StopsWithin last short comes ↦ StopsMovingIn last short comes
      | MovesOn before result left last spent behind ↦
          let mid = after_rounds (space_in tells first pieces room) pieces first in
          let own = runs_behind (Allows tells) scratch_at log_range_at pieces ExecuteOperation execute_tail given before mid execute_is_its_own (omega arith)
          (λ k entry c paid w stop left v here halt. act_goes tells (move_then ExecuteOperation scratch_at log_range_at pieces execute_tail) given
          ExecuteOperation entry c paid w stop left v (execute_entry k entry here) halt) result left last behind in
          ExecutesMoved before mid result left last spent (moved_in tells first pieces room)
          (subst (λ (p : Listed). Run (Allows tells) p given before mid result left last) (sym (execute_programs pieces).1) own)
    ]

-- GET_COMMAND_STATUS

abbrev status_tail : List Entry
status_tail = act GetCommandStatus ∷ answer GetCommandStatus 0xFF ∷ []

status_programs : (pieces : ℕ) → (program_of 0x7 (shadow_entries pieces) ≡ move_then GetCommandStatus log_range_at scratch_at pieces status_tail)
    × (program_of 0x7 own_entries ≡ record { action = code_of GetCommandStatus; entries = status_tail })
unfolding shadow_entries own_entries entries_of move_entries
status_programs pieces = (refl, refl)

status_is_its_own : (k : ℕ) (entry : Entry) → slice_get status_tail k ≡ Some entry → IsOfItsOwn entry
status_is_its_own zero entry here = subst (λ (e : Entry). IsOfItsOwn e) (same_Some _ _ here) (StoresValue refl)
status_is_its_own (suc zero) entry here = subst (λ (e : Entry). IsOfItsOwn e) (same_Some _ _ here) (TakesRegister refl)
status_is_its_own (suc (suc k)) entry here = absurd (none-some entry here)

status_never : (tells : Type 0) (program : Listed) (given : ℕ) (k : ℕ) (entry : Entry) (c : Configuration) (paid : ℕ) (w : MachineState) (stop : RunStop)
    (left : ℕ) (v : MachineState) → slice_get status_tail k ≡ Some entry
    → Halt (Allows tells) (task_of program given entry c) paid w stop left v → ⊥
status_never tells program given zero entry c paid w stop left v here halt = act_goes tells program given GetCommandStatus entry c paid w stop left v (same_Some _ _ here) halt
status_never tells program given (suc zero) entry c paid w stop left v here halt = answer_goes tells program given GetCommandStatus 0xFF entry c paid w stop left v (same_Some _ _ here) halt
status_never tells program given (suc (suc k)) entry c paid w stop left v here halt = absurd (none-some entry here)

pub moves_then_tells : (tells : Type 0) (pieces : ℕ) (first : MachineState) → HoldsPieces first pieces → (given budget : ℕ) (result : Result ℕ RunStop) (left : ℕ) (last : MachineState)
    → Performs (Allows tells) (shadow_entries pieces) GetCommandStatus given budget first result left last → MovesThenTells tells pieces given budget first result left last
moves_then_tells tells pieces first room given budget result left last run =
    let ran = moves_first (Allows tells) (KeepsRange first) log_range_at scratch_at pieces (space_out tells first pieces room)
    (below_out tells first pieces room) GetCommandStatus status_tail given budget first
    (record { comes = first_comes tells first pieces room; kept = refl }) result left last
    (subst (λ (p : Listed). Run (Allows tells) p given budget first result left last) (status_programs pieces).0 run) in
    elim ran as (λ result left last ran. MovesThenTells tells pieces given budget first result left last) [
      | StopsWithin last short stays ↦ StopsMovingOut last short stays.comes stays.kept
      | MovesOn before result left last spent behind ↦
          let mid = after_rounds (space_out tells first pieces room) pieces first in
          let own = runs_behind (Allows tells) log_range_at scratch_at pieces GetCommandStatus status_tail given before mid status_is_its_own (omega arith)
          (λ k entry c paid w stop left v here halt. status_never tells (move_then GetCommandStatus log_range_at scratch_at pieces status_tail) given k entry c
          paid w stop left v here halt) result left last behind in
          TellsMoved before mid result left last spent (moved_out tells first pieces room)
          (subst (λ (p : Listed). Run (Allows tells) p given before mid result left last) (sym (status_programs pieces).1) own)
    ]

-- The others

-- what has the machine's own program
abbrev pub IsCommon : Action → Type 0
IsCommon ExecuteOperation = ⊥
IsCommon GetCommandStatus = ⊥
IsCommon GetErrorLogAddressRange = ⊥
IsCommon GetErrorLogAddressRangeLength = ⊥
IsCommon GetErrorLogAddressRangeAttributes = ⊥
IsCommon action = Unit {0}

pub common_program : (pieces : ℕ) (action : Action) → IsCommon action → program_of (code_of action) (shadow_entries pieces) ≡ program_of (code_of action) own_entries
unfolding shadow_entries own_entries entries_of move_entries
common_program pieces ExecuteOperation is = absurd is
common_program pieces GetCommandStatus is = absurd is
common_program pieces GetErrorLogAddressRange is = absurd is
common_program pieces GetErrorLogAddressRangeLength is = absurd is
common_program pieces GetErrorLogAddressRangeAttributes is = absurd is
common_program pieces action is = refl

pub performs_own : (tells : Type 0) (pieces : ℕ) (action : Action) → IsCommon action → (given budget : ℕ) (first : MachineState) (result : Result ℕ RunStop) (left : ℕ) (last : MachineState)
    → Performs (Allows tells) (shadow_entries pieces) action given budget first result left last → Performs (Allows tells) own_entries action given budget first result left last
performs_own tells pieces action is given budget first result left last run = subst (λ (p : Listed). Run (Allows tells) p given budget first result left last) (common_program pieces action is) run

pub own_count : (tells : Type 0) (pieces budget : ℕ) (first : MachineState) (result : Result ℕ ClientError) (left : ℕ) (last : MachineState) →
    Counts (Allows tells) (shadow_entries pieces) budget first result left last
    → Counts (Allows tells) own_entries budget first result left last
own_count tells pieces budget first result left last counts =
    record { answer = counts.answer; asks = performs_own tells pieces GetRecordCount tt 0 budget first counts.answer left last counts.asks; result_is = counts.result_is }

pub own_next : (tells : Type 0) (pieces budget : ℕ) (first : MachineState) (result : Result (Option ℕ) ClientError) (left : ℕ) (last : MachineState) →
    Names (Allows tells) (shadow_entries pieces) budget first result left last
    → Names (Allows tells) own_entries budget first result left last
own_next tells pieces budget first result left last names =
    record { answer = names.answer; asks = performs_own tells pieces GetRecordIdentifier tt 0 budget first names.answer left last names.asks; result_is = names.result_is }
