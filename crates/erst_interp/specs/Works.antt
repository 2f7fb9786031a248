-- The interpreter's own words for what an instruction does, in the words of the table of instructions.
use Rattle.std.specs.Prelude.{ℕ, ◌+◌, ◌-◌, ◌%◌, ◌^◌, ◌==◌, if◌then◌else◌, Some}
use Rattle.erst_interp.specs.declared.configurations.Configuration.{Configuration}
use Rattle.erst_interp.specs.declared.configurations.Task.{Task}
use Rattle.erst_interp.specs.declared.works.Taking.{Taking}
use Rattle.erst_interp.specs.declared.works.Taking.TheVariants.{Result, Comparison, Var1, Var2, Skip, SourceBase, TargetBase}
use Rattle.erst_interp.specs.declared.works.Changing.{Changing}
use Rattle.erst_interp.specs.declared.works.Changing.TheVariants.{AddValue, SubtractValue}
use Rattle.erst_interp.specs.declared.works.FieldUse.{FieldUse}
use Rattle.erst_interp.specs.declared.works.FieldUse.TheVariants.{Take, Change}
use Rattle.erst_interp.specs.declared.works.Access.{Access}
use Rattle.erst_interp.specs.declared.works.Access.TheVariants.{Field, Store, Compare, Copy}
use Rattle.erst_interp.specs.declared.works.Work.{Work as KeptWork}
use Rattle.erst_interp.specs.declared.works.Work.TheVariants.{GoOn as go_on, GoTo as go_to, WaitFor as wait_for, OnRegister as on_register}
use Rattle.erst_interp.specs.Configurations.{next}
use Rattle.erst_interp.specs.Instructions.{Work, GoOn, GoTo, WaitFor, TakeField, StoreValue, ChangeField, CompareField, MoveBytes}

abbrev pub taken : Taking → Task → ℕ → Configuration
taken Result task x = record (next task.at) { result = Some x }
taken Comparison task x = record (next task.at) { result = Some (if x == task.entry.value then 1 else 0) }
taken Var1 task x = record (next task.at) { var1 = x }
taken Var2 task x = record (next task.at) { var2 = x }
taken Skip task x = if x == task.entry.value then next (next task.at) else next task.at
taken SourceBase task x = record (next task.at) { source = x }
taken TargetBase task x = record (next task.at) { target = x }

abbrev pub changed : Changing → Task → ℕ → ℕ
changed AddValue task x = (x + task.entry.value) % 2 ^ 64
changed SubtractValue task x = (x + (2 ^ 64 - task.entry.value)) % 2 ^ 64

abbrev pub use_meaning : FieldUse → Task → Work
use_meaning (Take how) task = TakeField (taken how task)
use_meaning (Change how) task = ChangeField (changed how task)

abbrev pub access_meaning : Access → Task → Work
access_meaning (Field how) task = use_meaning how task
access_meaning (Store value) task = StoreValue value
access_meaning Compare task = CompareField
access_meaning Copy task = MoveBytes

abbrev pub meaning : KeptWork → Task → Work
meaning (go_on c) task = GoOn c
meaning (go_to to) task = GoTo to
meaning (wait_for micros) task = WaitFor micros
meaning (on_register access) task = access_meaning access task
