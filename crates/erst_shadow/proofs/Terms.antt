-- What the moves do, as proofs name it.
use Rattle.std.specs.Prelude.{ℕ, false, None, ◌≡◌, ◌+◌, slice_get, Some, ◌<◌, ◌≤◌, length, unwrap_or, Result, Ok, Err, ◌*◌, List}
use Rattle.erst_interp.specs.declared.configurations.Configuration.{Configuration}
use Rattle.apei_space.specs.Calls.{Call}
use Rattle.erst_entries.specs.declared.entries.Entry.{Entry}
use Rattle.erst_entries.specs.Programs.{Listed}
use Rattle.erst_interp.specs.Steps.{Step, Halt}
use Rattle.erst_interp.specs.Runs.{task_of}
use Rattle.erst_interp.specs.declared.stops.RunStop.{RunStop}
use Rattle.erst_interp.specs.declared.stops.RunStop.TheVariants.{Budget}
use Rattle.erst_entries.specs.declared.actions.Action.{Action}
use Rattle.erst_shadow.specs.MoveRuns.{move_then, move_steps}
use Rattle.erst_machine.specs.Areas.{scratch_len, base_of}
use Rattle.erst_machine.specs.MachineState.{MachineState}
use Rattle.erst_shadow.specs.ShadowMoves.{AgreesElsewhere}
use Rattle.base_model.specs.Bytes.{part, put_at}
use Rattle.erst_entries.specs.declared.actions.Action.TheVariants.{ExecuteOperation, GetCommandStatus}
use Rattle.erst_client.specs.Requests.{Performs}
use Rattle.erst_machine.specs.Allowed.{Allows}
use Rattle.erst_machine.specs.OwnTables.{own_entries}
use Rattle.erst_client.specs.declared.errors.ClientError.{ClientError}
use Rattle.erst_client.specs.declared.errors.ClientError.TheVariants.{Stopped, Late}
use Rattle.erst_machine.specs.declared.areas.Area.TheVariants.{Scratch}
use Rattle.erst_shadow.proofs.Serving.{ServesMove, after_rounds}

-- a configuration in which nothing was answered yet
abbrev pub standing : (place var1 var2 source target : ℕ) → Configuration
standing place var1 var2 source target = record { place = place; result = None; var1 = var1; var2 = var2; source = source; target = target; stalling = false }

-- the instructions of a program from a configuration on, one after another
pub data WalkFrom {W : Type 0} (allows : W → Call → W → Type 0) (program : Listed) (given : ℕ) (start : Configuration) (budget : ℕ) (first : W) : ℕ → Configuration → W → Type 0 where
  Begun : WalkFrom allows program given start budget first budget start first
  Then : (left : ℕ) (c : Configuration) (mid : W) (entry : Entry) (d : Configuration) (more after : ℕ) (new : W) →
      WalkFrom allows program given start budget first left c mid → slice_get program.entries c.place ≡ Some entry →
      Step allows (task_of program given entry c) mid d more new → after + more + 1 ≡ left → WalkFrom allows program given start budget first after d new

-- how they end
pub data RunFrom {W : Type 0} (allows : W → Call → W → Type 0) (program : Listed) (given : ℕ) (start : Configuration) (budget : ℕ) (first : W) : Result ℕ RunStop → ℕ → W → Type 0 where
  Finishes : (left : ℕ) (c : Configuration) (last : W) → WalkFrom allows program given start budget first left c last → length program.entries ≤ c.place →
      RunFrom allows program given start budget first (Ok (unwrap_or c.result given)) left last
  Exhausted : (c : Configuration) (last : W) → WalkFrom allows program given start budget first 0 c last → c.place < length program.entries →
      RunFrom allows program given start budget first (Err Budget) 0 last
  Halts : (paid : ℕ) (c : Configuration) (mid : W) (entry : Entry) (stop : RunStop) (left : ℕ) (last : W) →
      WalkFrom allows program given start budget first (paid + 1) c mid → slice_get program.entries c.place ≡ Some entry →
      Halt allows (task_of program given entry c) paid mid stop left last → RunFrom allows program given start budget first (Err stop) left last

-- the move is made, and the entries behind it run from place 13 on with the steps that are left; or the steps run out within the move
pub data MovesFirst {W : Type 0} {allows : W → Call → W → Type 0} {fits : W → Type 0} {from target count : ℕ} (space : ServesMove allows fits from target count) (action : Action) (behind : List Entry)
    (given budget : ℕ) (first : W) : Result ℕ RunStop → ℕ → W → Type 0 where
  MovesOn : (before : ℕ) (answer : Result ℕ RunStop) (left : ℕ) (last : W) → before + move_steps count ≡ budget →
      RunFrom allows (move_then action from target count behind) given (standing 13 (128 * count) 128 from target) before (after_rounds space count first) answer left last →
      MovesFirst space action behind given budget first answer left last
  StopsWithin : (last : W) → budget < move_steps count → fits last → MovesFirst space action behind given budget first (Err Budget) 0 last

-- both memories have room for so many pieces, the scratch memory below the registers of a move
pub record HoldsPieces (state : MachineState) (pieces : ℕ) : Type 0 where
  pub scratch : length state.memory.scratch ≡ scratch_len
  pub range : 128 * pieces ≤ length state.memory.range
  pub small : length state.memory.range ≤ 65536
  pub some : 0 < pieces
  pub few : pieces ≤ 31

-- a move changes no other thing than the bytes of the two memories
pub record KeepsOthers (first last : MachineState) : Type 0 where
  pub range : length last.memory.range ≡ length first.memory.range
  pub scratch : length last.memory.scratch ≡ scratch_len
  pub elsewhere : AgreesElsewhere last first

-- the log range of a machine once the record of its scratch memory was moved into it
abbrev pub range_with_record : (pieces : ℕ) → MachineState → List ℕ
range_with_record pieces state = put_at state.memory.range 0 (part state.memory.scratch 0 (128 * pieces))

pub record MovedIn (pieces : ℕ) (first last : MachineState) : Type 0 where
  pub others : KeepsOthers first last
  pub moved : last.memory.range ≡ range_with_record pieces first

-- the scratch memory begins with what the log range begins with, which stays
pub record MovedOut (pieces : ℕ) (first last : MachineState) : Type 0 where
  pub others : KeepsOthers first last
  pub moved : part last.memory.scratch 0 (128 * pieces) ≡ part first.memory.range 0 (128 * pieces)
  pub kept : last.memory.range ≡ first.memory.range

-- EXECUTE_OPERATION: the record is moved in, and the machine's own program runs with the steps that are left; or they run out before
pub data MovesThenExecutes (tells : Type 0) (pieces given budget : ℕ) (first : MachineState) : Result ℕ RunStop → ℕ → MachineState → Type 0 where
  ExecutesMoved : (spare : ℕ) (mid : MachineState) (answer : Result ℕ RunStop) (left : ℕ) (last : MachineState) → spare + move_steps pieces ≡ budget → MovedIn pieces first mid
      → Performs (Allows tells) own_entries ExecuteOperation given spare mid answer left last → MovesThenExecutes tells pieces given budget first answer left last
  StopsMovingIn : (last : MachineState) → budget < move_steps pieces → KeepsOthers first last → MovesThenExecutes tells pieces given budget first (Err Budget) 0 last

-- GET_COMMAND_STATUS: the record is moved out first
pub data MovesThenTells (tells : Type 0) (pieces given budget : ℕ) (first : MachineState) : Result ℕ RunStop → ℕ → MachineState → Type 0 where
  TellsMoved : (spare : ℕ) (mid : MachineState) (answer : Result ℕ RunStop) (left : ℕ) (last : MachineState) → spare + move_steps pieces ≡ budget → MovedOut pieces first mid
      → Performs (Allows tells) own_entries GetCommandStatus given spare mid answer left last → MovesThenTells tells pieces given budget first answer left last
  StopsMovingOut : (last : MachineState) → budget < move_steps pieces → KeepsOthers first last → last.memory.range ≡ first.memory.range →
      MovesThenTells tells pieces given budget first (Err Budget) 0 last

-- a sequence was cut short: a program stopped, or the firmware was busy for too long
abbrev pub IsCutShort : ClientError → Type 0
IsCutShort error = elim error as (λ _. Type 0) [ Stopped stop ↦ Unit {0} | Late waited ↦ Unit {0} | other ↦ ⊥ ]

-- where the scratch memory begins
abbrev pub scratch_at : ℕ
scratch_at = base_of Scratch
