-- A move over plain memory.
use Rattle.std.specs.Prelude.{◌≡◌, ◌⊎◌, ℕ, ◌+◌, ◌*◌, ◌<◌, ◌≤◌, [], length, Some, Result, Ok, Err}
use Rattle.base_model.specs.Bytes.{part}
use Rattle.apei_tables.specs.declared.registers.Place.TheVariants.{Memory}
use Rattle.apei_space.specs.Windows.{location}
use Rattle.apei_space.specs.RamState.{RamState, FillsWindows, Allows}
use Rattle.erst_entries.specs.declared.actions.Action.{Action}
use Rattle.erst_interp.specs.declared.stops.RunStop.{RunStop}
use Rattle.erst_interp.specs.declared.stops.RunStop.TheVariants.{Budget}
use Rattle.erst_interp.specs.Runs.{Run}
use Rattle.erst_shadow.specs.MoveSpaces.{AreAddressable}
use Rattle.erst_shadow.specs.MoveRuns.{move_then, move_steps}

-- n bytes at one index and m at another have none in common
abbrev pub ShareNone : (at n other m : ℕ) → Type 0
ShareNone at n other m = (at + n ≤ other) ⊎ (other + m ≤ at)

-- a move: from an address to another, of so many pieces of 128 bytes
pub record Move : Type 0 where
  pub from : ℕ
  pub target : ℕ
  pub count : ℕ

-- where in the memory's bytes lie what is copied, the place where it goes, and the four registers
pub record Places : Type 0 where
  pub source : ℕ
  pub sink : ℕ
  pub registers : ℕ

-- the memory holds all three, the registers being 32 bytes, and no two of the three have a byte in common
pub record HoldsMove (ram : RamState) (move : Move) (at : Places) : Type 0 where
  pub fills : FillsWindows ram
  pub below : AreAddressable move.from move.target move.count
  pub source_room : ℕ
  pub sink_room : ℕ
  pub register_room : ℕ
  pub source_is : location ram.windows 0 (Memory move.from) ≡ Some (at.source, source_room)
  pub sink_is : location ram.windows 0 (Memory move.target) ≡ Some (at.sink, sink_room)
  pub registers_are : location ram.windows 0 (Memory 0x1F80) ≡ Some (at.registers, register_room)
  pub source_fits : 128 * move.count ≤ source_room
  pub sink_fits : 128 * move.count ≤ sink_room
  pub registers_fit : 32 ≤ register_room
  pub apart : ShareNone at.source (128 * move.count) at.sink (128 * move.count)
  pub source_apart : ShareNone at.source (128 * move.count) at.registers 32
  pub sink_apart : ShareNone at.sink (128 * move.count) at.registers 32

-- so many bytes were copied, and each stretch of bytes beside their target and beside the registers is as it was
pub record HasCopied (first last : RamState) (size : ℕ) (at : Places) : Type 0 where
  pub windows : last.windows ≡ first.windows
  pub waited : last.waited ≡ first.waited
  pub as_long : length last.bytes ≡ length first.bytes
  pub copied : part last.bytes at.sink size ≡ part first.bytes at.source size
  pub others : (place n : ℕ) → ShareNone place n at.sink size → ShareNone place n at.registers 32 → part last.bytes place n ≡ part first.bytes place n

-- a run of a move alone, by an action's program: the value that it is given, its budget of steps, the memory before it, its answer, and the
-- steps that are left and the memory behind it
pub record MoveRun : Type 0 where
  pub action : Action
  pub move : Move
  pub given : ℕ
  pub budget : ℕ
  pub first : RamState
  pub answer : Result ℕ RunStop
  pub left : ℕ
  pub last : RamState

abbrev pub IsMoveRun : MoveRun → Type 0
IsMoveRun run =
    Run Allows (move_then run.action run.move.from run.move.target run.move.count []) run.given run.budget run.first run.answer run.left run.last

-- it copies all its pieces, takes exactly its steps and answers the given value; or its steps run out within it
pub data CopiesOrStops (run : MoveRun) (at : Places) : Type 0 where
  Copies : run.answer ≡ Ok run.given → HasCopied run.first run.last (128 * run.move.count) at → run.left + move_steps run.move.count ≡ run.budget
      → CopiesOrStops run at
  RunsShort : run.answer ≡ Err Budget → run.left ≡ 0 → run.budget < move_steps run.move.count → CopiesOrStops run at
