-- A run of a program that begins with a move, over any space that has what a move needs.
use Rattle.std.specs.Prelude.{ℕ, ◌+◌, ◌*◌, List, ◌++◌}
use Rattle.erst_entries.specs.declared.actions.Action.{Action}
use Rattle.erst_entries.specs.declared.entries.Entry.{Entry}
use Rattle.erst_entries.specs.Actions.{code_of}
use Rattle.erst_entries.specs.Programs.{Listed}
use Rattle.erst_shadow.specs.MoveEntries.{move_entries}

-- the program of an action: a move of so many pieces, and the entries behind it
abbrev pub move_then : Action → (from target count : ℕ) → List Entry → Listed
move_then action from target count behind = record { action = code_of action; entries = move_entries action from target (128 * count) ++ behind }

-- the steps of such a move: 7 before the rounds, and 8 a round, of which MOVE_DATA has 3. The last round leaves out its GOTO
abbrev pub move_steps : ℕ → ℕ
move_steps count = 8 * count + 6
