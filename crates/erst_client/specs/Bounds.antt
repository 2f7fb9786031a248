-- What bounds the accesses of a command: a number that falls with each answer.
use Rattle.std.specs.Prelude.{ℕ, ◌+◌, ◌*◌, ◌==◌, ◌&&◌, not, if◌then◌else◌, List, length, Ok, Err}
use Rattle.erst_entries.specs.declared.actions.Action.TheVariants.{CheckBusyStatus}
use Rattle.erst_entries.specs.declared.entries.Entry.{Entry}
use Rattle.erst_entries.specs.Actions.{code_of}
use Rattle.erst_entries.specs.Programs.{program_of}
use Rattle.erst_interp.specs.declared.states.RunState.{RunState}
use Rattle.erst_interp.specs.declared.states.RunState.TheVariants.{Ready, Awaiting, Ended}
use Rattle.erst_interp.specs.Told.{bound}
use Rattle.erst_client.specs.declared.positions.Position.{Position}
use Rattle.erst_client.specs.declared.stages.Stage.{Stage}
use Rattle.erst_client.specs.declared.stages.Stage.TheVariants.{Requesting, Checking, Waiting, Judging, Ending, Done}
use Rattle.erst_client.specs.declared.writing.Writing.{Writing}
use Rattle.erst_client.specs.declared.writing.Writing.TheVariants.{Record, Mark, Sequence, Refused}

-- CHECK_BUSY_STATUS, of so many entries, has taken a step since it began, or will take none: that step pays for the wait after it
abbrev pub paid : ℕ → RunState → ℕ
paid entries (Ready c) = if c.place == 0 && not (entries == 0) then 0 else 1
paid entries (Awaiting task awaited) = 1
paid entries (Ended (Ok answer)) = 1
paid entries (Ended (Err stop)) = 0

-- 300 are kept back for END_OPERATION, which has 64 steps of its own
abbrev pub bound_in : ℕ → Stage → RunState → ℕ → ℕ → ℕ
bound_in entries (Requesting part) state left kept = 300 + bound state left
bound_in entries (Checking waited) state left kept = 300 + paid entries state + bound state left
bound_in entries (Waiting longer) state left kept = 301 + 4 * kept
bound_in entries Judging state left kept = 300 + bound state left
bound_in entries (Ending outcome) state left kept = bound state left
bound_in entries (Done result) state left kept = 0

-- at least the accesses that the command still makes
abbrev pub bound_of : List Entry → Position → ℕ
bound_of entries at = bound_in (length (program_of (code_of CheckBusyStatus) entries).entries) at.stage at.state at.left at.kept

-- the same of a write, which puts the record and its mark first
abbrev pub write_bound : List Entry → ℕ → Writing → ℕ
write_bound entries steps Record = 302 + 4 * steps
write_bound entries steps Mark = 301 + 4 * steps
write_bound entries steps (Sequence at) = bound_of entries at
write_bound entries steps (Refused error) = 0
