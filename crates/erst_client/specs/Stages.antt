-- The stages of a command, and what follows on each run of a program.
use Rattle.std.specs.Prelude.{ℕ, ◌+◌, ◌^◌, ◌==◌, nat_le, if◌then◌else◌, Bool, true, List, [], ◌∷◌, Option, Some, None, Result, Ok, Err}
use Rattle.erst_entries.specs.declared.actions.Action.TheVariants.{BeginWriteOperation, BeginReadOperation, BeginClearOperation, BeginDummyWriteOperation}
use Rattle.erst_entries.specs.declared.actions.Action.TheVariants.{SetRecordOffset, SetRecordIdentifier, ExecuteOperation, CheckBusyStatus, GetCommandStatus}
use Rattle.erst_entries.specs.declared.actions.Action.TheVariants.{EndOperation}
use Rattle.erst_interp.specs.declared.stops.RunStop.{RunStop}
use Rattle.erst_client.specs.declared.errors.ClientError.TheVariants.{Stopped, Late}
use Rattle.erst_client.specs.declared.requests.Request.{Request}
use Rattle.erst_client.specs.declared.stages.Command.{Command}
use Rattle.erst_client.specs.declared.stages.Command.TheVariants.{Write, Read, Clear, Dummy}
use Rattle.erst_client.specs.declared.stages.Part.{Part}
use Rattle.erst_client.specs.declared.stages.Part.TheVariants.{Begin, Offset, Identifier, Execute}
use Rattle.erst_client.specs.declared.stages.Stage.{Stage}
use Rattle.erst_client.specs.declared.stages.Stage.TheVariants.{Requesting, Checking, Waiting, Judging, Ending, Done}
use Rattle.erst_client.specs.Sequences.{judged, write_requests, read_requests, clear_requests, dummy_requests}

abbrev pub requests_of : Command → List Request
requests_of Write = write_requests
requests_of (Read id) = read_requests id
requests_of (Clear id) = clear_requests id
requests_of Dummy = dummy_requests

abbrev pub identifier : Command → ℕ
identifier Write = 0
identifier (Read id) = id
identifier (Clear id) = id
identifier Dummy = 0

abbrev pub request_of : Command → Part → Request
request_of Write Begin = record { action = BeginWriteOperation; given = 0 }
request_of (Read id) Begin = record { action = BeginReadOperation; given = 0 }
request_of (Clear id) Begin = record { action = BeginClearOperation; given = 0 }
request_of Dummy Begin = record { action = BeginDummyWriteOperation; given = 0 }
request_of command Offset = record { action = SetRecordOffset; given = 0 }
request_of command Identifier = record { action = SetRecordIdentifier; given = identifier command }
request_of command Execute = record { action = ExecuteOperation; given = 0 }

abbrev pub next_part : Command → Part → Option Part
next_part Write Begin = Some Offset
next_part (Read id) Begin = Some Offset
next_part (Clear id) Begin = Some Identifier
next_part Dummy Begin = Some Offset
next_part Write Offset = Some Execute
next_part (Read id) Offset = Some Identifier
next_part (Clear id) Offset = Some Execute
next_part Dummy Offset = Some Execute
next_part command Identifier = Some Execute
next_part command Execute = None

-- the requests after one
abbrev pub rest_of : Command → Part → List Request
rest_of Write Begin = request_of Write Offset ∷ request_of Write Execute ∷ []
rest_of (Read id) Begin = request_of (Read id) Offset ∷ request_of (Read id) Identifier ∷ request_of (Read id) Execute ∷ []
rest_of (Clear id) Begin = request_of (Clear id) Identifier ∷ request_of (Clear id) Execute ∷ []
rest_of Dummy Begin = request_of Dummy Offset ∷ request_of Dummy Execute ∷ []
rest_of Write Offset = request_of Write Execute ∷ []
rest_of (Read id) Offset = request_of (Read id) Identifier ∷ request_of (Read id) Execute ∷ []
rest_of (Clear id) Offset = request_of (Clear id) Execute ∷ []
rest_of Dummy Offset = request_of Dummy Execute ∷ []
rest_of command Identifier = request_of command Execute ∷ []
rest_of command Execute = []

abbrev pub request_for : Command → Stage → Option Request
request_for command (Requesting part) = Some (request_of command part)
request_for command (Checking waited) = Some (record { action = CheckBusyStatus; given = 0 })
request_for command (Waiting longer) = None
request_for command Judging = Some (record { action = GetCommandStatus; given = 0 })
request_for command (Ending outcome) = Some (record { action = EndOperation; given = 0 })
request_for command (Done result) = None

-- the firmware is busy: a client that knows its timings waits 10 microseconds, unless it passed the greatest time then
abbrev pub busy : Option (ℕ × ℕ) → ℕ → Stage
busy None waited = Waiting waited
busy (Some known) waited = if nat_le (waited + 10) known.0 then Waiting (waited + 10) else Ending (Err (Late waited))

abbrev pub asked : Option Part → Stage
asked None = Checking 0
asked (Some part) = Requesting part

-- the stage after a run that answered
abbrev pub heard : Command → Option (ℕ × ℕ) → Stage → ℕ → Stage
heard command timings (Requesting part) number = asked (next_part command part)
heard command timings (Checking waited) number = if number == 0 then Judging else busy timings waited
heard command timings Judging number = Ending (judged number)
heard command timings (Ending outcome) number = Done outcome
heard command timings (Waiting longer) number = Waiting longer
heard command timings (Done result) number = Done result

-- and after one that stopped: END_OPERATION runs all the same
abbrev pub stopped : Stage → RunStop → Stage
stopped (Requesting part) stop = Ending (Err (Stopped stop))
stopped (Checking waited) stop = Ending (Err (Stopped stop))
stopped Judging stop = Ending (Err (Stopped stop))
stopped (Ending (Ok done)) stop = Done (Err (Stopped stop))
stopped (Ending (Err error)) stop = Done (Err error)
stopped (Waiting longer) stop = Waiting longer
stopped (Done result) stop = Done result

abbrev pub turned : Command → Option (ℕ × ℕ) → Stage → Result ℕ RunStop → Stage
turned command timings stage (Ok number) = heard command timings stage number
turned command timings stage (Err stop) = stopped stage stop

-- what was waited has 32 bits, or is the least number that has not
abbrev pub is_bounded : Stage → Bool
is_bounded (Checking waited) = nat_le waited (2 ^ 32)
is_bounded (Waiting longer) = nat_le longer (2 ^ 32)
is_bounded stage = true
