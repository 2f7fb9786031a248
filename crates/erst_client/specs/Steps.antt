-- How many steps a command takes by a table of straight programs, each of whose instructions takes one step.
use Rattle.std.specs.Prelude.{ℕ, ◌+◌, ◌*◌, List, length, sum_by}
use Rattle.erst_entries.specs.declared.actions.Action.{Action}
use Rattle.erst_entries.specs.declared.actions.Action.TheVariants.{CheckBusyStatus, GetCommandStatus}
use Rattle.erst_entries.specs.declared.entries.Entry.{Entry}
use Rattle.erst_entries.specs.Actions.{code_of}
use Rattle.erst_entries.specs.Programs.{entries_of}
use Rattle.erst_client.specs.declared.requests.Request.{Request}

abbrev pub steps_of : List Entry → Action → ℕ
steps_of entries action = length (entries_of (code_of action) entries)

-- the steps of a sequence in which CHECK_BUSY_STATUS runs so many times; END_OPERATION has its own
abbrev pub steps_needed : List Entry → List Request → ℕ → ℕ
steps_needed entries requests checks =
    sum_by (λ request. steps_of entries request.action) requests + checks * steps_of entries CheckBusyStatus + steps_of entries GetCommandStatus
