-- The client that attaching to the machine's own table finds.
use Rattle.std.specs.Prelude.{◌≡◌, ℕ, ◌+◌, ◌*◌, Some, Result, Ok}
use Rattle.erst_client.specs.declared.errors.AttachError.{AttachError}
use Rattle.erst_client.specs.Commands.{ClientState}
use Rattle.erst_device.specs.Actions.{log_range_at}
use Rattle.erst_device.specs.Timings.{most_changes, timings_of}
use Rattle.erst_machine.specs.MachineState.{MachineState, reach_in}
use Rattle.erst_machine.specs.OwnTables.{own_erst}
use Rattle.erst_commands.specs.OwnPrograms.{with_value}

-- the machine's table, its log range, and 10 microseconds a flash change: the most that an execution makes, and those of a new record of
-- at most 256 bytes
abbrev pub own_client : MachineState → ClientState
own_client state = record {
  table = own_erst;
  address = log_range_at;
  range = reach_in state.device;
  timings = Some (10 * most_changes state.device.store.layout, 10 * (state.device.store.layout.per_slot + 4));
}

-- attaching with the steps that its four programs take: it never fails, and all that it leaves is the timings in VALUE
pub record AttachesOwn (budget : ℕ) (first : MachineState) (result : Result ClientState AttachError) (left : ℕ) (last : MachineState) : Type 0 where
  pub result_is : result ≡ Ok (own_client first)
  pub left_is : left + 8 ≡ budget
  pub last_is : last ≡ with_value (timings_of first.device.store.layout) first
