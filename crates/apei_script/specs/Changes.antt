-- The flash changes of whatever happens to a machine, where the flash fails nothing.
use Rattle.std.specs.Prelude.{ℕ, ◌+◌, ◌/◌, ◌%◌, ◌^◌, List, [], ◌∷◌}
use Rattle.record_store.specs.Answers.{copies_in}
use Rattle.apei_tables.specs.Access.{bits}
use Rattle.apei_space.specs.Calls.{Write}
use Rattle.apei_space.specs.Accesses.{Move}
use Rattle.erst_entries.specs.Actions.{action_of}
use Rattle.erst_device.specs.Effects.{changes_of_action}
use Rattle.erst_machine.specs.declared.areas.Area.TheVariants.{Device}
use Rattle.erst_machine.specs.declared.areas.Location.TheVariants.{Inside}
use Rattle.erst_machine.specs.declared.areas.Register.TheVariants.{Action}
use Rattle.erst_machine.specs.Areas.{register_at}
use Rattle.erst_machine.specs.MachineState.{MachineState, location_of}
use Rattle.erst_machine.specs.Events.{Event, Accessed, Warmed, Powered}

-- Of whatever happens: of the accesses only the write of a code in ACTION makes some, and a restart ends a second copy where one stands, by
-- one change
abbrev pub changes_by_event : MachineState → Event → ℕ
changes_by_event state (Accessed (Write at width value answer)) =
    elim (location_of state at (bits width / 8)) [
      | Inside Device start ↦ elim (register_at start width) [
        | Action ↦ changes_of_action (action_of (value % 2 ^ 32)) state.device state.memory.range
        | other ↦ 0
      ]
      | other ↦ 0
    ]
changes_by_event state (Warmed result) = copies_in state.device.store
changes_by_event state (Powered result) = copies_in state.device.store
changes_by_event state event = 0

-- of one thing after another
abbrev pub changes_along : MachineState → List (Move Event MachineState) → ℕ
changes_along state [] = 0
changes_along state (move ∷ rest) = changes_by_event state move.event + changes_along move.left rest
