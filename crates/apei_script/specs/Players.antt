-- What is seen of a player, beside its listeners.
use Rattle.std.specs.Prelude.{◌≡◌, ◌⊎◌, ℕ, Option, Some, None, unwrap_or}
use Rattle.erst_client.specs.Commands.{ClientState}
use Rattle.erst_client.specs.Timings.{enough_steps}
use Rattle.erst_device.specs.Timings.{timings_of}
use Rattle.erst_machine.specs.MachineState.{MachineState}
use Rattle.erst_commands.specs.Attached.{own_client}
use Rattle.erst_commands.specs.OwnPrograms.{with_value}
use Rattle.erst_shadow.specs.ShadowCommands.{shadow_client}
use Rattle.erst_bridge.specs.Bridges.{BridgeState, Off}
pub use Rattle.erst_bridge.specs.Bridges.{Asker, asker_of}

-- the machine; the client that was attached first; the client of a table that a line gave, which is in use in its place; the steps
-- that each line is given, none where that is as many as are enough by the client's timings; and the bridge
pub record PlayerState : Type 0 where
  pub machine : MachineState
  pub own : ClientState
  pub other : Option ClientState
  pub steps : Option ℕ
  pub bridge : BridgeState

-- the client that is in use
abbrev pub client_of : PlayerState → ClientState
client_of state = elim state.other [ None ↦ state.own | Some other ↦ other ]

abbrev pub budget_of : PlayerState → ℕ
budget_of state = unwrap_or state.steps (enough_steps (client_of state).timings)

-- the client in use is that of the machine's own table
abbrev pub UsesOwn : PlayerState → Type 0
UsesOwn state = client_of state ≡ own_client state.machine

-- or that of the machine's table whose own programs move the record
abbrev pub UsesShadow : PlayerState → Type 0
UsesShadow state = client_of state ≡ shadow_client state.machine

-- it is one of these two
abbrev pub UsesEither : PlayerState → Type 0
UsesEither state = UsesOwn state ⊎ UsesShadow state

-- no line gave a table but the machine's own two
abbrev pub GivenNoOther : PlayerState → Type 0
GivenNoOther state = (state.other ≡ None) ⊎ (state.other ≡ Some (shadow_client state.machine))

-- the player of a machine right after a client attached to the machine's own table, which leaves its timings in VALUE
abbrev pub own_player : MachineState → Option ℕ → PlayerState
own_player machine steps = record {
  machine = with_value (timings_of machine.device.store.layout) machine;
  own = own_client machine;
  other = None;
  steps = steps;
  bridge = Off;
}
