-- An execution that goes on without its client.
use Rattle.std.specs.Prelude.{◌≡◌, Bool, true, false, Result, Ok, Err}
use Rattle.erst_entries.specs.Actions.{code_of}
use Rattle.erst_entries.specs.declared.actions.Action.TheVariants.{CheckBusyStatus}
use Rattle.erst_device.specs.DeviceState.{IsStill, IsRunning}
use Rattle.erst_port.specs.Accesses.{ActsOn, with_value}
use Rattle.erst_port.specs.declared.errors.PortError.{PortError}
use Rattle.erst_port.specs.declared.errors.PortError.TheVariants.{BadAccess, Due, Flash}
use Rattle.erst_port.specs.PortState.{PortState, IsMade}

-- the port as one CHECK_BUSY_STATUS leaves it, but VALUE stays. While a change is due, nothing is done
abbrev pub Polls : PortState → Result (Unit {0}) PortError → PortState → Type 0
Polls old (Ok done) new = IsMade old × ((polled : PortState) × ActsOn old (code_of CheckBusyStatus) polled × (new ≡ with_value old.device.value polled))
Polls old (Err Due) new = (IsMade old → ⊥) × (new ≡ old)
Polls old (Err BadAccess) new = ⊥
Polls old (Err Flash) new = ⊥

-- the execution goes on as by one CHECK_BUSY_STATUS, but VALUE stays; or none runs. While a change is due, nothing is done
abbrev pub Settles : PortState → Result Bool PortError → PortState → Type 0
Settles old (Ok true) new = IsRunning old.device × Polls old (Ok tt) new
Settles old (Ok false) new = IsMade old × IsStill old.device × (new ≡ old)
Settles old (Err Due) new = (IsMade old → ⊥) × (new ≡ old)
Settles old (Err BadAccess) new = ⊥
Settles old (Err Flash) new = ⊥
