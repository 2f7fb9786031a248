-- When a turn of a bridge may answer a device's fault: only where the count of faults of its space rose.
use Rattle.std.specs.Prelude.{ℕ}
use Rattle.erst_client.specs.Causes.{OfError}
use Rattle.erst_bridge.specs.declared.events.BridgeEvent.{BridgeEvent}
use Rattle.erst_bridge.specs.declared.events.BridgeEvent.TheVariants.{Line, Stored, Kept, Out}

abbrev pub OfEvent : ℕ → ℕ → BridgeEvent → Type 0
OfEvent before after (Line event) = Unit {0}
OfEvent before after (Stored id) = Unit {0}
OfEvent before after (Kept error) = OfError before after error
OfEvent before after Out = Unit {0}
