-- A bridge and the reader whose turns it makes.
use Rattle.std.specs.Prelude.{◌≡◌, ◌+◌}
use Rattle.ghes_ack.specs.declared.events.Event.{Event}
use Rattle.ghes_ack.specs.declared.events.Event.TheVariants.{Clear, Ack}
use Rattle.ghes_ack.specs.Machine.{Machine, Reading, last_taken}
use Rattle.erst_bridge.specs.declared.events.BridgeEvent.{BridgeEvent}
use Rattle.erst_bridge.specs.declared.events.BridgeEvent.TheVariants.{Line}
use Rattle.erst_bridge.specs.Bridges.{BridgeState, Off, Awaits, Holds, Releases}

-- where a block is awaited, each one that was taken is acknowledged; the block that is held is the one taken last, and the reader still
-- reads it; behind the storing, one block is taken and not acknowledged
abbrev pub IsInStep : BridgeState → Machine → Type 0
IsInStep Off m = Unit {0}
IsInStep (Awaits id) m = m.taken ≡ m.acknowledged
IsInStep (Holds id block) m = (m.taken ≡ m.acknowledged + 1) × (m.situation ≡ Reading) × (block ≡ last_taken m)
IsInStep (Releases id) m = m.taken ≡ m.acknowledged + 1

-- the two turns by which the reader gives a block back
abbrev pub GivesBack : Event → Type 0
GivesBack Clear = Unit {0}
GivesBack Ack = Unit {0}
GivesBack event = ⊥

-- the reader gives a block back behind the storing of its record, and there it does nothing else; while the block is held it does nothing
abbrev pub IsInOrder : BridgeState → BridgeEvent → Type 0
IsInOrder (Awaits id) (Line Clear) = ⊥
IsInOrder (Awaits id) (Line Ack) = ⊥
IsInOrder (Holds id block) (Line event) = ⊥
IsInOrder (Releases id) (Line event) = GivesBack event
IsInOrder bridge event = Unit {0}
