-- Names for terms that definitions write out.
use Rattle.ghes_ack.specs.Machine.{Acknowledged, Cleared, Filling, Machine, Published, Reading, Situation}
use Rattle.std.specs.Prelude.{◌+◌, List, ℕ, ◌<◌}
use Rattle.ghes_hub.specs.Plain.{PlainStands, PlainState}
use Rattle.apei_space.specs.RamState.{RamState}
use Rattle.ghes_ack.specs.declared.window_blocks.Blocks.{Blocks}
use Rattle.ghes_ack.specs.declared.ends.Ends.{Ends}
use Rattle.ghes_ack.specs.declared.events.Event.{Event}
use Rattle.ghes_hub.specs.PlainSides.{IsConsistent, Turns}
use Rattle.ghes_hub.specs.declared.plain.map.PlainMap.{PlainMap}
use Rattle.ghes_ack.specs.declared.events.Side.{Side}
use Rattle.ghes_ack.specs.Sides.{handover_of}
use Rattle.ghes_ack.specs.Handovers.{over}
use Rattle.apei_space.specs.Windows.{AreApart}
use Rattle.apei_space.specs.Mapped.{IsMapped}
use Rattle.ghes_hub.specs.Places.{IsOff}
use Rattle.apei_tables.specs.declared.registers.Place.{Place}
use Rattle.apei_space.specs.declared.windows.Window.{Window}
use Rattle.ghes_ack.specs.declared.window.BlockWindow.{BlockWindow}

abbrev pub settled : Machine → Situation → Machine
settled m situation = elim situation [
  | Filling ↦ m
  | Published ↦ m
  | Reading ↦ m
  | Cleared ↦ record m { acknowledged = m.acknowledged + 1; situation = Acknowledged }
  | Acknowledged ↦ m
]

abbrev pub Stands : PlainState → RamState → Type 0
Stands h ram = (m : Machine) × PlainStands h ram m

-- both sides after a turn of one of them
pub record SideDone (side : Side) (event : Event) (ends next : Ends) (old new : Blocks PlainMap) (ram memory : RamState) : Type 0 where
  pub consistent : IsConsistent next new
  pub turns : (m : Machine) → PlainStands (handover_of ends old) ram m
      → Turns side event (over (handover_of ends old) ram) (over (handover_of next new) memory) m

-- windows that are apart hold the bytes of some ranges, and are off what is off those
pub record AreJoined (ranges windows : List Window) : Type 0 where
  pub apart : AreApart windows
  pub off : (at : Place) (n : ℕ) → 0 < n → IsOff ranges at n → IsOff windows at n
  pub mapped : (at : Place) → IsMapped ranges at → IsMapped windows at

abbrev pub plain_window_of : PlainMap → BlockWindow
plain_window_of map = map.window
