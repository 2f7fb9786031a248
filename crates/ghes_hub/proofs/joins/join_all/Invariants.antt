use Rattle.std.proofs.Common.{◌≡◌, ◌-◌, ◌+◌, ◌≤◌, List, length, take, drop, vec_capacity}
use Rattle.apei_tables.specs.declared.registers.Place.{Place}
use Rattle.apei_space.specs.declared.windows.Window.{Window}
use Rattle.apei_space.specs.Mapped.{IsMapped}
use Rattle.apei_space.specs.Windows.{total}
use Rattle.ghes_hub.specs.Joins.{AreFree}
use Rattle.ghes_hub.proofs.Terms.{AreJoined}
use Rattle.ghes_hub.proofs.joins.join_all.Given as goal

abbrev pub invariant-loop-range : goal.invariant-loop-range
invariant-loop-range l =
    (l.at ≤ length l.fn.ranges) × (length l.windows.items ≤ l.at) × (vec_capacity l.windows ≡ length l.fn.ranges) × (vec_capacity l.next ≡ length l.fn.ranges)
    × (total l.windows.items + total (drop l.at l.fn.ranges) ≡ total l.fn.ranges)
    × ((earlier : List Window) × (AreFree earlier (drop l.at l.fn.ranges) × (AreJoined earlier l.windows.items × ((p : Place) → IsMapped (take l.at l.fn.ranges) p → IsMapped earlier p))))

abbrev pub decreases-loop-range : goal.decreases-loop-range
decreases-loop-range l = length l.fn.ranges - l.at
