use Rattle.std.proofs.Common.{◌≡◌, ◌-◌, ◌≤◌, length, drop}
use Rattle.ghes_hub.specs.Refusals.{overlaps}
use Rattle.ghes_hub.proofs.clashes.overlaps.Given as goal

abbrev pub invariant-loop-other : goal.invariant-loop-other
invariant-loop-other l = (l.at ≤ length l.fn.others) × (overlaps (drop l.at l.fn.others) l.fn.window ≡ overlaps l.fn.others l.fn.window)

abbrev pub decreases-loop-other : goal.decreases-loop-other
decreases-loop-other l = length l.fn.others - l.at
