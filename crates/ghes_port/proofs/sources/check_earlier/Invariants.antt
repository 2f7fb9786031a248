use Rattle.std.proofs.Common.{◌≡◌, ◌-◌, ◌≤◌, length, drop}
use Rattle.ghes_port.specs.Setups.{earlier_fault}
use Rattle.ghes_port.proofs.sources.check_earlier.Given as goal

abbrev pub invariant-loop-one : goal.invariant-loop-one
invariant-loop-one l = (l.at ≤ length l.fn.earlier) × (earlier_fault l.fn.index (drop l.at l.fn.earlier) l.fn.id l.fn.map ≡ earlier_fault l.fn.index l.fn.earlier l.fn.id l.fn.map)

abbrev pub decreases-loop-one : goal.decreases-loop-one
decreases-loop-one l = length l.fn.earlier - l.at
