use Rattle.std.proofs.Common.{◌≡◌, ◌-◌, ◌≤◌, length, drop}
use Rattle.apei_c.specs.SourceSetups.{untyped}
use Rattle.apei_c.proofs.source_setups.check_types.Given as goal

abbrev pub invariant-loop-one : goal.invariant-loop-one
invariant-loop-one l = (l.index ≤ length l.fn.numbers) × (untyped l.index (drop l.index l.fn.numbers) ≡ untyped 0 l.fn.numbers)

abbrev pub decreases-loop-one : goal.decreases-loop-one
decreases-loop-one l = length l.fn.numbers - l.index
