use Rattle.std.proofs.Common.{◌≡◌, ◌-◌}
use Rattle.cper_frame.specs.Reading.{misplaced_from}
use Rattle.cper_frame.proofs.record.first_outside.Given as goal

abbrev pub invariant-loop-index : goal.invariant-loop-index
invariant-loop-index l =
    misplaced_from l.bytes l.first l.last (l.sections - l.index) l.index ≡ misplaced_from l.bytes l.first l.last l.sections 0
