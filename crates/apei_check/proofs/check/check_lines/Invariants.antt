use Rattle.std.proofs.Common.{◌≡◌, ◌-◌, ◌^◌, true, [], length}
use Rattle.script_lines.specs.declared.lengths.TheConstants.{LONGEST_BYTES}
use Rattle.apei_check.proofs.RunLemmas.{SoFar}
use Rattle.apei_check.proofs.check.check_lines.Given as goal

-- the lines that were read were shown, and no count of the source or the sink rose
abbrev pub invariant-lines : goal.invariant-lines
invariant-lines g l = record {
  so_far : SoFar g.I.Source.tells g.O.Sink.tells l.fn.show (g.I.Source.rest l.fn.script) (g.I.Source.rest l.script) (g.O.Sink.written l.fn.out) (g.O.Sink.written l.out) l.lines;
  at_end : g.I.Source.tells → l.lines.at_end ≡ true → g.I.Source.rest l.script ≡ [];
  room : length l.buffer ≡ LONGEST_BYTES;
  source : g.I.Source.faults l.script ≡ g.I.Source.faults l.fn.script;
  sink : g.O.Sink.faults l.out ≡ g.O.Sink.faults l.fn.out;
}

abbrev pub decreases-lines : goal.decreases-lines
decreases-lines g l = 2 ^ 24 - l.lines.end
