use Rattle.std.proofs.Common.{◌≡◌, take}
use Rattle.apei_check.specs.Written.{Writes}
use Rattle.apei_check.proofs.text.numbered.InOrderParts.write_parts.Given as goal

-- the lines of the parts before this one are written
abbrev pub invariant-loop-index : goal.invariant-loop-index
invariant-loop-index g l = record {
  no_fault : g.O.Sink.faults l.out ≡ g.O.Sink.faults l.fn.out;
  so_far : Writes g.O.Sink.tells (take l.index (g.N.Numbered.part_lines l.self.item)) (g.O.Sink.written l.fn.out) (g.O.Sink.written l.out);
}
