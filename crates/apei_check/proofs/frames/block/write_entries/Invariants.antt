use Rattle.std.proofs.Common.{◌≡◌, ◌≤◌, ◌-◌, length, take}
use Rattle.apei_check.specs.Written.{Writes}
use Rattle.ghes_block.specs.Entries.{place_of}
use Rattle.apei_check.specs.Shown.{numbered_lines}
use Rattle.apei_check.specs.Frames.{entry_line}
use Rattle.apei_check.proofs.frames.block.write_entries.Given as goal

-- the lines of the entries before the one at this place are written
abbrev pub invariant-loop-entry : goal.invariant-loop-entry
invariant-loop-entry g l = record {
  within : l.index ≤ length l.block.entries;
  place : l.at ≡ place_of l.block.entries l.index;
  low : l.index ≤ l.at;
  no_fault : g.O.Sink.faults l.out ≡ g.O.Sink.faults l.fn.out;
  so_far : Writes g.O.Sink.tells (take l.index (numbered_lines entry_line l.block.entries)) (g.O.Sink.written l.fn.out) (g.O.Sink.written l.out);
}

abbrev pub decreases-loop-entry : goal.decreases-loop-entry
decreases-loop-entry g l = l.block.size - l.at
