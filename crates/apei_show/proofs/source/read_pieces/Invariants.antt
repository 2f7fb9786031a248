use Rattle.std.proofs.Common.{◌≡◌, ◌-◌, ◌≤◌, length}
use Rattle.std.specs.Io.KnownBytes.{Consumes}
use Rattle.apei_show.specs.Sources.{most}
use Rattle.apei_show.proofs.source.read_pieces.Given as goal

abbrev pub invariant-pieces : goal.invariant-pieces
invariant-pieces g l = record {
  short : length l.bytes.items ≤ most;
  given : Consumes (g.F.Files.rest l.initial.files) (g.F.Files.rest l.files) l.bytes.items;
  sound : g.F.Files.faults l.files ≡ g.F.Files.faults l.initial.files;
}

abbrev pub decreases-pieces : goal.decreases-pieces
decreases-pieces g l = most - length l.bytes.items
