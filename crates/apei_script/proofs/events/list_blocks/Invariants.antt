use Rattle.std.proofs.Common.{◌≡◌, ◌-◌}
use Rattle.apei_script.specs.Sessions.{state_of}
use Rattle.apei_script.proofs.ListLemmas.{ListedSoFar}
use Rattle.apei_script.proofs.events.list_blocks.Given as goal

abbrev pub invariant-listing : goal.invariant-listing
invariant-listing g l = record {
  so : ListedSoFar g.O.Sink.tells l.fn.session.machine l.at l.count (g.O.Sink.written l.fn.out) (g.O.Sink.written l.out);
  session : state_of l.session ≡ state_of l.fn.session;
  faults : g.O.Sink.faults l.out ≡ g.O.Sink.faults l.fn.out;
}

abbrev pub decreases-listing : goal.decreases-listing
decreases-listing g l = 16384 - l.at
