use Rattle.std.proofs.Common.{◌≡◌, ◌≤◌, ◌+◌, ◌*◌, length, take}
use Rattle.ghes_hub.specs.Hubs.{sources_in}
use Rattle.ghes_hub.specs.Seen.{seen}
use Rattle.hub_script.proofs.PlayLemmas.{TurnedSoFar}
use Rattle.hub_script.proofs.turns.take_turns.Given as goal

abbrev pub invariant-turning : goal.invariant-turning
invariant-turning g l = record {
  so : TurnedSoFar (λ b. (goal.Listener-dyn g (b.vtable, b.value)).hearing b.value) g.O.Sink.tells
      (seen l.fn.hub) (seen l.hub) (take (2 * l.at) l.pairs) l.session.events (g.O.Sink.written l.fn.out) (g.O.Sink.written l.out);
  short : length l.session.events ≤ 5 + 8 * l.at;
  count : sources_in (seen l.hub) ≡ sources_in (seen l.fn.hub);
  faults : g.O.Sink.faults l.out ≡ g.O.Sink.faults l.fn.out;
}
