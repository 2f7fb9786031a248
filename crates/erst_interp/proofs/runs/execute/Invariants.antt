use Rattle.std.proofs.Common.{◌≡◌, true}
use Rattle.erst_interp.specs.Continuing.{is_near, awaited_rank}
use Rattle.erst_interp.specs.Awaiting.{IsAwaited}
use Rattle.erst_interp.proofs.runs.execute.Given as goal

abbrev pub invariant-accesses : goal.invariant-accesses
invariant-accesses g l = record {
  waits : IsAwaited g.S.Space.allows l.task l.fn.budget (g.S.Space.state l.fn.space) l.awaited l.budget (g.S.Space.state l.space);
  near : is_near l.awaited ≡ true;
}

abbrev pub decreases-accesses : goal.decreases-accesses
decreases-accesses g l = awaited_rank l.awaited
