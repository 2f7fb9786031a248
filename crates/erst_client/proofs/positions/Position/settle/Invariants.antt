use Rattle.std.proofs.Common.{◌≡◌, true}
use Rattle.erst_client.specs.Positions.{Moves, is_sound_at}
use Rattle.erst_client.proofs.StageLemmas.{run_rank}
use Rattle.erst_client.proofs.positions.Position.settle.Given as goal

abbrev pub invariant-stages : goal.invariant-stages
invariant-stages l = record {
  moves : Moves l.table.entries l.command l.timings l.fn.self l.self;
  sound : is_sound_at l.self ≡ true;
}

abbrev pub decreases-stages : goal.decreases-stages
decreases-stages l = run_rank l.self.stage
