use Rattle.std.proofs.Common.{◌≡◌, true}
use Rattle.erst_client.specs.Stages.{is_bounded}
use Rattle.erst_client.specs.Reaching.{Reached}
use Rattle.erst_client.proofs.StageLemmas.{weight}
use Rattle.erst_client.proofs.sequences.sequence.Given as goal

abbrev pub invariant-stages : goal.invariant-stages
invariant-stages g l = record {
  reached : Reached g.S.Space.allows l.table.entries l.command l.timings l.fn.budget (g.S.Space.state l.fn.space) l.stage l.budget (g.S.Space.state l.space);
  bounded : is_bounded l.stage ≡ true;
}

abbrev pub decreases-stages : goal.decreases-stages
decreases-stages g l = weight l.stage l.budget
