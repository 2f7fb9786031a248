use Rattle.std.proofs.Common.{◌≡◌, true}
use Rattle.erst_client.specs.Finding.{FindingMoves, is_sound_finding}
use Rattle.erst_client.proofs.FindingLemmas.{finding_rank}
use Rattle.erst_client.proofs.finding.Finding.settled.Given as goal

abbrev pub invariant-requests : goal.invariant-requests
invariant-requests l = record {
  moves : FindingMoves l.table.entries l.fn.self l.at;
  sound : is_sound_finding l.at ≡ true;
}

abbrev pub decreases-requests : goal.decreases-requests
decreases-requests l = finding_rank l.at
