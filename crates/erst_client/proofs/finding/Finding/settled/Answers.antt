use Rattle.std.proofs.Common.{◌<◌, sym, subst}
use Rattle.erst_client.specs.declared.finding.Finding.{Finding}
use Rattle.erst_client.proofs.FindingLemmas.{finding_rank, rank_heard}
use Rattle.erst_client.proofs.finding.Finding.settled.Goals as goal

pub requests-smaller : goal.requests-smaller
requests-smaller c =
    subst (λ (at : Finding). finding_rank at < finding_rank c.requests.at) (sym c.heard-at.ensures.heard)
    (rank_heard c.args.table.now.entries c.requests.at c.in-Some.asking c.in-Some-result.answer c.settle.new.self.left (sym c.in-Some.ensures.asking))
