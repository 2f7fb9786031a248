use Rattle.show_findings.proofs.SpokenLemmas.{has_first}
use Rattle.show_findings.proofs.records.add_block.Goals as goal

pub returns-in-Some-clause-bare : goal.returns-in-Some-clause-bare
returns-in-Some-clause-bare c =
    has_first c.add_worst_entry.result _ c.args.block.now c.in-Some.worst.at c.in-Some.worst.index c.in-Some.ensures.1 c.in-Some.ensures.2
