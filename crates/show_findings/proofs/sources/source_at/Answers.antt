use Rattle.std.proofs.Common.{rules}
use Rattle.base_model.specs.Bytes.{part}
use Rattle.show_findings.proofs.sources.source_at.Goals as goal

pub returns-clause-source : goal.returns-clause-source
unfolding part
returns-clause-source c = record { within = search rules; kind_is = search rules; size = c.in_ok-length.length; known = search rules; content = search rules; behind = search rules }
