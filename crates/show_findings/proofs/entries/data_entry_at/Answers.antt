use Rattle.std.proofs.Common.{rules}
use Rattle.base_model.specs.Bytes.{part}
use Rattle.show_findings.proofs.entries.data_entry_at.Goals as goal

pub returns-clause-entry : goal.returns-clause-entry
unfolding part
returns-clause-entry c = (search rules, record { head_is = search rules; offset = search rules; content = search rules; behind = search rules })
