use Rattle.std.proofs.Common.{List, length, sym, ap, ◌∙◌}
use Rattle.hest_sources.specs.declared.sources.HestSource.{HestSource}
use Rattle.apei_check.specs.TableLines.{source_line}
use Rattle.apei_check.proofs.PartLemmas.{length_numbered}
use Rattle.apei_check.proofs.tables.hest.HestNumbered.count.Goals as goal

pub returns : goal.returns
returns c = ap (λ (sources : List HestSource). length sources) c.sources.ensures ∙ sym (length_numbered source_line c.args.self.now)
