use Rattle.std.proofs.Common.{rules, ◌<◌, List, [], length, get_or, ap, ◌∙◌, arith}
use Rattle.hest_sources.specs.declared.sources.HestSource.{HestSource}
use Rattle.apei_check.specs.Shown.{numbered_lines}
use Rattle.apei_check.specs.TableLines.{source_line}
use Rattle.apei_check.proofs.PartLemmas.{length_numbered, numbered_at}
use Rattle.apei_check.proofs.tables.hest.HestNumbered.part_line.Goals as goal

pub offset_bounds-sources-index : goal.offset_bounds-sources-index
offset_bounds-sources-index c =
    let within : c.args.index < length c.sources.result.now = omega (arith, length_numbered source_line c.args.self.now, ap (λ (sources : List HestSource). length sources) c.sources.ensures) in
    search rules

pub bounds-sources-index : goal.bounds-sources-index
bounds-sources-index c = omega (arith, length_numbered source_line c.args.self.now, ap (λ (sources : List HestSource). length sources) c.sources.ensures)

pub returns-clause-text : goal.returns-clause-text
returns-clause-text c =
    let within : c.args.index < length c.sources.result.now = omega (arith, length_numbered source_line c.args.self.now, ap (λ (sources : List HestSource). length sources) c.sources.ensures) in
    c.source_line.ensures.text
    ∙ numbered_at source_line c.sources.result.now c.args.index _ within
    ∙ ap (λ (sources : List HestSource). get_or (numbered_lines source_line sources) c.args.index []) c.sources.ensures
