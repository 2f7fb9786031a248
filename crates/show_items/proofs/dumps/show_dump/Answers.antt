use Rattle.std.proofs.Common.{◌∙◌, ℕ, List, Option, sym}
use Rattle.show_items.specs.Dumps.{AreTables, tables_in}
use Rattle.show_items.proofs.BeginningLemmas.{stopped_so}
use Rattle.show_items.proofs.DumpLemmas.{dumped_begun, no_table}
use Rattle.show_items.specs.Judged.{StopsIn}
use Rattle.show_items.proofs.dumps.show_dump.Goals as goal

pub returns-clause-shown : goal.returns-clause-shown
returns-clause-shown g c =
    no_table (tables_in c.args.text.now) c.args.text.now (g.P.Pages.written c.args.pages.now) (g.P.Pages.written c.show_tables.new.pages)
    c.args.sheet.now c.show_tables.new.sheet c.show_unknown.new.sheet (sym c.in_ok-show_tables.ensures.any ∙ c.if-branch.false) c.in_ok-show_tables.ensures.shown c.in_ok-show_unknown.ensures

pub returns-in_err-show_tables-clause-stopped : goal.returns-in_err-show_tables-clause-stopped
returns-in_err-show_tables-clause-stopped g c =
    let text = c.args.text.now in
    let before : Option (List ℕ) = g.P.Pages.written c.args.pages.now in
    let after : Option (List ℕ) = g.P.Pages.written c.show_tables.new.pages in
    stopped_so c.from_residual.result c.in_err-show_tables.field-0.0 (StopsIn (λ early. AreTables early (tables_in text)) before after c.args.sheet.now) _
    c.from_residual.ensures.1 (dumped_begun (tables_in text) text before after c.args.sheet.now) c.in_err-show_tables.ensures.stopped
