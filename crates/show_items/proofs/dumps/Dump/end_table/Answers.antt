use Rattle.std.proofs.Common.{arith, rules, ◌<◌, ◌≡◌, ℕ, List, Option, Some, length, subst}
use Rattle.show_items.specs.Judged.{StopsOne}
use Rattle.show_items.specs.Tables.{IsTable}
use Rattle.show_items.proofs.BeginningLemmas.{stopped_so}
use Rattle.show_items.proofs.DumpLemmas.{whole_begun}
use Rattle.show_items.proofs.dumps.Dump.end_table.Goals as goal

pub returns-in_err-show_table-clause-stopped : goal.returns-in_err-show_table-clause-stopped
returns-in_err-show_table-clause-stopped g c =
    let old = c.args.self.now in
    let before : Option (List ℕ) = g.P.Pages.written c.args.pages.now in
    let after : Option (List ℕ) = g.P.Pages.written c.show_table.new.pages in
    let some : 0 < length old.table.items = first_of (grind (arith, c.is_empty.ensures, c.if-is_empty.ensures, c.if-is_empty.false), search rules) in
    let bytes : c.deref.result.now ≡ old.table.items = search rules in
    stopped_so c.from_residual.result c.in_err-show_table.field-0.0 (StopsOne (IsTable (Some old.begin) c.deref.result.now) before after c.args.sheet.now) _
    c.from_residual.ensures.1
    (λ begun. whole_begun old.begin old.table.items before after c.args.sheet.now some
    (subst (λ (content : List ℕ). StopsOne (IsTable (Some old.begin) content) before after c.args.sheet.now) bytes begun))
    c.in_err-show_table.ensures.stopped
