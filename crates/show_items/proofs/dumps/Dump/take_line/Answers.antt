use Rattle.std.proofs.Common.{◌≡◌, ◌∙◌, ℕ, true, false, List, [], Option, length, take, ap, refl, subst}
use Rattle.show_items.specs.Dumps.{AreTables, ReadsLine, behind_line, is_title, line_len, lines_of, place_behind, tables_from, tables_left, whole}
use Rattle.show_items.specs.Items.{counted}
use Rattle.show_items.proofs.BeginningLemmas.{stopped_so}
use Rattle.show_items.proofs.DumpLemmas.{left_by_title, line_taken, tables_begun}
use Rattle.show_items.specs.Judged.{StopsAll}
use Rattle.show_items.proofs.dumps.Dump.take_line.Goals as goal

pub returns-clause-shown : goal.returns-clause-shown
returns-clause-shown g c =
    let old = c.args.self.now in
    let read = c.in_ok-read_line.ensures.shown in
    let line : c.first_line-line.result.now ≡ take (line_len old.rest.now) old.rest.now = c.first_line-line.ensures in
    let reads = subst (λ (t : List ℕ). ReadsLine t old c.read_line.new.self read.0) line read.1 in
    let at = c.saturating_add-self.ensures
    ∙ ap (λ (n : ℕ). counted n 1) (c.saturating_add.ensures ∙ ap (λ (n : ℕ). counted n (length c.first_line-line.result.now)) reads.at)
    ∙ ap (place_behind old.at) line in
    (read.0, line_taken old c.read_line.new.self _ read.0 c.requires reads at (c.behind_line-self.ensures.exact ∙ ap behind_line (ap (λ r. r.now) reads.rest)) refl refl refl, read.2)

pub returns-in_err-read_line-clause-stopped : goal.returns-in_err-read_line-clause-stopped
returns-in_err-read_line-clause-stopped g c =
    let old = c.args.self.now in
    let line = c.first_line-line.result.now in
    let before : Option (List ℕ) = g.P.Pages.written c.args.pages.now in
    let after : Option (List ℕ) = g.P.Pages.written c.read_line.new.pages in
    let read = whole old.begin old.table.items in
    let behind = tables_from (place_behind old.at line) old.at [] (lines_of (behind_line old.rest.now)) in
    stopped_so c.from_residual.result c.in_err-read_line.field-0.0
    ((is_title line ≡ true) × StopsAll (AreTables false read) before after c.args.sheet.now) _ c.from_residual.ensures.1
    (λ begun. tables_begun read behind (tables_left old) before after c.args.sheet.now (left_by_title old line c.requires c.first_line-line.ensures begun.0) begun.1)
    c.in_err-read_line.ensures.stopped
