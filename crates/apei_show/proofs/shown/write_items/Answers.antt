use Rattle.std.proofs.Common.{ℕ, List, Option, subst}
use Rattle.show_items.specs.Files.{ShowsFile, StopsFile}
use Rattle.apei_show.proofs.OutputLemmas.{sheet_begun, sheet_written}
use Rattle.show_items.proofs.BeginningLemmas.{stopped_so}
use Rattle.apei_show.proofs.shown.write_items.Goals as goal

pub returns-clause-written : goal.returns-clause-written
returns-clause-written g c =
    let before = g.P.Pages.written c.args.pages.now in
    let after = g.P.Pages.written c.show_file.new.pages in
    let blank = c.new-sheet.result in
    let full = c.show_file.new.sheet in
    sheet_written c.args.manner c.args.path.now c.args.bytes.now c.has_bad.result before after blank full c.new-sheet.ensures.path c.new-sheet.ensures.manner
    c.new-sheet.ensures.blank c.new-sheet.ensures.none c.new-sheet.ensures.sound
    (subst (λ (name : List ℕ). ShowsFile name c.args.bytes.now before after blank full) c.name_of.ensures c.in_ok-show_file.ensures.shown)
    c.in_ok-show_file.ensures.written c.has_bad.ensures

pub returns-in_err-show_file-clause-stopped : goal.returns-in_err-show_file-clause-stopped
returns-in_err-show_file-clause-stopped g c =
    let bytes = c.args.bytes.now in
    let before : Option (List ℕ) = g.P.Pages.written c.args.pages.now in
    let after : Option (List ℕ) = g.P.Pages.written c.show_file.new.pages in
    let blank = c.new-sheet.result in
    stopped_so c.from_residual.result c.in_err-show_file.field-0.0 (StopsFile c.name_of.result.now bytes before after blank) _
    c.from_residual.ensures.1
    (λ stops. sheet_begun c.args.manner c.args.path.now bytes before after blank c.new-sheet.ensures.path c.new-sheet.ensures.manner
    c.new-sheet.ensures.blank c.new-sheet.ensures.none (subst (λ (name : List ℕ). StopsFile name bytes before after blank) c.name_of.ensures stops))
    c.in_err-show_file.ensures.stopped
