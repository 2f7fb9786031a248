use Rattle.std.proofs.Common.{rules, ◌≡◌, false, [], refl}
use Rattle.show_items.specs.Dumps.{is_title}
use Rattle.show_items.proofs.DumpLemmas.{bytes_read}
use Rattle.show_items.proofs.SheetLemmas.{no_items}
use Rattle.show_items.proofs.dumps.Dump.read_line.Goals as goal

pub returns-then-not-is_title-clause-shown : goal.returns-then-not-is_title-clause-shown
returns-then-not-is_title-clause-shown g c =
    let no_title : is_title c.args.line.now ≡ false = search rules in
    ([], bytes_read c.args.line.now c.args.self.now _ no_title refl refl refl c.in_ok-add_line.ensures refl, ([], refl, no_items (g.P.Pages.written c.args.pages.now) c.args.sheet.now))
