use Rattle.std.proofs.Common.{sym, subst}
use Rattle.std.specs.Io.KnownBytes.{append_known}
use Rattle.show_items.specs.Beginnings.{IsBegun}
use Rattle.apei_show.proofs.output.OutputPages.write.Goals as goal

pub returns-in-Err-clause-stopped : goal.returns-in-Err-clause-stopped
returns-in-Err-clause-stopped g c =
    let contents = g.W.Write.contents in
    let before = contents c.args.self.now.writer in
    subst (λ writer. IsBegun before (append_known before c.args.page.now) (contents writer)) (sym c.failed.ensures.writer) c.in-Err.ensures.begun
