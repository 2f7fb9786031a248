use Rattle.std.proofs.Common.{ℕ, List, [], Option}
use Rattle.apei_show.specs.Outputs.{IsWritten, StopsWriting, head_text}
use Rattle.apei_show.proofs.OutputLemmas.{behind_head, head_begun, items_begun}
use Rattle.std.specs.Io.KnownBytes.{append_known}
use Rattle.show_items.specs.Beginnings.{IsBegun}
use Rattle.show_items.proofs.BeginningLemmas.{if_stopped, stopped_so}
use Rattle.apei_show.proofs.shown.show_bytes.Goals as goal

pub returns-clause-written : goal.returns-clause-written
returns-clause-written g c =
    let written = g.P.Pages.written in
    let args = c.args in
    behind_head c.write_items.result (written args.pages.now) (written c.write_head.new.pages) (written c.write_items.new.pages)
    (head_text args.manner args.is_first args.path.now) (λ (text : List ℕ). IsWritten args.manner text args.path.now args.bytes.now)
    c.in_ok-write_head.ensures.written c.write_items.ensures.written

pub returns-in_err-write_head-clause-stopped : goal.returns-in_err-write_head-clause-stopped
returns-in_err-write_head-clause-stopped g c =
    let args = c.args in
    let head = head_text args.manner args.is_first args.path.now in
    let before : Option (List ℕ) = g.P.Pages.written args.pages.now in
    let after : Option (List ℕ) = g.P.Pages.written c.write_head.new.pages in
    stopped_so c.from_residual.result c.in_err-write_head.field-0.0 (IsBegun before (append_known before head) after) _
    c.from_residual.ensures.1 (head_begun args.manner head args.path.now args.bytes.now before after) c.in_err-write_head.ensures.stopped

pub returns-clause-stopped : goal.returns-clause-stopped
returns-clause-stopped g c =
    let args = c.args in
    let head = head_text args.manner args.is_first args.path.now in
    let before : Option (List ℕ) = g.P.Pages.written args.pages.now in
    let middle : Option (List ℕ) = g.P.Pages.written c.write_head.new.pages in
    let after : Option (List ℕ) = g.P.Pages.written c.write_items.new.pages in
    if_stopped c.write_items.result (StopsWriting args.manner [] args.path.now args.bytes.now middle after) _
    (items_begun args.manner head args.path.now args.bytes.now before middle after c.in_ok-write_head.ensures.written) c.write_items.ensures.stopped
