use Rattle.std.proofs.lemmas.Result.{on_ok_weaker}
use Rattle.field_lines.specs.Code.{structure_of}
use Rattle.show_items.proofs.MediumLemmas.{bad_shown}
use Rattle.show_items.proofs.media.show_bad.Goals as goal

pub returns : goal.returns
returns c =
    on_ok_weaker c.show_header.result (
    bad_shown c.args.error c.args.bytes.now (structure_of c.medium_header.result) c.in_ok-fault.fault c.args.sheet.now c.show_header.new.sheet c.medium_header.ensures.layout
    c.in_ok-fault.ensures
    ) c.show_header.ensures
