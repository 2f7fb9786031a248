use Rattle.std.proofs.lemmas.Result.{on_ok_weaker}
use Rattle.base_model.specs.Bytes.{part}
use Rattle.field_lines.specs.Code.{structure_of}
use Rattle.show_items.proofs.HeaderLemmas.{header_shown}
use Rattle.show_items.proofs.headers.show_header.Goals as goal

pub returns : goal.returns
returns c =
    let sheet = c.args.sheet.now in
    let bytes = c.args.bytes.now in
    on_ok_weaker c.end.result (
    header_shown c.args.kind.now c.args.sentence.now (structure_of c.args.layout.now) c.seen_at.result.now (part bytes 0 c.args.len) bytes c.args.fault.now sheet
    c.begin.new.self c.add_group.new.self c.end.new.self c.seen_at.ensures c.in_ok-begin.ensures c.in_ok-add_group.ensures
    ) c.end.ensures
