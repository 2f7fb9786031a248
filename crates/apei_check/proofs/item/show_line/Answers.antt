use Rattle.apei_check.proofs.TextLemmas.{shows_none}
use Rattle.apei_check.proofs.item.show_line.Goals as goal

pub returns-in-Blank-clause-shown : goal.returns-in-Blank-clause-shown
returns-in-Blank-clause-shown g c = rw c.in-Blank.is (shows_none _ _)

pub returns-in-Block-clause-part : goal.returns-in-Block-clause-part
returns-in-Block-clause-part g c failed =
    let part = c.check_block.ensures.part failed in
    rw c.in-Block.is
    (record { lines = part.lines; are = record { bytes = _; decoded = c.decode-count-in-Block.ensures.bytes; is = part.are }; count = part.count; text = part.text })
