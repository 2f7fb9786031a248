use Rattle.std.proofs.Common.{rules}
use Rattle.apei_check.specs.Tables.{AreErstLines}
use Rattle.apei_check.proofs.AnswerLemmas.{shows_part, shows_item, shows_item_part}
use Rattle.apei_check.proofs.TableLemmas.{erst_lines, bad_erst, first_of_erst}
use Rattle.apei_check.proofs.tables.erst.check_erst.Goals as goal

pub returns-in_err-write-in-Ok-clause-part : goal.returns-in_err-write-in-Ok-clause-part
returns-in_err-write-in-Ok-clause-part g c _ =
    shows_item_part _ (AreErstLines c.args.show c.args.bytes.now) c.args.show _ _ _ _ _ c.table_line-head.ensures.text
    (erst_lines c.args.show c.args.bytes.now c.in-Ok.table c.in-Ok.len c.in-Ok.ensures.found.0 c.in-Ok.ensures.found.1 c.in-Ok.ensures.found.2)
    c.in_err-write-in-Ok.ensures.part

pub returns-in_err-write_refused-in-Err-clause-part : goal.returns-in_err-write_refused-in-Err-clause-part
returns-in_err-write_refused-in-Err-clause-part g c _ =
    shows_part _ (AreErstLines c.args.show c.args.bytes.now) _ _ _ (bad_erst c.args.show c.args.bytes.now c.in-Err.why
    (first_of_erst c.args.bytes.now c.in-Err.why (search rules) c.in-Err.ensures.refused)) c.in_err-write_refused-in-Err.ensures.part

pub returns-in_ok-write-in-Ok-clause-shown : goal.returns-in_ok-write-in-Ok-clause-shown
returns-in_ok-write-in-Ok-clause-shown g c =
    shows_item _ (AreErstLines c.args.show c.args.bytes.now) c.args.show _ _ _ _ _ c.table_line-head.ensures.text
    (erst_lines c.args.show c.args.bytes.now c.in-Ok.table c.in-Ok.len c.in-Ok.ensures.found.0 c.in-Ok.ensures.found.1 c.in-Ok.ensures.found.2)
    c.in_ok-write-in-Ok.ensures.all
