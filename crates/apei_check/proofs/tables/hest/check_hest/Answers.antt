use Rattle.std.proofs.Common.{rules}
use Rattle.apei_check.specs.Tables.{AreHestLines}
use Rattle.apei_check.proofs.AnswerLemmas.{shows_part, shows_item, shows_item_part}
use Rattle.apei_check.proofs.TableLemmas.{hest_lines, bad_hest, first_of_hest}
use Rattle.apei_check.proofs.tables.hest.check_hest.Goals as goal

pub returns-in_err-write-in-Ok-clause-part : goal.returns-in_err-write-in-Ok-clause-part
returns-in_err-write-in-Ok-clause-part g c _ =
    let found = c.in-Ok.ensures.found in
    let is = rw c.sources.ensures at c.table_line-head.ensures.text in
    shows_item_part _ (AreHestLines c.args.show c.args.bytes.now) c.args.show _ _ _ _ _ is (hest_lines c.args.show c.args.bytes.now c.in-Ok.table c.in-Ok.len
    found.1 found.0) c.in_err-write-in-Ok.ensures.part

pub returns-in_err-write_refused-in-Err-clause-part : goal.returns-in_err-write_refused-in-Err-clause-part
returns-in_err-write_refused-in-Err-clause-part g c _ =
    shows_part _ (AreHestLines c.args.show c.args.bytes.now) _ _ _ (bad_hest c.args.show c.args.bytes.now c.in-Err.why
    (first_of_hest c.args.bytes.now c.in-Err.why (search rules) c.in-Err.ensures.refused)) c.in_err-write_refused-in-Err.ensures.part

pub returns-in_ok-write-in-Ok-clause-shown : goal.returns-in_ok-write-in-Ok-clause-shown
returns-in_ok-write-in-Ok-clause-shown g c =
    let found = c.in-Ok.ensures.found in
    let is = rw c.sources.ensures at c.table_line-head.ensures.text in
    shows_item _ (AreHestLines c.args.show c.args.bytes.now) c.args.show _ _ _ _ _ is (hest_lines c.args.show c.args.bytes.now c.in-Ok.table c.in-Ok.len found.1
    found.0) c.in_ok-write-in-Ok.ensures.all
