use Rattle.std.proofs.Common.{[]}
use Rattle.apei_check.proofs.WrittenLemmas.{wrote_head_broken, wrote_head_alone}
use Rattle.apei_check.specs.Tables.{AreBertLines}
use Rattle.apei_check.proofs.AnswerLemmas.{shows, shows_part}
use Rattle.apei_check.proofs.TableLemmas.{bert_lines, bad_bert}
use Rattle.apei_check.proofs.tables.bert.check_bert.Goals as goal

pub returns-in_err-write_head-in-Ok-clause-part : goal.returns-in_err-write_head-in-Ok-clause-part
returns-in_err-write_head-in-Ok-clause-part g c _ =
    let found = c.in-Ok.ensures.found in
    shows_part _ (AreBertLines c.args.show c.args.bytes.now) _ _ _ (bert_lines c.args.show c.args.bytes.now c.in-Ok.table c.in-Ok.len found.1 found.0)
    (wrote_head_broken _ c.args.show _ _ [] _ _ c.table_line.ensures.text c.in_err-write_head-in-Ok.ensures.part)

pub returns-in_err-write_refused-in-Err-clause-part : goal.returns-in_err-write_refused-in-Err-clause-part
returns-in_err-write_refused-in-Err-clause-part g c _ =
    shows_part _ (AreBertLines c.args.show c.args.bytes.now) _ _ _ (bad_bert c.args.show c.args.bytes.now c.in-Err.why c.in-Err.ensures.refused) c.in_err-write_refused-in-Err.ensures.part

pub returns-in_ok-write_head-in-Ok-clause-shown : goal.returns-in_ok-write_head-in-Ok-clause-shown
returns-in_ok-write_head-in-Ok-clause-shown g c =
    let found = c.in-Ok.ensures.found in
    shows _ (AreBertLines c.args.show c.args.bytes.now) _ _ _ (bert_lines c.args.show c.args.bytes.now c.in-Ok.table c.in-Ok.len found.1 found.0)
    (wrote_head_alone _ c.args.show _ _ _ _ c.table_line.ensures.text c.in_ok-write_head-in-Ok.ensures.all)
