use Rattle.std.proofs.lemmas.Result.{on_ok_weaker, on_err_weaker}
use Rattle.apei_check.proofs.FrameLemmas.{lines_of_block, lines_of_no_block}
use Rattle.apei_check.proofs.AnswerLemmas.{shows, shows_part, shows_item, shows_item_part}
use Rattle.apei_check.proofs.frames.block.write_check.Goals as goal

pub returns-in-Ok-clause-all : goal.returns-in-Ok-clause-all
returns-in-Ok-clause-all g c =
    on_ok_weaker c.write.result (shows_item _ _ c.args.show _ _ _ _ _ c.block_line.ensures.text (lines_of_block c.args.show c.args.bytes.now c.in-Ok.block
    c.in-Ok.size c.in-Ok.ensures.found.0 c.in-Ok.ensures.found.1)) c.write.ensures.all

pub returns-in-Ok-clause-part : goal.returns-in-Ok-clause-part
returns-in-Ok-clause-part g c =
    on_err_weaker c.write.result (shows_item_part _ _ c.args.show _ _ _ _ _ c.block_line.ensures.text (lines_of_block c.args.show c.args.bytes.now c.in-Ok.block
    c.in-Ok.size c.in-Ok.ensures.found.0 c.in-Ok.ensures.found.1)) c.write.ensures.part

pub returns-in-Err-clause-all : goal.returns-in-Err-clause-all
returns-in-Err-clause-all g c = on_ok_weaker c.write_refused.result (shows _ _ _ _ _ (lines_of_no_block c.args.show c.args.bytes.now c.in-Err.error c.in-Err.ensures.exact)) c.write_refused.ensures.all

pub returns-in-Err-clause-part : goal.returns-in-Err-clause-part
returns-in-Err-clause-part g c = on_err_weaker c.write_refused.result
    (shows_part _ _ _ _ _ (lines_of_no_block c.args.show c.args.bytes.now c.in-Err.error c.in-Err.ensures.exact)) c.write_refused.ensures.part
