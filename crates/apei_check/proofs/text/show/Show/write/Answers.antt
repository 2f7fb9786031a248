use Rattle.std.proofs.Common.{refl}
use Rattle.std.proofs.lemmas.Result.{on_ok_weaker, on_err_weaker}
use Rattle.apei_check.proofs.WrittenLemmas.{wrote_item, wrote_item_part, wrote_head_broken}
use Rattle.base_model.proofs.FaultLemmas.{on_err}
use Rattle.apei_check.proofs.text.show.Show.write.Goals as goal

pub returns-in_err-write_head-clause-part : goal.returns-in_err-write_head-clause-part
returns-in_err-write_head-clause-part g c =
    on_err _ (wrote_head_broken _ c.args.self c.args.head c.args.head (g.P.Parts.lines c.args.item.now) _ _ refl c.in_err-write_head.ensures.part)

pub returns-clause-all : goal.returns-clause-all
returns-clause-all g c =
    on_ok_weaker c.write_parts.result
    (wrote_item _ c.args.self c.args.head (g.P.Parts.lines c.args.item.now) _ _ _ c.parts.result c.parts.ensures c.if-not-parts.false c.in_ok-write_head.ensures.all)
    c.write_parts.ensures.all

pub returns-clause-part : goal.returns-clause-part
returns-clause-part g c =
    on_err_weaker c.write_parts.result
    (wrote_item_part _ c.args.self c.args.head (g.P.Parts.lines c.args.item.now) _ _ _ c.parts.result c.parts.ensures c.if-not-parts.false c.in_ok-write_head.ensures.all)
    c.write_parts.ensures.part
