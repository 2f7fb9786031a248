use Rattle.std.proofs.Common.{◌-◌, sym, ◌∙◌}
use Rattle.image_survey.proofs.SlotLemmas.{live_by, down_by}
use Rattle.image_survey.proofs.lives.is_live.Goals as goal

pub returns-then-is_upright : goal.returns-then-is_upright
returns-then-is_upright c seen all =
    live_by (c.args.geometry.now.slot_size - 64) c.args.geometry.now.slots c.args.slot seen _ c.has_parts.result c.requires.slot (all c.args.slot _ c.requires.slot)
    (sym c.if-is_upright.true ∙ c.is_upright.ensures) (c.has_parts.ensures seen all)

pub returns-else-is_upright : goal.returns-else-is_upright
returns-else-is_upright c seen all =
    c.if-is_upright.false
    ∙ down_by (c.args.geometry.now.slot_size - 64) c.args.geometry.now.slots c.args.slot seen _ (all c.args.slot _ c.requires.slot)
    (sym c.if-is_upright.false ∙ c.is_upright.ensures)
