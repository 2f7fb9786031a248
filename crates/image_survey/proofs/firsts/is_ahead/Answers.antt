use Rattle.std.proofs.Common.{◌-◌, sym, ◌∙◌}
use Rattle.image_survey.proofs.SlotLemmas.{dead_behind, live_ahead}
use Rattle.image_survey.proofs.firsts.is_ahead.Goals as goal

pub returns-then-not-lives-at : goal.returns-then-not-lives-at
returns-then-not-lives-at c seen all marked =
    dead_behind (c.args.geometry.now.slot_size - 64) c.args.geometry.now.slots seen c.args.at c.args.slot (sym (marked c.args.at _ c.requires.at) ∙ c.if-not-lives-at.true)

pub returns : goal.returns
returns c seen all marked =
    live_ahead (c.args.geometry.now.slot_size - 64) c.args.geometry.now.slots seen c.args.at c.args.slot _ _ c.comes_before.result
    (sym (marked c.args.at _ c.requires.at) ∙ c.if-not-lives-at.false) (all c.args.at _ c.requires.at).head (all c.args.slot _ c.requires.slot).head c.comes_before.ensures
