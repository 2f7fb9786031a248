use Rattle.std.proofs.Common.{◌≡◌, ℕ, ◌-◌, ap₂, ◌∙◌}
use Rattle.record_model.specs.Records.{Head, is_upright, not_killed}
use Rattle.image_survey.specs.Heads.{has_head}
use Rattle.image_survey.proofs.heads.has_head.Goals as goal

pub returns : goal.returns
unfolding has_head
returns c =
    let room = c.args.geometry.now.slot_size - 64 in
    c.is_upright.ensures
    ∙ ap₂ (λ (head : Head) (tail : ℕ). is_upright room c.args.geometry.now.slots (record head { kill = not_killed }) tail) c.look_at-look.ensures.head c.look_at-look.ensures.tail
