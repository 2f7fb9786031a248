use Rattle.std.proofs.Common.{◌≡◌, ◌-◌, length, arith, ◌∙◌}
use Rattle.std.specs.Prelude.{◌||◌}
use Rattle.record_model.specs.Records.{parts_of}
use Rattle.record_slots.specs.Slots.{numbers_of}
use Rattle.image_survey.proofs.SlotLemmas.{named_by}
use Rattle.image_survey.proofs.further.names.Goals as goal

pub returns : goal.returns
returns c =
    let room = c.args.geometry.now.slot_size - 64 in
    let three : length c.args.head.now.next ≡ 3 = omega arith in
    let count : c.saturating_sub-further.result ≡ parts_of room c.args.head.now.len - 1 = omega (arith, c.saturating_sub-further.ensures, c.parts_of.ensures) in
    c.any_of.ensures ∙ (λ i. (c.names_at-first.ensures i || c.names_at-second.ensures i) || c.names_at-third.ensures i)
    ∙ named_by room c.args.slot c.saturating_sub-further.result (numbers_of c.args.head.now) three count
