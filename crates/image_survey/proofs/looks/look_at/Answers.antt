use Rattle.std.proofs.Common.{◌≡◌, ◌+◌, ◌-◌, ◌≤◌, ℕ, List, get_or, refl, ap, ◌∙◌, arith}
use Rattle.base_model.specs.Bytes.{part}
use Rattle.flash_model.proofs.Telling.{part-range}
use Rattle.record_model.specs.Records.{head_at, tail_at}
use Rattle.record_slots.proofs.Heads.{head_at-part}
use Rattle.record_slots.proofs.LookLemmas.{seen_here}
use Rattle.image_survey.proofs.LookLemmas.{tail_at-byte}
use Rattle.image_survey.proofs.looks.look_at.Goals as goal

pub returns : goal.returns
returns c =
    let size = c.args.geometry.now.slot_size in
    let image = c.args.image.now in
    let place = c.place_of-place.result in
    let at = c.place_of-place.ensures.place in
    let least : 512 ≤ size = c.args.geometry.now.least_slot in
    let within = c.place_of-place.ensures.within in
    let copied : c.copy_from_slice.new.self ≡ part image place 32 = c.copy_from_slice.ensures.after ∙ part-range image image place 32 32 refl refl in
    seen_here size c.args.slot image _
    (c.decode.ensures ∙ ap (λ (xs : List ℕ). head_at xs 0) copied ∙ head_at-part image place ∙ ap (head_at image) at)
    (ap (λ (n : ℕ). get_or image (place + (n - 1)) 0) c.slot_size.ensures
    ∙ tail_at-byte image place size (let sized = c.requires.sized in omega arith)
    ∙ ap (λ (n : ℕ). tail_at image n size) at)
