use Rattle.std.proofs.Common.{ℕ, length, replicate, refl, ap, ◌∙◌}
use Rattle.std.proofs.lemmas.List.{length-replicate}
use Rattle.base_model.proofs.BytesLemmas.{length-part}
use Rattle.flash_model.proofs.Telling.{put_mid-put_at, part-range}
use Rattle.flash_model.proofs.ranges.fill_range.Goals as goal

pub returns : goal.returns
returns c =
    let filled = ap length (part-range c.args.image.now c.args.image.now c.args.at c.args.len c.args.len refl refl)
    ∙ length-part c.args.image.now c.args.at c.args.len c.requires in
    put_mid-put_at c.args.image.now _ (replicate c.args.len c.args.byte) c.args.at c.args.len
    (c.fill.ensures.after (λ y e. e) ∙ ap (λ (n : ℕ). replicate n c.args.byte) filled) (length-replicate c.args.len c.args.byte)
