use Rattle.std.proofs.Common.{◌≡◌, ◌*◌, ◌++◌, ℕ, List, length, take, drop, ap, ◌∙◌, arith}
use Rattle.std.proofs.lemmas.List.{length-replicate}
use Rattle.std.proofs.Math.Seq.{take-append_seam}
use Rattle.base_model.proofs.BytesLemmas.{part-whole}
use Rattle.image_survey.proofs.flash.read_image.Goals as goal

whole : (len : ℕ) (buf items image : List ℕ) → len ≡ length buf → buf ≡ image → take len (buf ++ drop (length buf) items) ≡ image
whole len buf items image long is =
    ap (λ (n : ℕ). take n (buf ++ drop (length buf) items)) long ∙ take-append_seam buf (drop (length buf) items) ∙ is

pub returns-clause-image : goal.returns-clause-image
returns-clause-image g c tells =
    let image = (g.F.Flash.state c.args.flash.now).told.image in
    let sized = g.met.F.Flash.sized c.args.flash.now tells in
    let fresh : length c.in_ok-image.image.items ≡ c.args.geometry.now.slot_size * c.args.geometry.now.slots =
    ap length c.in_ok-image.ensures ∙ length-replicate (c.args.geometry.now.slot_size * c.args.geometry.now.slots) 0xFF in
    let lent = ap length c.deref_mut.ensures.value in
    let same = c.read.auto.buf in
    whole c.in_ok-image.image.len c.read.new.buf c.in_ok-image.image.items image (omega (arith, lent))
    (c.in_ok-read.ensures.bytes tells ∙ part-whole image (length c.deref_mut.result.now) (omega (arith, lent, c.size-found.ensures, c.size.ensures)))
