use Rattle.std.proofs.Common.{◌≡◌, ◌∙◌, ℕ, ◌≤◌, List, length, vec_len, sym, ap, subst, arith}
use Rattle.ghes_ack.proofs.SideLemmas.{fits_at, fills_next}
use Rattle.ghes_ack.proofs.blocks.firmware.fill_in_place.Goals as goal

pub fill-requires-clause-fits : goal.fill-requires-clause-fits
fill-requires-clause-fits c =
    let good = fits_at c.args.blocks.now c.in-Some.block c.in-Some.is c.requires.fits in
    subst (λ (x : List ℕ). length x ≤ c.args.blocks.now.map.len) (sym c.deref.ensures.value) good.fits

pub returns-clause-makes : goal.returns-clause-makes
returns-clause-makes c =
    let l = c.len.ensures in
    let n : length c.in-Some.block.items ≡ vec_len c.in-Some.block = ap length (sym c.deref.ensures.value) ∙ c.deref.ensures.len in
    let more = c.if-len-blocks.false in
    fills_next c.args.blocks.now c.in-Some.block c.deref.result.now c.args.ram.now c.fill.new.ram c.in-Some.is c.deref.ensures.value (omega (arith, n, more, l)) c.fill.ensures
