use Rattle.std.proofs.Common.{◌≡◌, ◌∙◌, ℕ, ◌+◌, ◌-◌, List, ◌++◌, length, take, drop, ap, arith}
use Rattle.ghes_block.proofs.RegionLemmas.{laid_more, left_is}
use Rattle.ghes_block.proofs.region.lay.Goals as goal

written : (region block copy : List ℕ) (at : ℕ) → copy ≡ block → take at region ++ (copy ++ drop (at + length block - at) (drop at region)) ≡ take at region
    ++ (block ++ drop (length block) (drop at region))
written region block copy at same =
    let n : at + length block - at ≡ length block = omega arith in
    ap (λ (xs : List ℕ). take at region ++ (xs ++ drop (at + length block - at) (drop at region))) same ∙ ap (λ (k : ℕ). take at region ++ (block ++ drop k (drop at region))) n

pub returns-clause-laid : goal.returns-clause-laid
returns-clause-laid c = λ blocks left h.
    let place = c.end_of-at.ensures.place blocks left h in
    let all = left_is c.args.region.now c.end_of-at.result blocks left h place in
    let room = c.if-region-at.false in (
      place,
      laid_more c.args.region.now c.args.block.now _ c.end_of-at.result blocks left c.requires.whole h place (omega (arith, all, room))
          (written c.args.region.now c.args.block.now c.copy_from_slice.new.self c.end_of-at.result c.copy_from_slice.ensures.after),
    )

pub returns-clause-exact : goal.returns-clause-exact
returns-clause-exact c = λ blocks left h.
    let place = c.end_of-at.ensures.place blocks left h in
    let all = left_is c.args.region.now c.end_of-at.result blocks left h place in
    let room = c.if-region-at.false in
    omega (arith, all, room)
