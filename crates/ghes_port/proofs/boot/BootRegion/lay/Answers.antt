use Rattle.std.proofs.Common.{◌≡◌, ◌∙◌, ℕ, ◌-◌, ◌<◌, Bool, cond, List, ◌++◌, length, sym, ap, subst, arith}
use Rattle.base_model.proofs.BytesLemmas.{AreBytes-each}
use Rattle.ghes_port.specs.Machine.{piece_at, IsGood}
use Rattle.ghes_port.proofs.BlockLemmas.{good_of}
use Rattle.ghes_port.proofs.boot.BootRegion.lay.Goals as goal

pub invariant_of-self : goal.invariant_of-self
invariant_of-self c =
    let is = c.self.invariant.0 in
    let room = c.self.invariant.1 in
    let left = c.self.inside.len - c.self.inside.end in
    let block = c.args.block.now in
    let fits = c.in_default-check_block.ensures.fits in
    let short = fits.fits in
    let head = fits.head in
    let empty = c.clear.ensures.len in
    let same = c.clear.ensures.capacity in
    let grown = c.extend_from_slice.ensures.capacity in
    let ok = c.extend_from_slice.ensures.succeeds (omega (arith, room, short, empty, same)) in
    let copied : c.extend_from_slice.new.self.items ≡ block =
    c.extend_from_slice.ensures.items ∙ ap (λ (b : Bool). cond b (c.clear.new.self.items ++ block) c.clear.new.self.items) ok ∙ ap (λ (x : List ℕ). x ++ block) c.clear.ensures.items in
    let good : IsGood left block = good_of left block c.in_default-check_block.ensures.exact fits (AreBytes-each block (λ k. omega (arith, c.type_inv.block k))) in
    let begins : piece_at 0 < length block = omega (arith, head) in (
      record {
        below = is.below;
        short = is.short;
        within = is.within;
        reached = subst (λ (xs : List ℕ). IsGood left xs × (piece_at 0 < length xs)) (sym copied) (good, begins);
      },
      omega (arith, room, same, grown),
    )
