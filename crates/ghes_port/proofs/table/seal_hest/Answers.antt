use Rattle.std.proofs.Common.{ℕ, List, length, map, refl, subst, arith}
use Rattle.base_model.specs.Bytes.{SameOutside, joined}
use Rattle.hest_sources.specs.Layout.{ghes_bytes}
use Rattle.ghes_port.proofs.TableLemmas.{hest_is, unsealed_size}
use Rattle.ghes_port.proofs.table.seal_hest.Goals as goal

pub returns : goal.returns
returns c =
    let setups = c.args.setups.now in
    let table = c.args.table.now in
    let few = c.requires.few in
    hest_is setups (length table) (length setups) (joined (map (λ s. ghes_bytes s.source) setups)) c.seal.new.table refl c.requires.fit (unsealed_size setups table c.requires.written)
    c.requires.small refl (omega (arith, few)) (subst (λ (xs : List ℕ). SameOutside 9 1 xs c.seal.new.table) c.requires.written c.seal.ensures.others) c.seal.ensures.sum
    (omega (arith, c.type_inv.table 9))

pub seal-requires : goal.seal-requires
seal-requires c = let size = unsealed_size c.args.setups.now c.args.table.now c.requires.written in omega (arith, size)
