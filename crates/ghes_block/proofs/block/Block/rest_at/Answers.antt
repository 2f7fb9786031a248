use Rattle.std.proofs.Common.{◌≡◌, ◌<◌, ◌^◌, length, sym, ap, ◌∙◌, arith}
use Rattle.base_model.specs.Bytes.{part}
use Rattle.ghes_block.specs.Grammar.{BlockValue}
use Rattle.ghes_block.proofs.Whole.{whole, place_in, rest_is}
use Rattle.ghes_block.proofs.block.Block.rest_at.Goals as goal

pub get_u32-requires : goal.get_u32-requires
get_u32-requires c = let header = (whole c.self.inside.bytes.now c.self.inside.entries c.self.invariant).header in omega arith

pub overflow_sub-end : goal.overflow_sub-end
overflow_sub-end c =
    let p = place_in c.self.inside.bytes.now c.self.inside.entries c.args.self.now c.args.at c.self.invariant c.self.view_is c.requires in
    let high = p.high in
    let d = c.get_u32.ensures in
    let from = c.from-end.ensures in
    omega arith

pub bytes_at-requires : goal.bytes_at-requires
bytes_at-requires c =
    let p = place_in c.self.inside.bytes.now c.self.inside.entries c.args.self.now c.args.at c.self.invariant c.self.view_is c.requires in
    let fits = (whole c.self.inside.bytes.now c.self.inside.entries c.self.invariant).content_fits in
    let high = p.high in
    let d = c.get_u32.ensures in
    let from = c.from-end.ensures in
    omega arith

pub returns-clause-rest : goal.returns-clause-rest
returns-clause-rest c =
    let p = place_in c.self.inside.bytes.now c.self.inside.entries c.args.self.now c.args.at c.self.invariant c.self.view_is c.requires in
    let fits = (whole c.self.inside.bytes.now c.self.inside.entries c.self.invariant).content_fits in
    let d = c.get_u32.ensures in
    let from = c.from-end.ensures in
    let small : length c.self.inside.bytes.now < 2 ^ 64 = omega (arith, c.self.told.0) in
    rest_is c.self.inside.bytes.now c.args.at c.args.self.now.entries c.bytes_at.result.now small fits p
    (c.bytes_at.ensures.value ∙ ap (part c.self.inside.bytes.now c.args.at) (omega arith))

pub returns-clause-within : goal.returns-clause-within
returns-clause-within c =
    let p = place_in c.self.inside.bytes.now c.self.inside.entries c.args.self.now c.args.at c.self.invariant c.self.view_is c.requires in
    let b = whole c.self.inside.bytes.now c.self.inside.entries c.self.invariant in
    let fits = b.content_fits in
    let high = p.high in
    let d = c.get_u32.ensures in
    let from = c.from-end.ensures in
    let count = c.bytes_at.ensures.len in
    let size : length c.self.inside.bytes.now ≡ c.args.self.now.size = sym b.size_is ∙ ap (λ (v : BlockValue). v.size) c.self.view_is in
    omega arith
