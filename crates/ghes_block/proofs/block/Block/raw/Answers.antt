use Rattle.std.proofs.Common.{ℕ, sym, ap, ◌∙◌, arith}
use Rattle.base_model.specs.Bytes.{part}
use Rattle.ghes_block.specs.Grammar.{BlockValue}
use Rattle.ghes_block.proofs.Terms.{raw_offset}
use Rattle.ghes_block.proofs.Whole.{whole, no_raw}
use Rattle.ghes_block.proofs.block.Block.raw.Goals as goal

pub get_u32-raw_length-requires : goal.get_u32-raw_length-requires
get_u32-raw_length-requires c = let header = (whole c.self.inside.bytes.now c.self.inside.entries c.self.invariant).header in omega arith

pub get_u32-requires : goal.get_u32-requires
get_u32-requires c = let header = (whole c.self.inside.bytes.now c.self.inside.entries c.self.invariant).header in omega arith

pub bytes_at-requires-2 : goal.bytes_at-requires-2
bytes_at-requires-2 c =
    let fits = (whole c.self.inside.bytes.now c.self.inside.entries c.self.invariant).raw_fits (λ z. c.if-raw_length-eq0.false (c.get_u32-raw_length.ensures ∙ z)) in
    let offset = c.get_u32.ensures in
    let raw = c.get_u32-raw_length.ensures in
    omega arith

pub returns-then-raw_length-eq0 : goal.returns-then-raw_length-eq0
returns-then-raw_length-eq0 c =
    c.bytes_at.ensures.value
    ∙ no_raw c.self.inside.bytes.now (sym c.get_u32-raw_length.ensures ∙ c.if-raw_length-eq0.true)
    ∙ sym (whole c.self.inside.bytes.now c.self.inside.entries c.self.invariant).raw_is
    ∙ ap (λ (b : BlockValue). b.raw) c.self.view_is

pub returns : goal.returns
returns c =
    c.bytes_at-2.ensures.value
    ∙ ap (λ (n : ℕ). part c.self.inside.bytes.now n c.get_u32-raw_length.result) c.get_u32.ensures
    ∙ ap (part c.self.inside.bytes.now (raw_offset c.self.inside.bytes.now)) c.get_u32-raw_length.ensures
    ∙ sym (whole c.self.inside.bytes.now c.self.inside.entries c.self.invariant).raw_is
    ∙ ap (λ (b : BlockValue). b.raw) c.self.view_is
