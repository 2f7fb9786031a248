use Rattle.std.proofs.Common.{sym, ap, ◌∙◌, arith}
use Rattle.ghes_block.specs.Grammar.{BlockValue}
use Rattle.ghes_block.proofs.Whole.{whole}
use Rattle.ghes_block.proofs.block.Block.severity.Goals as goal

pub get_u32-requires : goal.get_u32-requires
get_u32-requires c = let header = (whole c.self.inside.bytes.now c.self.inside.entries c.self.invariant).header in omega arith

pub returns : goal.returns
returns c = c.get_u32.ensures ∙ sym (whole c.self.inside.bytes.now c.self.inside.entries c.self.invariant).severity_is ∙ ap (λ (b : BlockValue). b.severity) c.self.view_is
