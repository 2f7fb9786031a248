use Rattle.std.proofs.Common.{length, ap, ◌∙◌}
use Rattle.ghes_block.specs.Grammar.{BlockValue}
use Rattle.ghes_block.proofs.Whole.{whole}
use Rattle.ghes_block.proofs.block.Block.entries.Goals as goal

pub returns : goal.returns
returns c = (whole c.self.inside.bytes.now c.self.inside.entries c.self.invariant).count_is ∙ ap (λ (b : BlockValue). length b.entries) c.self.view_is
