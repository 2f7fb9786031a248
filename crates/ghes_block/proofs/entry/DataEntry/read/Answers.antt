use Rattle.std.proofs.Common.{ℕ, ap, ◌∙◌}
use Rattle.base_model.specs.Bytes.{part}
use Rattle.ghes_block.specs.Reading.{head_size}
use Rattle.ghes_block.proofs.Whole.{entry_is}
use Rattle.ghes_block.proofs.entry.DataEntry.read.Goals as goal

pub returns-clause-entry : goal.returns-clause-entry
returns-clause-entry c =
    entry_is c.args.bytes.now c.read.result c.bytes_at.result.now c.read.ensures
    (c.bytes_at.ensures.value
    ∙ ap (λ (n : ℕ). part c.args.bytes.now n c.get_u32-size.result) c.head_size_of-head.ensures
    ∙ ap (part c.args.bytes.now (head_size c.args.bytes.now)) c.get_u32-size.ensures)
