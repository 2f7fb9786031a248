use Rattle.std.proofs.Common.{length}
use Rattle.ghes_ack.proofs.PieceLemmas.{hidden_copy}
use Rattle.ghes_ack.proofs.pieces.copy_hidden.Goals as goal

pub returns : goal.returns
returns c =
    hidden_copy c.args.block.now c.copy_from_slice.new.self c.fill.new.self (length c.args.out.now) c.min.result c.requires c.min.ensures
    c.copy_from_slice.ensures.after (c.fill.ensures.after (λ y same. same))
