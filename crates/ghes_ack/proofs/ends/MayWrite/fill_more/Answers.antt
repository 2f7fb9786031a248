use Rattle.std.proofs.Common.{ℕ, List}
use Rattle.ghes_ack.specs.Machine.{with_pieces}
use Rattle.ghes_ack.proofs.MemoryLemmas.{has_block_at, by_window}
use Rattle.ghes_ack.proofs.ends.MayWrite.fill_more.Goals as goal

pub fill_more-requires-clause-block : goal.fill_more-requires-clause-block
fill_more-requires-clause-block c = has_block_at c.args.map.now c.window.result c.args.ram.now c.window.ensures.window c.requires.windows

pub returns : goal.returns
returns c = by_window c.args.map.now c.window.result c.args.ram.now c.fill_more.new.ram (λ (w : List ℕ). with_pieces w c.args.block.now c.args.piece
    c.args.count) c.window.ensures.window c.fill_more.ensures
