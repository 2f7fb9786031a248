use Rattle.std.proofs.Common.{◌≡◌, None}
use Rattle.std.specs.VecDeque.{deque_len}
use Rattle.ghes_ack.specs.WindowQueues.{HasRoom}
use Rattle.ghes_ack.proofs.window_blocks.Blocks.forget.Given as goal

abbrev pub invariant-loop-block : goal.invariant-loop-block
invariant-loop-block g l = HasRoom g.M.HasWindow.window_of 0 l.self × (l.self.map ≡ l.fn.self.map) × (l.self.at_work ≡ None)

abbrev pub decreases-loop-block : goal.decreases-loop-block
decreases-loop-block g l = deque_len l.self.waiting
