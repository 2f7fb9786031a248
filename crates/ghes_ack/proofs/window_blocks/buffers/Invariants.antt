use Rattle.std.proofs.Common.{◌≡◌, ◌≤◌, vec_len, vec_capacity, All}
use Rattle.ghes_ack.specs.WindowQueues.{IsWide}
use Rattle.ghes_ack.proofs.window_blocks.buffers.Given as goal

abbrev pub invariant-loop : goal.invariant-loop
invariant-loop l = (vec_len l.spare ≡ l.counter) × (65 ≤ vec_capacity l.spare) × All (IsWide l.fn.len) l.spare.items
