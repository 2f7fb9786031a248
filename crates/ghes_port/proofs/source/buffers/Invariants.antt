use Rattle.std.proofs.Common.{◌≡◌, ◌≤◌, vec_len, vec_capacity, All}
use Rattle.ghes_port.specs.Queues.{IsWide}
use Rattle.ghes_port.proofs.source.buffers.Given as goal

abbrev pub invariant-loop : goal.invariant-loop
invariant-loop l = (vec_len l.spare ≡ l.counter) × (l.fn.places ≤ vec_capacity l.spare) × All (IsWide l.fn.len) l.spare.items
