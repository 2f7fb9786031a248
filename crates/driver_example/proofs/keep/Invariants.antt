use Rattle.std.proofs.Common.{◌≡◌}
use Rattle.record_store.specs.Store.{Idle}
use Rattle.driver_example.proofs.keep.Given as goal

abbrev pub invariant-loop-length : goal.invariant-loop-length
invariant-loop-length l = l.store.pending ≡ Idle
