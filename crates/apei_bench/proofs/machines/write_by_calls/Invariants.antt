use Rattle.std.proofs.Common.{◌≡◌}
use Rattle.record_store.specs.Store.{Idle}
use Rattle.apei_bench.proofs.machines.write_by_calls.Given as goal

abbrev pub invariant-loop : goal.invariant-loop
invariant-loop l = l.store.pending ≡ Idle
