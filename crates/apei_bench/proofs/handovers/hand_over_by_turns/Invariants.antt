use Rattle.ghes_ack.specs.Sides.{Stands}
use Rattle.apei_bench.proofs.handovers.hand_over_by_turns.Given as goal

abbrev pub invariant-loop-k : goal.invariant-loop-k
invariant-loop-k l = Stands l.handover l.ram
