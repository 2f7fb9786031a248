use Rattle.ghes_ack.specs.Sides.{Stands}
use Rattle.apei_bench.proofs.handovers.submit_blocks.Given as goal

abbrev pub invariant-loop-k : goal.invariant-loop-k
invariant-loop-k l = Stands l.handover l.ram

abbrev pub invariant-loop : goal.invariant-loop
invariant-loop l = Stands l.handover l.ram
