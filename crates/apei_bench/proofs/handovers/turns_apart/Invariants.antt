use Rattle.ghes_ack.specs.Sides.{Stands}
use Rattle.apei_bench.proofs.handovers.turns_apart.Given as goal

abbrev pub invariant-loop : goal.invariant-loop
invariant-loop l = Stands l.handover l.ram
