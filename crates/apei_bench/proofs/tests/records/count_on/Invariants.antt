use Rattle.std.proofs.Common.{◌≡◌, length, None}
use Rattle.cper_frame.specs.Stream.{frame_of}
use Rattle.apei_bench.proofs.tests.records.count_on.Given as goal

abbrev pub invariant-loop-rest : goal.invariant-loop-rest
invariant-loop-rest l = frame_of l.reader ≡ None

abbrev pub decreases-loop-rest : goal.decreases-loop-rest
decreases-loop-rest l = length l.rest
