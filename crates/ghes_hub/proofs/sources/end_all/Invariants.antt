use Rattle.std.proofs.Common.{vec_len}
use Rattle.ghes_hub.proofs.sources.end_all.Given as goal

abbrev pub decreases-loop-handover : goal.decreases-loop-handover
decreases-loop-handover l = vec_len l.list
