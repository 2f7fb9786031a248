use Rattle.std.proofs.Common.{List, length}
use Rattle.smbios.specs.Structures.{Pair}
use Rattle.smbios.specs.Finding.{Passes, is_wanted}
use Rattle.smbios.proofs.finding.find.Given as goal

abbrev pub invariant-loop-found : goal.invariant-loop-found
invariant-loop-found l = (passed : List Pair) × Passes (is_wanted l.wanted) l.table passed l.rest

abbrev pub decreases-loop-found : goal.decreases-loop-found
decreases-loop-found l = length l.rest
