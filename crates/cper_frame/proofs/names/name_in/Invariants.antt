use Rattle.std.proofs.Common.{◌≡◌, ℕ, List, length, map}
use Rattle.cper_frame.specs.Names.{name_in}
use Rattle.cper_frame.specs.declared.names.Named.{Named}
use Rattle.cper_frame.proofs.names.name_in.Given as goal

abbrev rows : List Named → List (List ℕ × List ℕ)
rows names = map (λ (named : Named). (named.guid.now, named.name.now)) names

abbrev pub invariant-loop-names : goal.invariant-loop-names
invariant-loop-names l = name_in (rows l.names) l.guid ≡ name_in (rows l.initial.names) l.guid

abbrev pub decreases-loop-names : goal.decreases-loop-names
decreases-loop-names l = length l.names
