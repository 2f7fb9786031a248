use Rattle.std.proofs.Common.{◌≡◌, length}
use Rattle.show_findings.specs.Labels.{has_label}
use Rattle.show_findings.proofs.labels.has_label.Given as goal

abbrev pub invariant-loop-text : goal.invariant-loop-text
invariant-loop-text l = has_label l.text ≡ has_label l.initial.text

abbrev pub decreases-loop-text : goal.decreases-loop-text
decreases-loop-text l = length l.text
