use Rattle.std.proofs.Common.{◌≡◌, ◌++◌, length, string_bytes}
use Rattle.show_findings.specs.Labels.{label_text}
use Rattle.show_findings.specs.declared.labels.Gap.TheVariants.{Start}
use Rattle.show_findings.proofs.labels.add_label.Given as goal

abbrev pub invariant-loop-text : goal.invariant-loop-text
invariant-loop-text l = string_bytes l.out ++ label_text l.gap l.text ≡ string_bytes l.initial.out ++ label_text Start l.initial.text

abbrev pub decreases-loop-text : goal.decreases-loop-text
decreases-loop-text l = length l.text
