use Rattle.std.proofs.Common.{◌≡◌, ◌<◌, ◌≤◌, ℕ}
use Rattle.show_findings.specs.Worst.{section_rank}
use Rattle.show_findings.proofs.worst.worst_section.Given as goal

-- it is the worst of those before `other`
abbrev pub invariant-loop-other : goal.invariant-loop-other
invariant-loop-other l = record {
  there : l.index < l.other;
  rank_is : l.highest ≡ section_rank l.bytes l.index;
  none_higher : (before : ℕ) → before < l.other → section_rank l.bytes before ≤ l.highest;
  first : (before : ℕ) → before < l.index → section_rank l.bytes before < l.highest;
}
