use Rattle.std.proofs.Common.{◌≡◌, ◌<◌, ◌≤◌, ℕ, ◌+◌, ◌-◌, length}
use Rattle.show_findings.specs.Places.{HasDataEntry}
use Rattle.show_findings.specs.Worst.{entry_place, entry_rank}
use Rattle.show_findings.proofs.worst.worst_entry.Given as goal

-- it is the worst of those before the one at `at`
abbrev pub invariant-loop-entry : goal.invariant-loop-entry
invariant-loop-entry l = record {
  next : l.at ≡ entry_place l.block (l.worst.others + 1);
  fits : l.worst.others < l.at;
  last : HasDataEntry l.block (entry_place l.block l.worst.others);
  place : l.worst.at ≡ entry_place l.block l.worst.index;
  begins : HasDataEntry l.block l.worst.at;
  there : l.worst.index ≤ l.worst.others;
  rank_is : l.highest ≡ entry_rank l.block l.worst.index;
  none_higher : (before : ℕ) → before ≤ l.worst.others → entry_rank l.block before ≤ l.highest;
  first : (before : ℕ) → before < l.worst.index → entry_rank l.block before < l.highest;
}

abbrev pub decreases-loop-entry : goal.decreases-loop-entry
decreases-loop-entry l = length l.block - l.at
