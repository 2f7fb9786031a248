use Rattle.std.proofs.Common.{◌≡◌, drop}
use Rattle.erst_entries.specs.Programs.{entries_of}
use Rattle.erst_entries.proofs.programs.skipped.Given as goal

abbrev pub invariant-loop-index : goal.invariant-loop-index
invariant-loop-index l = entries_of l.action (drop l.index l.entries) ≡ entries_of l.action l.fn.entries
