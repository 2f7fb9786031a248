use Rattle.std.proofs.Common.{drop}
use Rattle.erst_entries.proofs.Listing.{IsLeft}
use Rattle.erst_entries.proofs.programs.nth.Given as goal

abbrev pub invariant-loop-entry : goal.invariant-loop-entry
invariant-loop-entry l = IsLeft l.action (drop l.entry-index l.entries) l.left l.fn.entries l.index
