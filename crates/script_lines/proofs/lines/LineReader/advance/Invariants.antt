use Rattle.std.proofs.Common.{◌≡◌, ℕ, ◌+◌, ◌-◌, ◌^◌, ◌≤◌, true, [], length, take}
use Rattle.script_lines.specs.Lines.{IsOneLine, TakesMore, SamePlace}
use Rattle.script_lines.proofs.lines.LineReader.advance.Given as goal

-- more bytes were taken, and the scanned ones of all have no newline
abbrev pub invariant-taking : goal.invariant-taking
invariant-taking g l = record {
  place : SamePlace l.fn.self l.self;
  more : (n : ℕ) × TakesMore g.I.Source.tells l.fn.self l.self (g.I.Source.rest l.fn.script) (g.I.Source.rest l.script) n;
  at_end : g.I.Source.tells → l.self.at_end ≡ true → g.I.Source.rest l.script ≡ [];
  within : l.scanned ≤ length l.self.pending;
  one_line : IsOneLine (take l.scanned l.self.pending);
  no_fault : g.I.Source.faults l.script ≡ g.I.Source.faults l.fn.script;
}

abbrev pub decreases-taking : goal.decreases-taking
decreases-taking g l = 2 ^ 18 + 1 - length l.self.pending
