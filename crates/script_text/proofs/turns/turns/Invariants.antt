use Rattle.std.proofs.Common.{take, ◌≤◌}
use Rattle.std.specs.Prelude.{All, IsTrue, ◌==◌, ◌||◌}
use Rattle.script_text.proofs.turns.turns.Given as goal

abbrev pub invariant-loop-i : goal.invariant-loop-i
invariant-loop-i l = All (λ c. IsTrue (c == 70 || c == 82)) (take l.i l.text) × (l.i ≤ 4096)
