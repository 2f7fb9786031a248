use Rattle.std.proofs.Common.{◌≤◌}
use Rattle.hub_script.proofs.TurnLemmas.{AreGood}
use Rattle.hub_script.proofs.parts.turns.Given as goal

abbrev pub invariant-loop-i : goal.invariant-loop-i
invariant-loop-i l = AreGood l.text l.i × (l.i ≤ 4096)
