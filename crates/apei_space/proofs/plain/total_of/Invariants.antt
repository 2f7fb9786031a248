use Rattle.std.proofs.Common.{◌≡◌, ◌+◌, drop}
use Rattle.apei_space.specs.Windows.{total}
use Rattle.apei_space.proofs.plain.total_of.Given as goal

abbrev pub invariant-loop-window : goal.invariant-loop-window
invariant-loop-window l = l.all + total (drop l.window-index l.windows) ≡ total l.fn.windows
