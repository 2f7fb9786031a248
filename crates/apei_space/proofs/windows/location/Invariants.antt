use Rattle.std.proofs.Common.{◌≡◌, ◌+◌, drop}
use Rattle.apei_space.specs.Windows.{location, total}
use Rattle.apei_space.proofs.windows.location.Given as goal

abbrev pub invariant-loop-window : goal.invariant-loop-window
invariant-loop-window l = record {
  same : location (drop l.window-index l.windows) l.start l.at ≡ location l.fn.windows 0 l.fn.at;
  rest : l.start + total (drop l.window-index l.windows) ≡ total l.fn.windows;
}
