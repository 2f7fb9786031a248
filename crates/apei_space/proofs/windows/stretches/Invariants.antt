use Rattle.std.proofs.Common.{◌≡◌, ◌≤◌, ◌+◌, ◌++◌, All, length, take, drop, vec_len, vec_capacity}
use Rattle.apei_space.specs.Windows.{total}
use Rattle.apei_space.specs.Stretches.{IsStretch, stretches_from}
use Rattle.apei_space.proofs.windows.stretches.Given as goal

abbrev pub invariant-loop-window : goal.invariant-loop-window
invariant-loop-window l = record {
  are : All (IsStretch l.fn.windows) l.table.items;
  before : l.start ≡ total (take l.window-index l.fn.windows);
  whole : l.table.items ++ stretches_from l.start (drop l.window-index l.windows) ≡ stretches_from 0 l.fn.windows;
  rest : l.start + total (drop l.window-index l.windows) ≡ total l.fn.windows;
  few : vec_len l.table ≤ l.window-index;
  room : length l.fn.windows ≤ vec_capacity l.table;
}
