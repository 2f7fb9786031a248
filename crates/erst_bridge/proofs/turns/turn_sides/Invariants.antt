use Rattle.std.proofs.Common.{◌≡◌, ◌≤◌, take, length, vec_len, vec_capacity}
use Rattle.erst_bridge.specs.Bridges.{Off, asker_of}
use Rattle.erst_bridge.specs.Turns.{bridged_machine}
use Rattle.erst_bridge.specs.Made.{MakesTurns}
use Rattle.erst_bridge.proofs.turns.turn_sides.Given as goal

abbrev pub invariant-turning : goal.invariant-turning
invariant-turning g l = record {
  so : MakesTurns g.F.Flash.tells (asker_of l.fn.client l.steps) (bridged_machine l.fn.bridge l.fn.machine) (take l.side-index l.sides) l.made.items (bridged_machine l.bridge l.machine);
  on : l.bridge ≡ Off → ⊥;
  client : l.client ≡ l.fn.client;
  count : vec_len l.made ≡ l.side-index;
  room : length l.sides ≤ vec_capacity l.made;
}
