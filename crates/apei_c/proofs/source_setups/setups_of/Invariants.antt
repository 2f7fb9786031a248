use Rattle.std.proofs.Common.{◌≡◌, ◌≤◌, length, take, map, vec_len, vec_capacity}
use Rattle.apei_c.specs.SourceSetups.{setup_of}
use Rattle.apei_c.proofs.source_setups.setups_of.Given as goal

abbrev pub invariant-loop-one : goal.invariant-loop-one
invariant-loop-one l = record {
  room : length l.numbers ≤ vec_capacity l.setups;
  count : vec_len l.setups ≡ l.one-index;
  items : l.setups.items ≡ map setup_of (take l.one-index l.numbers);
}
