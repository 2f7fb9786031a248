use Rattle.std.proofs.Common.{◌≡◌, ◌≤◌, ◌-◌, [], length, take, drop, map, vec_len, vec_capacity}
use Rattle.ghes_port.specs.Setups.{setups_fault, begun}
use Rattle.ghes_port.proofs.sources.begin.Given as goal

abbrev pub invariant-loop-setup : goal.invariant-loop-setup
invariant-loop-setup l = record {
  capacity : vec_capacity l.list ≡ length l.fn.setups;
  within : vec_len l.list ≤ length l.fn.setups;
  so_far : l.list.items ≡ map begun (take (vec_len l.list) l.fn.setups);
  later : setups_fault l.list.items (vec_len l.list) (drop (vec_len l.list) l.fn.setups) ≡ setups_fault [] 0 l.fn.setups;
}

abbrev pub decreases-loop-setup : goal.decreases-loop-setup
decreases-loop-setup l = length l.fn.setups - vec_len l.list
