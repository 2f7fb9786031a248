use Rattle.std.proofs.Common.{◌≡◌, ◌≤◌, ◌*◌, map, take, vec_len}
use Rattle.base_model.specs.Bytes.{joined}
use Rattle.hest_sources.specs.Layout.{ghes_bytes}
use Rattle.ghes_port.specs.Tables.{AreStructures}
use Rattle.ghes_port.proofs.table.structures.Given as goal

abbrev pub invariant-loop-setup : goal.invariant-loop-setup
invariant-loop-setup l = record {
  bytes : l.bytes.items ≡ joined (map (λ s. ghes_bytes s.source) (take l.setup-index l.setups));
  fit : AreStructures (take l.setup-index l.setups);
  len : vec_len l.bytes ≤ 92 * l.setup-index;
}
