use Rattle.std.proofs.Common.{◌≡◌, ◌*◌, ◌≤◌}
use Rattle.flash_model.specs.Layouts.{layout_of}
use Rattle.record_model.specs.RecordMap.{changes_of_parts}
use Rattle.erst_device.proofs.timings.most_changes.Given as goal

abbrev pub invariant-loop-part : goal.invariant-loop-part
invariant-loop-part l = record {
  parts : l.parts ≤ 4;
  so_far : l.changes ≡ changes_of_parts (layout_of l.geometry) l.reach l.part;
  few : l.changes ≤ 300 * l.part;
}
