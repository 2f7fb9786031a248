use Rattle.std.proofs.Common.{◌≡◌, ◌-◌, length, vec_len, vec_capacity}
use Rattle.ghes_hub.specs.Layouts.{AreBegun}
use Rattle.ghes_hub.proofs.sources.Sources.begin.Given as goal

abbrev pub invariant-loop-layout : goal.invariant-loop-layout
invariant-loop-layout l =
    (vec_len l.list ≡ length l.list.items) × (vec_capacity l.list ≡ length l.fn.layouts) × AreBegun l.fn.layouts l.fn.ram l.ram l.list.items

abbrev pub decreases-loop-layout : goal.decreases-loop-layout
decreases-loop-layout l = length l.fn.layouts - vec_len l.list
