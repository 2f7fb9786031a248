-- Sources over one memory.
use Rattle.std.specs.Prelude.{◌≡◌, ◌≢◌, ℕ, List, map, Some, slice_get}
use Rattle.apei_space.specs.RamState.{RamState}
use Rattle.ghes_ack.specs.Machine.{Machine}
use Rattle.ghes_hub.specs.declared.layouts.Layout.{Layout}
use Rattle.ghes_hub.specs.declared.source.Source.{Source}
use Rattle.ghes_hub.specs.Kinds.{Kind}
use Rattle.ghes_hub.specs.Places.{AreClear, layout_windows}
use Rattle.ghes_hub.specs.OneSource.{layout_in, SourceStands}
use Rattle.ghes_hub.specs.Layouts.{layout_kind}

pub record SourcesState : Type 0 where
  pub ram : RamState
  pub list : List Source

-- where the parts of each source lie
abbrev pub layouts_in : SourcesState → List Layout
layouts_in s = map layout_in s.list

-- each source stands for a state of its machine, and no two have a byte in common
pub record AreServed (ram : RamState) (list : List Source) : Type 0 where
  pub stands : (i : ℕ) (p : Source) → slice_get list i ≡ Some p → (m : Machine) × SourceStands p ram m
  pub apart : (i j : ℕ) (p q : Source) → i ≢ j → slice_get list i ≡ Some p → slice_get list j ≡ Some q
      → AreClear (layout_windows (layout_in p)) (layout_windows (layout_in q))

-- source number i is of this kind, and stands for this state of its machine
pub record StandsAt (kind : Kind) (s : SourcesState) (i : ℕ) (m : Machine) : Type 0 where
  pub handover : Source
  pub is : slice_get s.list i ≡ Some handover
  pub kind_is : layout_kind (layout_in handover) ≡ kind
  pub stands : SourceStands handover s.ram m
