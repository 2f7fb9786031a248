-- Layouts of sources in a memory.
use Rattle.std.specs.Prelude.{◌≡◌, ◌≢◌, ℕ, ◌≤◌, List, length, map, take, Some, slice_get}
use Rattle.apei_space.specs.RamState.{RamState}
use Rattle.ghes_ack.specs.Machine.{started}
use Rattle.ghes_ack.specs.Maps.{HasAckBits, HasWindows, window}
use Rattle.ghes_hub.specs.declared.layouts.Layout.{Layout}
use Rattle.ghes_hub.specs.declared.layouts.Layout.TheVariants.{Acknowledged, Plain}
use Rattle.ghes_hub.specs.declared.source.Source.{Source}
use Rattle.ghes_hub.specs.Kinds.{Kind, ByRegister, ByStatus}
use Rattle.ghes_ack.specs.Windows.{block_bytes, HasAddressed}
use Rattle.ghes_hub.specs.Places.{AreClear}
pub use Rattle.ghes_hub.specs.Places.{layout_windows}
use Rattle.ghes_hub.specs.OneSource.{layout_in, SourceStands}

abbrev pub layout_kind : Layout → Kind
layout_kind (Acknowledged map) = ByRegister
layout_kind (Plain map) = ByStatus

-- the memory has its windows
abbrev pub HasLayout : Layout → RamState → Type 0
HasLayout (Acknowledged map) ram = HasWindows map ram × HasAckBits map
HasLayout (Plain map) ram = HasAddressed map.status map.window ram

abbrev pub layout_window : Layout → RamState → List ℕ
layout_window (Acknowledged map) ram = window map ram
layout_window (Plain map) ram = block_bytes map.window ram

-- the memory has all of them, and no two have a byte in common
pub record AreLaidOut (layouts : List Layout) (ram : RamState) : Type 0 where
  pub each : (i : ℕ) (layout : Layout) → slice_get layouts i ≡ Some layout → HasLayout layout ram
  pub apart : (i j : ℕ) (one other : Layout) → i ≢ j → slice_get layouts i ≡ Some one → slice_get layouts j ≡ Some other → AreClear (layout_windows one) (layout_windows other)

-- source number i is begun: it stands for a start over its window as it was at first
pub record IsBegun (layouts : List Layout) (first ram : RamState) (i : ℕ) (handover : Source) : Type 0 where
  pub layout : Layout
  pub is : slice_get layouts i ≡ Some layout
  pub kind : layout_kind (layout_in handover) ≡ layout_kind layout
  pub windows : layout_windows (layout_in handover) ≡ layout_windows layout
  pub stands : SourceStands handover ram (started (layout_window layout first))

-- the first sources are begun, and the memory of the others is as at first
pub record AreBegun (layouts : List Layout) (first ram : RamState) (list : List Source) : Type 0 where
  pub so_far : map layout_in list ≡ take (length list) layouts
  pub begun : (i : ℕ) (handover : Source) → slice_get list i ≡ Some handover → IsBegun layouts first ram i handover
  pub later : (i : ℕ) (layout : Layout) → length list ≤ i → slice_get layouts i ≡ Some layout → HasLayout layout ram × (layout_window layout ram ≡ layout_window layout first)
