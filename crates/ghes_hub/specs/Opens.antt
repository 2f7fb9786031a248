-- A hub that was opened.
use Rattle.std.specs.Prelude.{◌≡◌, ℕ, ◌<◌, ◌≤◌, List, length, Some, slice_get}
use Rattle.hest_sources.specs.declared.sources.Ghes.{Ghes}
use Rattle.hest_sources.specs.declared.sources.HestSource.{HestSource}
use Rattle.ghes_ack.specs.Machine.{started, zeros}
use Rattle.ghes_hub.specs.Deals.{dealt_to}
use Rattle.ghes_hub.specs.Hubs.{HubState, OpenedSource, sources_in}
use Rattle.ghes_hub.specs.Layouts.{layout_kind}
use Rattle.ghes_hub.specs.Refusals.{generics, layout_of, layouts_from}
use Rattle.ghes_hub.specs.SourcesState.{SourcesState, layouts_in, StandsAt}

-- there are 1 to 16 sources, each lies where the table says, and stands for a start over a window of zeros
pub record IsReady (sources : List HestSource) (s : SourcesState) : Type 0 where
  pub count : length s.list ≡ length (generics sources)
  pub some : 0 < length s.list
  pub few : length s.list ≤ 16
  pub layouts : layouts_in s ≡ layouts_from 0 (generics sources)
  pub stands : (i : ℕ) (source : Ghes) → slice_get (generics sources) i ≡ Some source → StandsAt (layout_kind (layout_of i source)) s i (started (zeros source.block_len))

-- and the listeners are dealt out to their chains
pub record IsOpened {L : Type 0} (sources : List HestSource) (listeners : List L) (hub : HubState L) : Type 0 where
  pub ready : IsReady sources hub.sources
  pub chains : length hub.chains ≡ sources_in hub
  pub dealt : (i : ℕ) → i < sources_in hub → slice_get hub.chains i ≡ Some (dealt_to (sources_in hub) i 0 listeners)

-- the source of this number in a hub that was opened, over a window of zeros, with the listeners that were dealt to it
abbrev pub opened_source : {L : Type 0} → List L → HubState L → ℕ → Ghes → OpenedSource L
opened_source listeners hub i source = record {
  kind = layout_kind (layout_of i source);
  number = i;
  window = zeros source.block_len;
  listeners = dealt_to (sources_in hub) i 0 listeners;
}
