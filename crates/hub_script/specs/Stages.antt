-- What a script of several error sources has made so far.
use Rattle.std.specs.Prelude.{List, Option, Some, None}
use Rattle.std.specs.declared.alloc.Global.{Global}
use Rattle.std.specs.declared.dyn_box.DynBox.{DynBox}
use Rattle.ghes_hub.specs.declared.hub.Hub.{Hub}
use Rattle.ghes_hub.specs.Chains.{in_order}
use Rattle.ghes_hub.specs.Hubs.{HubState}
use Rattle.ghes_hub.specs.Seen.{seen}

-- the listeners wait for a hub, or a hub serves its sources
pub data HubStage (L : Type 0) : Type 0 where
  Waiting : List L → HubStage L
  Serving : HubState L → HubStage L

-- the listeners that are left: source by source where a hub was opened
abbrev pub members_in : {L : Type 0} → HubStage L → List L
members_in (Waiting listeners) = listeners
members_in (Serving hub) = in_order hub.chains

-- the stage that a hub makes, if there is one, and the listeners that wait
abbrev pub stage_in : {X : Type 0} {H : X → Type 0} → Option (Hub X H) → List (DynBox X Global H) → HubStage (DynBox X Global H)
stage_in None listeners = Waiting listeners
stage_in (Some hub) listeners = Serving (seen hub)
