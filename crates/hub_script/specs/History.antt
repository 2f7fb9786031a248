-- Lines that were played one after another.
use Rattle.std.specs.Prelude.{◌≡◌, ℕ, List, [], ◌∷◌, Some, slice_get}
use Rattle.apei_notify.specs.Telling.{Hearing}
use Rattle.hest_sources.specs.declared.sources.Ghes.{Ghes}
use Rattle.hest_sources.specs.declared.sources.HestSource.{HestSource}
use Rattle.ghes_hub.specs.Hubs.{HubState, Call, DoAll, Serves}
use Rattle.ghes_hub.specs.Opens.{IsOpened, opened_source}
use Rattle.ghes_hub.specs.Refusals.{generics}
use Rattle.hub_script.specs.HubGrammar.{Line}
use Rattle.hub_script.specs.Stages.{HubStage, Waiting, Serving}
use Rattle.hub_script.specs.Plays.{Plays}

-- a line that was played: its replies, its calls of the hub, and the stage after it
pub record Played (L : Type 0) : Type 0 where
  pub line : Line
  pub said : List (List ℕ)
  pub calls : List Call
  pub left : HubStage L

-- each line is played from the stage that the one before it left
abbrev pub Follows : {L : Type 0} → (L → Hearing) → HubStage L → List (Played L) → HubStage L → Type 0
Follows hearing first [] last = last ≡ first
Follows hearing first (played ∷ rest) last = Plays hearing first played.line played.said played.calls played.left × Follows hearing played.left rest last

-- What became of the listeners that a script was given, and of the blocks of which they were told. No hub was opened, and they wait; or one
-- was opened for a table, and each of its sources is served as its own blocks, turns and removals alone say, whatever stands between
pub data AreServed {L : Type 0} (hearing : L → Hearing) (listeners : List L) (calls : List Call) : HubStage L → Type 0 where
  NoHub : calls ≡ [] → AreServed hearing listeners calls (Waiting listeners)
  ByHub : (table : List HestSource) (first last : HubState L) → IsOpened table listeners first → DoAll hearing calls first last
      → ((i : ℕ) (source : Ghes) → slice_get (generics table) i ≡ Some source
      → Serves hearing (opened_source listeners first i source) calls last)
      → AreServed hearing listeners calls (Serving last)
