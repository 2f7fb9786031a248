-- What is seen of a player, and of a reply in memory.
use Rattle.std.specs.Prelude.{◌≡◌, ℕ, List, [], ◌∷◌, ◌++◌, Some, None, codes, decimal}
use Rattle.std.specs.declared.alloc.Global.{Global}
use Rattle.std.specs.declared.dyn_box.DynBox.{DynBox}
use Rattle.apei_notify.specs.Telling.{Hearing}
use Rattle.hest_sources.specs.declared.sources.HestSource.{HestSource}
use Rattle.ghes_hub.specs.declared.errors.HubError.{HubError}
use Rattle.ghes_hub.specs.Hubs.{HubState, Call, sources_in}
use Rattle.ghes_hub.specs.Opens.{IsOpened}
use Rattle.ghes_hub.specs.Refusals.{hub_refusal}
use Rattle.hub_script.specs.HubGrammar.{Line}
use Rattle.hub_script.specs.RefusalWords.{words_of_refusal}
use Rattle.hub_script.specs.Replies.{reply_line, refused}
use Rattle.hub_script.specs.Stages.{HubStage, Waiting, Serving, stage_in}
use Rattle.hub_script.specs.Plays.{Plays}
use Rattle.hub_script.specs.declared.player.HubPlayer.{HubPlayer}
use Rattle.hub_script.specs.declared.refusals.HubRefusal.TheVariants.{Hub}

abbrev pub stage_of : {X : Type 0} {H : X → Type 0} → HubPlayer X H → HubStage (DynBox X Global H)
stage_of player = stage_in player.hub player.listeners.items

-- a line of one reply was played, and its reply made
pub record MakesReply {L : Type 0} (hearing : L → Hearing) (old : HubStage L) (line : Line) (new : HubStage L) (reply : List ℕ) : Type 0 where
  pub words : List ℕ
  pub calls : List Call
  pub plays : Plays hearing old line (words ∷ []) calls new
  pub text : reply ≡ reply_line words

-- a table was given to listeners that wait, and the reply made: no hub is opened for it, or one is
pub data OpensFor {L : Type 0} (listeners : List L) (table : List HestSource) : HubStage L → List ℕ → Type 0 where
  NotOpened : (why : HubError) → hub_refusal table ≡ Some why → OpensFor listeners table (Waiting listeners) (reply_line (refused (words_of_refusal (Hub why))))
  IsOpen : (hub : HubState L) → hub_refusal table ≡ None → IsOpened table listeners hub → OpensFor listeners table (Serving hub) (reply_line (codes "hub " ++ decimal (sources_in hub)))
