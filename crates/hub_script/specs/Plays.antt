-- What one line of a script makes of a stage: its replies, its calls of the hub, and the stage after it.
use Rattle.std.specs.Prelude.{◌≡◌, ℕ, ◌-◌, ◌*◌, ◌^◌, ◌<◌, ◌≤◌, nat_lt, if◌then◌else◌, List, [], ◌∷◌, ◌++◌, length, take, map, get_or, codes, decimal, Some, None, slice_get, Ok}
use Rattle.hex.specs.Hex.{decode_of}
use Rattle.apei_notify.specs.Telling.{Hearing, counts_of}
use Rattle.hest_sources.specs.declared.sources.HestSource.{HestSource}
use Rattle.hest_sources.specs.declared.tables.HestError.{HestError}
use Rattle.hest_sources.specs.Tables.{IsHest, refusal}
use Rattle.ghes_ack.specs.declared.events.Event.{Event}
use Rattle.ghes_ack.specs.declared.submission.SubmitError.{SubmitError}
use Rattle.ghes_hub.specs.declared.errors.HubError.{HubError}
use Rattle.ghes_hub.specs.declared.source.Source.{Source}
use Rattle.ghes_hub.specs.Hubs.{HubState, Call, Submits, Turns, Removes, HubSubmits, HubTurns, HubRemoves, last_in, sources_in}
use Rattle.ghes_hub.specs.OneSource.{refusal_of, waiting_of}
use Rattle.ghes_hub.specs.Opens.{IsOpened}
use Rattle.ghes_hub.specs.Refusals.{hub_refusal}
use Rattle.ghes_hub.specs.Runs.{told_at}
use Rattle.script_text.specs.Turns.{side_of}
use Rattle.hub_script.specs.HubGrammar.{Line, blank, comment, hest, error, turns, heard, removal}
use Rattle.hub_script.specs.RefusalWords.{words_of_refusal}
use Rattle.hub_script.specs.Replies.{refused, words_of_block, words_of_turns, words_of_heard}
use Rattle.hub_script.specs.Stages.{HubStage, Waiting, Serving}
use Rattle.hub_script.specs.declared.refusals.HubRefusal.TheVariants.{Open, Table, Hub, NoHub, Nobody, Submit}

-- the source of a hexadecimal digit in lower case
abbrev pub source_of : ℕ → ℕ
source_of digit = if nat_lt digit 58 then digit - 48 else digit - 87

-- the listeners of a source that a hub counts
unfoldable pub listed : {L : Type 0} → List L → List L
listed members = take (2 ^ 32 - 1) members

-- turns one after another: the calls, their events, the replies to the blocks that were taken, and the hub afterwards
pub data Turned {L : Type 0} (hearing : L → Hearing) (old : HubState L) : List ℕ → List Call → List Event → List (List ℕ) → HubState L → Type 0 where
  NoTurn : Turned hearing old [] [] [] [] old
  OneMore : (pairs : List ℕ) (calls : List Call) (events : List Event) (said : List (List ℕ)) (mid : HubState L) (digit letter : ℕ)
      (event : Event) (new : HubState L)
      → Turned hearing old pairs calls events said mid
      → HubTurns hearing (source_of digit) (side_of letter) event mid new
      → Turned hearing old (pairs ++ digit ∷ letter ∷ []) (calls ++ Turns (source_of digit) (side_of letter) event ∷ []) (events ++ event ∷ [])
      (said ++ map (words_of_block (source_of digit)) (told_at event (last_in new.sources (source_of digit)))) new

-- each pair of some turns names a source
abbrev pub AllNamed : {L : Type 0} → HubState L → List ℕ → Type 0
AllNamed hub pairs = (at : ℕ) → 2 * at < length pairs → source_of (get_or pairs (2 * at) 0) < sources_in hub

-- What a line makes of a stage. Until a hub is opened the listeners wait for a table, and what is asked of a hub is refused
pub data Plays {L : Type 0} (hearing : L → Hearing) : HubStage L → Line → List (List ℕ) → List Call → HubStage L → Type 0 where
  -- nothing is said, and nothing is done
  IsBlank : {stage : HubStage L} → Plays hearing stage blank [] [] stage
  IsComment : {stage : HubStage L} {rest : List ℕ} → Plays hearing stage (comment rest) [] [] stage
  -- a table: it is none, no hub is opened for it, or one is; a second hub isn't opened
  NoTable : {listeners : List L} {hex : List ℕ} (bytes : List ℕ) (why : HestError) → decode_of hex ≡ Ok bytes → refusal bytes ≡ Some why
      → Plays hearing (Waiting listeners) (hest hex) (refused (words_of_refusal (Table why)) ∷ []) [] (Waiting listeners)
  NoOpening : {listeners : List L} {hex : List ℕ} (bytes : List ℕ) (n : ℕ) (table : List HestSource) (why : HubError) → decode_of hex ≡ Ok bytes
      → n ≤ length bytes → IsHest table (take n bytes) → hub_refusal table ≡ Some why
      → Plays hearing (Waiting listeners) (hest hex) (refused (words_of_refusal (Hub why)) ∷ []) [] (Waiting listeners)
  Opened : {listeners : List L} {hex : List ℕ} (bytes : List ℕ) (n : ℕ) (table : List HestSource) (hub : HubState L) → decode_of hex ≡ Ok bytes
      → n ≤ length bytes → IsHest table (take n bytes) → hub_refusal table ≡ None → IsOpened table listeners hub
      → Plays hearing (Waiting listeners) (hest hex) ((codes "hub " ++ decimal (sources_in hub)) ∷ []) [] (Serving hub)
  IsOpenAlready : {hub : HubState L} {hex : List ℕ} → Plays hearing (Serving hub) (hest hex) (refused (words_of_refusal Open) ∷ []) [] (Serving hub)
  -- a block for the firmware of a source
  NoHubForBlock : {listeners : List L} {source : ℕ} {hex : List ℕ}
      → Plays hearing (Waiting listeners) (error source hex) (refused (words_of_refusal NoHub) ∷ []) [] (Waiting listeners)
  NoSource : {hub : HubState L} {source : ℕ} {hex : List ℕ} → sources_in hub ≤ source
      → Plays hearing (Serving hub) (error source hex) (refused (words_of_refusal Nobody) ∷ []) [] (Serving hub)
  NotTaken : {hub : HubState L} {source : ℕ} {hex : List ℕ} (block : List ℕ) (handover : Source) (why : SubmitError) → source < sources_in hub
      → decode_of hex ≡ Ok block → slice_get hub.sources.list source ≡ Some handover → refusal_of handover block ≡ Some why
      → Plays hearing (Serving hub) (error source hex) (refused (words_of_refusal (Submit why)) ∷ []) [] (Serving hub)
  Queued : {hub : HubState L} {source : ℕ} {hex : List ℕ} (block : List ℕ) (handover after : Source) (new : HubState L) → source < sources_in hub
      → decode_of hex ≡ Ok block → slice_get hub.sources.list source ≡ Some handover → refusal_of handover block ≡ None
      → HubSubmits source block hub new → slice_get new.sources.list source ≡ Some after
      → Plays hearing (Serving hub) (error source hex) ((codes "queued " ++ decimal (length (waiting_of after))) ∷ []) (Submits source block ∷ [])
      (Serving new)
  -- turns, none of which is made where a pair names no source
  NoHubForTurns : {listeners : List L} {pairs : List ℕ}
      → Plays hearing (Waiting listeners) (turns pairs) (refused (words_of_refusal NoHub) ∷ []) [] (Waiting listeners)
  NotNamed : {hub : HubState L} {pairs : List ℕ} (at : ℕ) → 2 * at < length pairs → sources_in hub ≤ source_of (get_or pairs (2 * at) 0)
      → Plays hearing (Serving hub) (turns pairs) (refused (words_of_refusal Nobody) ∷ []) [] (Serving hub)
  AllTurned : {hub : HubState L} {pairs : List ℕ} (calls : List Call) (events : List Event) (said : List (List ℕ)) (new : HubState L)
      → AllNamed hub pairs → Turned hearing hub pairs calls events said new
      → Plays hearing (Serving hub) (turns pairs) (said ++ words_of_turns events ∷ []) calls (Serving new)
  -- how often the listeners of a source have heard
  NoHubToCount : {listeners : List L} {source : ℕ}
      → Plays hearing (Waiting listeners) (heard source) (refused (words_of_refusal NoHub) ∷ []) [] (Waiting listeners)
  NoneToCount : {hub : HubState L} {source : ℕ} → sources_in hub ≤ source
      → Plays hearing (Serving hub) (heard source) (refused (words_of_refusal Nobody) ∷ []) [] (Serving hub)
  Counted : {hub : HubState L} {source : ℕ} (members : List L) → source < sources_in hub → slice_get hub.chains source ≡ Some members
      → Plays hearing (Serving hub) (heard source) (words_of_heard (counts_of hearing (listed members)) ∷ []) [] (Serving hub)
  -- a listener of a source is dropped
  NoHubToDrop : {listeners : List L} {source at : ℕ}
      → Plays hearing (Waiting listeners) (removal source at) (refused (words_of_refusal NoHub) ∷ []) [] (Waiting listeners)
  NoneToDrop : {hub : HubState L} {source at : ℕ} → sources_in hub ≤ source
      → Plays hearing (Serving hub) (removal source at) (refused (words_of_refusal Nobody) ∷ []) [] (Serving hub)
  NoListener : {hub : HubState L} {source at : ℕ} (members : List L) → source < sources_in hub → slice_get hub.chains source ≡ Some members
      → length (listed members) ≤ at → Plays hearing (Serving hub) (removal source at) (refused (words_of_refusal Nobody) ∷ []) [] (Serving hub)
  Dropped : {hub : HubState L} {source at : ℕ} (members : List L) (new : HubState L) → source < sources_in hub
      → slice_get hub.chains source ≡ Some members → at < length (listed members) → HubRemoves source at hub new
      → Plays hearing (Serving hub) (removal source at) ((codes "dropped " ++ decimal source ++ codes " " ++ decimal at) ∷ []) (Removes source at ∷ [])
      (Serving new)
