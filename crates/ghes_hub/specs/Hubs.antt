-- A hub: its sources, the listeners of each, and lists of calls.
use Rattle.std.specs.Prelude.{◌≡◌, ◌≢◌, ℕ, ◌==◌, if◌then◌else◌, List, [], ◌∷◌, length, Some, None, slice_get, remove, take}
use Rattle.apei_notify.specs.Telling.{Hearing, Told}
use Rattle.ghes_ack.specs.declared.events.Side.{Side}
use Rattle.ghes_ack.specs.declared.events.Event.{Event}
use Rattle.ghes_ack.specs.Machine.{Machine, submitted}
use Rattle.ghes_ack.specs.Schedules.{Step, Submit, Turn, Watched, from_start, AreInOrder, submissions}
use Rattle.ghes_hub.specs.Kinds.{Kind, turned_by}
use Rattle.ghes_hub.specs.Runs.{run_by, events_by, told_at}
use Rattle.ghes_hub.specs.OneSource.{last_of}
use Rattle.ghes_hub.specs.SourcesState.{SourcesState, layouts_in, StandsAt}

-- `L` is the type of a listener
pub record HubState (L : Type 0) : Type 0 where
  pub sources : SourcesState
  pub chains : List (List L)

abbrev pub sources_in : {L : Type 0} → HubState L → ℕ
sources_in hub = length hub.sources.list

-- the block that a source took last
abbrev pub last_in : SourcesState → ℕ → List ℕ
last_in s i = elim (slice_get s.list i) [ None ↦ [] | Some handover ↦ last_of handover ]

-- calls of a hub with their answers
pub data Call : Type 0 where
  Submits : ℕ → List ℕ → Call
  Turns : ℕ → Side → Event → Call
  Removes : ℕ → ℕ → Call

-- a block is submitted to source i; the others stand for what they stood for
pub record HubSubmits {L : Type 0} (i : ℕ) (block : List ℕ) (old new : HubState L) : Type 0 where
  pub submitted : (kind : Kind) (m : Machine) → StandsAt kind old.sources i m → StandsAt kind new.sources i (submitted m block)
  pub others : (kind : Kind) (j : ℕ) (m : Machine) → j ≢ i → StandsAt kind old.sources j m → StandsAt kind new.sources j m
  pub chains : new.chains ≡ old.chains
  pub layouts : layouts_in new.sources ≡ layouts_in old.sources
  pub count : sources_in new ≡ sources_in old

-- a turn of source i: the others stand for what they stood for; its listeners, and no others, are told of the block that it took, if any
pub record HubTurns {L : Type 0} (hearing : L → Hearing) (i : ℕ) (side : Side) (event : Event) (old new : HubState L) : Type 0 where
  pub turned : (kind : Kind) (m : Machine) → StandsAt kind old.sources i m →
      let turn = turned_by kind side m in (event ≡ turn.0) × StandsAt kind new.sources i turn.1
  pub others : (kind : Kind) (j : ℕ) (m : Machine) → j ≢ i → StandsAt kind old.sources j m → StandsAt kind new.sources j m
  pub told : (members : List L) → slice_get old.chains i ≡ Some members →
      (now : List L) × (slice_get new.chains i ≡ Some now) × Told hearing (told_at event (last_in new.sources i)) members now
  pub other_chains : (j : ℕ) → j ≢ i → slice_get new.chains j ≡ slice_get old.chains j
  pub layouts : layouts_in new.sources ≡ layouts_in old.sources
  pub count : sources_in new ≡ sources_in old

-- a listener of source i, and no other, is dropped
pub record HubRemoves {L : Type 0} (i at : ℕ) (old new : HubState L) : Type 0 where
  pub sources : new.sources ≡ old.sources
  pub removed : (members : List L) → slice_get old.chains i ≡ Some members → slice_get new.chains i ≡ Some (remove members at)
  pub other_chains : (j : ℕ) → j ≢ i → slice_get new.chains j ≡ slice_get old.chains j

-- what some calls are said to do, one after another
abbrev pub DoAll : {L : Type 0} → (L → Hearing) → List Call → HubState L → HubState L → Type 0
DoAll hearing [] first last = last ≡ first
DoAll {L} hearing (Submits i block ∷ calls) first last =
    (between : HubState L) × HubSubmits i block first between × DoAll hearing calls between last
DoAll {L} hearing (Turns i side event ∷ calls) first last =
    (between : HubState L) × HubTurns hearing i side event first between × DoAll hearing calls between last
DoAll {L} hearing (Removes i at ∷ calls) first last =
    (between : HubState L) × HubRemoves i at first between × DoAll hearing calls between last

-- one source's own submissions and turns, and the events of its turns
abbrev pub steps_at : ℕ → List Call → List Step
steps_at j [] = []
steps_at j (Submits i block ∷ calls) = if i == j then Submit block ∷ steps_at j calls else steps_at j calls
steps_at j (Turns i side event ∷ calls) = if i == j then Turn side ∷ steps_at j calls else steps_at j calls
steps_at j (Removes i at ∷ calls) = steps_at j calls

abbrev pub events_at : ℕ → List Call → List Event
events_at j [] = []
events_at j (Submits i block ∷ calls) = events_at j calls
events_at j (Turns i side event ∷ calls) = if i == j then event ∷ events_at j calls else events_at j calls
events_at j (Removes i at ∷ calls) = events_at j calls

-- those of its listeners that its removals leave
abbrev pub left_at : {L : Type 0} → ℕ → List Call → List L → List L
left_at j [] members = members
left_at j (Submits i block ∷ calls) members = left_at j calls members
left_at j (Turns i side event ∷ calls) members = left_at j calls members
left_at j (Removes i at ∷ calls) members = left_at j calls (if i == j then remove members at else members)

-- a source as it was opened: its kind, its number among the generic ones, its window and its listeners
pub record OpenedSource (L : Type 0) : Type 0 where
  pub kind : Kind
  pub number : ℕ
  pub window : List ℕ
  pub listeners : List L

-- its machine, and what its reader has, after its own steps among some calls
abbrev pub watched_at : {L : Type 0} → OpenedSource L → List Call → Watched
watched_at source calls = run_by source.kind (from_start source.window) (steps_at source.number calls)

-- a source of a hub after some calls from an opening: it stands for the machine of its kind that made its own steps, it answered that
-- machine's events, what the reader copied out of the window are the first blocks of those submitted to it, as many as were taken, whole,
-- each once, in order; and of these blocks its listeners that are left were told
pub record Serves {L : Type 0} (hearing : L → Hearing) (source : OpenedSource L) (calls : List Call) (last : HubState L) : Type 0 where
  pub stands : StandsAt source.kind last.sources source.number (watched_at source calls).machine
  pub events : events_at source.number calls ≡ events_by source.kind (from_start source.window) (steps_at source.number calls)
  pub blocks : (watched_at source calls).machine.blocks ≡ submissions (steps_at source.number calls)
  pub taken : (watched_at source calls).taken ≡ take (watched_at source calls).machine.taken (submissions (steps_at source.number calls))
  pub order : AreInOrder (watched_at source calls).machine
  pub now : List L
  pub members_are : slice_get last.chains source.number ≡ Some now
  pub told : Told hearing (watched_at source calls).taken (left_at source.number calls source.listeners) now
