-- Lines that were played one after another make one list of calls of one hub.
use Rattle.std.proofs.Common.{◌≡◌, ℕ, ◌⊎◌, inl, inr, List, [], ◌∷◌, ◌++◌, refl, sym, ap, subst}
use Rattle.std.specs.List.{flat_map}
use Rattle.apei_notify.specs.Telling.{Hearing}
use Rattle.hest_sources.specs.declared.sources.HestSource.{HestSource}
use Rattle.ghes_ack.specs.declared.events.Event.{Event}
use Rattle.ghes_hub.specs.Hubs.{HubState, Call, Submits, Turns, Removes, DoAll}
use Rattle.ghes_hub.specs.Opens.{IsOpened}
use Rattle.ghes_hub.proofs.OpenLemmas.{from_opening}
use Rattle.hub_script.specs.HubGrammar.{Line}
use Rattle.hub_script.specs.Stages.{HubStage, Waiting, Serving}
use Rattle.hub_script.specs.Plays.{Plays, source_of, IsBlank, IsComment, NoTable, NoOpening, Opened, IsOpenAlready, NoHubForBlock, NoSource, NotTaken, Queued}
use Rattle.hub_script.specs.Plays.{Turned, NoTurn, OneMore, NoHubForTurns, NotNamed, AllTurned, NoHubToCount, NoneToCount, Counted, NoHubToDrop, NoneToDrop}
use Rattle.hub_script.specs.Plays.{NoListener, Dropped}
use Rattle.script_text.specs.Turns.{side_of}
use Rattle.hub_script.specs.History.{Played, Follows, AreServed, NoHub, ByHub}

-- calls, and then calls
do-append : {L : Type 0} (hearing : L → Hearing) (one two : List Call) (first mid last : HubState L) → DoAll hearing one first mid → DoAll hearing two mid last → DoAll hearing (one ++ two) first last
do-append {L} hearing [] two first mid last same later = subst (λ (h : HubState L). DoAll hearing two h last) same later
do-append hearing (Submits i block ∷ one) two first mid last (between, does, later) rest = (between, does, do-append hearing one two between mid last later rest)
do-append hearing (Turns i side event ∷ one) two first mid last (between, does, later) rest = (between, does, do-append hearing one two between mid last later rest)
do-append hearing (Removes i at ∷ one) two first mid last (between, does, later) rest = (between, does, do-append hearing one two between mid last later rest)

turned_does : {L : Type 0} (hearing : L → Hearing) (old : HubState L) (pairs : List ℕ) (calls : List Call) (events : List Event) (said : List (List ℕ))
    (new : HubState L) → Turned hearing old pairs calls events said new → DoAll hearing calls old new
turned_does hearing old pairs calls events said new is = elim is as (λ pairs calls events said new is. DoAll hearing calls old new) [
  | NoTurn ↦ refl
  | OneMore pairs calls events said mid digit letter event new (before → does) turn ↦
      do-append hearing calls (Turns (source_of digit) (side_of letter) event ∷ []) old mid new does (new, turn, refl)
]

-- a line of a hub that serves makes calls of that hub
record MakesCalls {L : Type 0} (hearing : L → Hearing) (hub : HubState L) (calls : List Call) (new : HubStage L) : Type 0 where
  after : HubState L
  serving : new ≡ Serving after
  does : DoAll hearing calls hub after

no_calls : {L : Type 0} (hearing : L → Hearing) (hub : HubState L) → MakesCalls hearing hub [] (Serving hub)
no_calls hearing hub = record { after = hub; serving = refl; does = refl }

makes_calls : {L : Type 0} (hearing : L → Hearing) (hub : HubState L) (line : Line) (said : List (List ℕ)) (calls : List Call) (new : HubStage L) →
    Plays hearing (Serving hub) line said calls new → MakesCalls hearing hub calls new
makes_calls hearing hub line said calls new IsBlank = no_calls hearing hub
makes_calls hearing hub line said calls new IsComment = no_calls hearing hub
makes_calls hearing hub line said calls new IsOpenAlready = no_calls hearing hub
makes_calls hearing hub line said calls new (NoSource none) = no_calls hearing hub
makes_calls hearing hub line said calls new (NotTaken block handover why within decoded at refuses) = no_calls hearing hub
makes_calls hearing hub line said calls new (Queued block handover after then within decoded at taken submits there) = record { after = then; serving = refl; does = (then, submits, refl) }
makes_calls hearing hub line said calls new (NotNamed at within none) = no_calls hearing hub
makes_calls hearing hub line said calls new (AllTurned made events shown then named turned) = record { after = then; serving = refl; does = turned_does hearing hub _ made events shown then turned }
makes_calls hearing hub line said calls new (NoneToCount none) = no_calls hearing hub
makes_calls hearing hub line said calls new (Counted members within at) = no_calls hearing hub
makes_calls hearing hub line said calls new (NoneToDrop none) = no_calls hearing hub
makes_calls hearing hub line said calls new (NoListener members within there none) = no_calls hearing hub
makes_calls hearing hub line said calls new (Dropped members then within there some removes) = record { after = then; serving = refl; does = (then, removes, refl) }

-- all calls of the hub, in order
abbrev calls_of : {L : Type 0} → List (Played L) → List Call
calls_of {L} lines = flat_map (λ (played : Played L). played.calls) lines

-- all lines from a hub that serves on
all_calls : {L : Type 0} (hearing : L → Hearing) (hub : HubState L) (played : List (Played L)) (last : HubStage L) → Follows hearing (Serving hub) played last →
    MakesCalls hearing hub (calls_of played) last
all_calls hearing hub [] last same = record { after = hub; serving = same; does = refl }
all_calls {L} hearing hub (one ∷ rest) last (plays, follows) =
    let here = makes_calls hearing hub one.line one.said one.calls one.left plays in
    let later = all_calls hearing here.after rest last (subst (λ (stage : HubStage L). Follows hearing stage rest last) here.serving follows) in
    record {
      after = later.after;
      serving = later.serving;
      does = do-append hearing one.calls (calls_of rest) hub here.after later.after here.does later.does;
    }

-- a line for listeners that wait makes no call: they go on to wait, or a hub was opened for a table
record MayOpen {L : Type 0} (listeners : List L) (calls : List Call) (new : HubStage L) : Type 0 where
  none : calls ≡ []
  opens : (new ≡ Waiting listeners) ⊎ ((table : List HestSource) × (hub : HubState L) × IsOpened table listeners hub × (new ≡ Serving hub))

waits_on : {L : Type 0} (listeners : List L) → MayOpen listeners [] (Waiting listeners)
waits_on listeners = record { none = refl; opens = inl refl }

may_open : {L : Type 0} (hearing : L → Hearing) (listeners : List L) (line : Line) (said : List (List ℕ)) (calls : List Call) (new : HubStage L) →
    Plays hearing (Waiting listeners) line said calls new → MayOpen listeners calls new
may_open hearing listeners line said calls new IsBlank = waits_on listeners
may_open hearing listeners line said calls new IsComment = waits_on listeners
may_open hearing listeners line said calls new (NoTable bytes why decoded refuses) = waits_on listeners
may_open hearing listeners line said calls new (NoOpening bytes n table why decoded within begins refuses) = waits_on listeners
may_open hearing listeners line said calls new (Opened bytes n table hub decoded within begins admits opened) = record { none = refl; opens = inr (table, hub, opened, refl) }
may_open hearing listeners line said calls new NoHubForBlock = waits_on listeners
may_open hearing listeners line said calls new NoHubForTurns = waits_on listeners
may_open hearing listeners line said calls new NoHubToCount = waits_on listeners
may_open hearing listeners line said calls new NoHubToDrop = waits_on listeners

by_hub : {L : Type 0} (hearing : L → Hearing) (table : List HestSource) (listeners : List L) (first : HubState L) (calls : List Call) (last : HubStage L) → IsOpened table listeners first
    → MakesCalls hearing first calls last → AreServed hearing listeners calls last
by_hub {L} hearing table listeners first calls last opened made = subst (AreServed hearing listeners calls) (sym made.serving)
    (ByHub table first made.after opened made.does (λ i source is. from_opening hearing table listeners i source calls first made.after opened is made.does))

pub are_served : {L : Type 0} (hearing : L → Hearing) (listeners : List L) (played : List (Played L)) (last : HubStage L) → Follows hearing (Waiting listeners)
    played last → AreServed hearing listeners (calls_of played) last
are_served hearing listeners [] last same = subst (AreServed hearing listeners []) (sym same) (NoHub refl)
are_served {L} hearing listeners (one ∷ rest) last (plays, follows) = choose (may_open hearing listeners one.line one.said one.calls one.left plays)
    (λ later. are_served hearing listeners rest last later)
  where
    front : one.calls ≡ [] → calls_of (one ∷ rest) ≡ calls_of rest
    front none = ap (λ (cs : List Call). cs ++ calls_of rest) none

    choose : MayOpen listeners one.calls one.left → (Follows hearing (Waiting listeners) rest last → AreServed hearing listeners (calls_of rest) last) →
        AreServed hearing listeners (calls_of (one ∷ rest)) last
    choose may goes = subst (λ (cs : List Call). AreServed hearing listeners cs last) (sym (front may.none)) (elim may.opens [
      | inl same ↦ goes (subst (λ (stage : HubStage L). Follows hearing stage rest last) same follows)
      | inr opens ↦ by_hub hearing opens.0 listeners opens.1 (calls_of rest) last opens.2
          (all_calls hearing opens.1 rest last (subst (λ (stage : HubStage L). Follows hearing stage rest last) opens.3 follows))
    ])
