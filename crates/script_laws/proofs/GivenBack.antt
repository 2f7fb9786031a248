-- The blocks that the reader of a bridge gives back are those that were stored.
use Rattle.std.proofs.Common.{◌≡◌, ◌∙◌, inl, inr, ℕ, Bool, List, [], ◌∷◌, Option, Some, None, Result, Ok, Err, refl, sym, ap, subst}
use Rattle.apei_space.specs.Calls.{ReadBytes}
use Rattle.apei_space.specs.Accesses.{Reaches, Stays, Goes}
use Rattle.ghes_ack.specs.declared.events.Side.TheVariants.{Firmware, Reader}
use Rattle.ghes_ack.specs.declared.events.Event.{Event as TurnEvent}
use Rattle.ghes_ack.specs.declared.events.Event.TheVariants.{Clear, Ack}
use Rattle.ghes_ack.specs.declared.submission.SubmitError.{SubmitError}
use Rattle.ghes_ack.specs.Machine.{Machine, Situation, Filling, Published, Reading, Cleared, Acknowledged, last_taken, turned, reader_turn}
use Rattle.ghes_ack.proofs.Terms.{Turned}
use Rattle.ghes_ack.specs.Handovers.{HandoverState}
use Rattle.erst_client.specs.Commands.{ClientState}
use Rattle.erst_machine.specs.MachineState.{MachineState, IsMachine}
use Rattle.erst_machine.specs.Allowed.{Allows}
use Rattle.erst_machine.specs.Events.{Turns, Submits, Event, Accessed, Submitted, Laid, Happens}
use Rattle.erst_machine.specs.Stations.{same_handover}
use Rattle.erst_machine.proofs.EventLemmas.{events_keep}
use Rattle.erst_bridge.specs.declared.events.BridgeEvent.{BridgeEvent}
use Rattle.erst_bridge.specs.declared.events.BridgeEvent.TheVariants.{Line as ByReader, Stored}
use Rattle.erst_bridge.specs.Bridges.{BridgeState, Off, Awaits, Holds, Releases, HoldsNone, after_reader, TurnsReader, Stores, Keeps, RunsOut}
use Rattle.erst_bridge.specs.InStep.{GivesBack, IsInOrder}
use Rattle.erst_bridge.proofs.InStepLemmas.{reading_cases}
use Rattle.erst_bridge.proofs.TurnLemmas.{reader_cases}
use Rattle.erst_bridge.specs.Turns.{BridgesMachine, Turn, OfFirmware, OfBridge, Step, IsTurn, AreTurns}
use Rattle.erst_bridge.specs.MachinesInStep.{StandsInStep}
use Rattle.erst_bridge.proofs.HandoverLemmas.{firmware_same, last_same}
use Rattle.erst_bridge.proofs.MachinesInStepLemmas.{handover_after, turn_in_step}
use Rattle.script_text.specs.ScriptGrammar.{Line}
use Rattle.apei_script.specs.Players.{PlayerState, budget_of}
use Rattle.apei_script.specs.Words.{Reply}
use Rattle.apei_script.specs.Tables.{GivesTable, IsNoTable, IsNotAttached, IsAttached}
use Rattle.apei_script.specs.Happened.{Happened, Once, Turn as TurnLine, IsListed}
use Rattle.apei_script.specs.Bridged.{ByBridge, Enters, StaysAs, BridgesTurns}
use Rattle.apei_script.specs.Plays.{Plays, Blank, ByClient, GivenTable, OwnTable, GivenShadow, OnMachine, ByTheBridge, OnlyTells, Reset, Power, played_as}
use Rattle.script_laws.specs.History.{Played, heard_after, Follows}
use Rattle.script_laws.specs.Orders.{IsInStep, stored_behind, GiveStoredBack, AllGiveStoredBack}
use Rattle.apei_script.proofs.OneEvent.{IsQuiet, NeedsNoBridge, once}
use Rattle.script_laws.proofs.OrderLemmas.{line_order}
use Rattle.erst_bridge.proofs.Terms.{KeepsOrder, last_of}

-- the block that was stored last, behind a turn
abbrev stored_by : Option (List ℕ) → BridgeState → Turn → Option (List ℕ)
stored_by last state turn = elim turn [
  | OfBridge (Stored id) ↦ elim state [ Holds held block ↦ Some block | other ↦ None ]
  | other ↦ last
]

-- and what is given back in a turn is that block
abbrev GivesStoredBack : Option (List ℕ) → MachineState → Turn → Type 0
GivesStoredBack last old turn = elim turn [ OfBridge (ByReader event) ↦ GivesBack event → last ≡ Some (last_of old) | other ↦ Unit {0} ]

-- until the reader has acknowledged it, the block that was stored last is the one that the reader took last
abbrev IsAtHand : Option (List ℕ) → BridgeState → MachineState → Type 0
IsAtHand last Off machine = Unit {0}
IsAtHand last (Awaits id) machine = Unit {0}
IsAtHand last (Holds id block) machine = Unit {0}
IsAtHand last (Releases next) machine = last ≡ Some (last_of machine)

at_hand_on : (last : Option (List ℕ)) (state : BridgeState) (old new : MachineState) → last_of new ≡ last_of old → IsAtHand last state old → IsAtHand last state new
at_hand_on last Off old new same held = tt
at_hand_on last (Awaits id) old new same held = tt
at_hand_on last (Holds id block) old new same held = tt
at_hand_on last (Releases next) old new same held = held ∙ ap (λ (block : List ℕ). Some block) (sym same)

-- a turn, and what is at hand behind it
abbrev GivesThen : Option (List ℕ) → BridgeState → MachineState → Turn → BridgeState → MachineState → Type 0
GivesThen last state old turn next new = GivesStoredBack last old turn × IsAtHand (stored_by last state turn) next new

-- no block is given back while one is awaited
none_given : (id : ℕ) (event : TurnEvent) → IsInOrder (Awaits id) (ByReader event) → GivesBack event → ⊥
none_given id Clear order gives = order
none_given id Ack order gives = order
none_given id event order gives = gives

-- giving a block back leaves it the one that was taken last
given_last : (m : Machine) (s : Situation) → GivesBack (reader_turn m s).0 → last_taken (reader_turn m s).1 ≡ last_taken m
given_last m Filling gives = absurd gives
given_last m Published gives = absurd gives
given_last m Reading gives = reading_cases (λ (t : Turned). GivesBack t.0 → last_taken t.1 ≡ last_taken m) m (λ more gives. absurd gives) (λ some gives. absurd gives) (λ all gives. refl) gives
given_last m Cleared gives = refl
given_last m Acknowledged gives = absurd gives

module _ (tells : Type 0) where
  module _ (client : ClientState) (budget : ℕ) where
    reader_gives : (last : Option (List ℕ)) (id : ℕ) (state : BridgeState) (old : MachineState) (event : TurnEvent) (new : MachineState) (m : Machine) →
        HoldsNone id state → Turns Reader old event new → StandsInStep state old m
        → KeepsOrder state (OfBridge (ByReader event)) → IsAtHand last state old → GivesThen last state old (OfBridge (ByReader event)) (after_reader event id (last_of new) state) new
    reader_gives last id Off old event new m none reads paired order held = absurd none
    reader_gives last id (Holds n block) old event new m none reads paired order held = absurd none
    reader_gives last id (Awaits n) old event new m none reads paired order held =
        ((λ gives. absurd (none_given n event order gives)), reader_cases (λ state. IsAtHand last state new) event id (last_of new) (Awaits n) tt tt tt)
    reader_gives last id (Releases n) old event new m none reads paired order held =
        let t = reads.turned m paired.stands in
        let same : last_of new ≡ last_of old = t.stands.last ∙ given_last m m.situation (subst GivesBack t.event_is order) ∙ sym paired.stands.last in
        ((λ gives. held), reader_cases (λ state. IsAtHand last state new) event id (last_of new) (Releases n) tt tt (at_hand_on last (Releases n) old new same held))

    bridge_gives : (last : Option (List ℕ)) (state : BridgeState) (old : MachineState) (event : BridgeEvent) (next : BridgeState) (left : ℕ) (new : MachineState) (m : Machine)
        → BridgesMachine tells client budget old state event next left new → StandsInStep state old m →
        StandsInStep next new (handover_after (OfBridge event) m) → KeepsOrder state (OfBridge event) → IsAtHand last state old
        → GivesThen last state old (OfBridge event) next new
    bridge_gives last state old event next left new m turn =
        elim turn as (λ state event after turn. StandsInStep state old m → StandsInStep after.bridge after.station (handover_after (OfBridge event) m) →
        KeepsOrder state (OfBridge event) → IsAtHand last state old
        → GivesThen last state old (OfBridge event) after.bridge after.station) [
          | TurnsReader id state event new none reads ↦ λ paired behind order held. reader_gives last id state old event new m none reads paired order held
          | Stores id block left new small writes ↦ λ paired behind order held.
              (tt, ap (λ (block : List ℕ). Some block) (paired.step.2 ∙ sym behind.stands.last))
          | Keeps id block error left new small writes ↦ λ paired behind order held. (tt, tt)
          | RunsOut id block at ↦ λ paired behind order held. (tt, tt)
        ]

    turn_gives : (last : Option (List ℕ)) (state : BridgeState) (old : MachineState) (turn : Turn) (next : BridgeState) (new : MachineState) (m : Machine) →
        IsTurn tells client budget state old turn next new
        → StandsInStep state old m → StandsInStep next new (handover_after turn m) → KeepsOrder state turn → IsAtHand last state old → GivesThen last state old turn next new
    turn_gives last state old (OfFirmware event) next new m is paired behind order held =
        let same = firmware_same m m.situation in
        let last_is : last_of new ≡ last_of old = behind.stands.last ∙ last_same m (turned Firmware m).1 same.taken same.blocks ∙ sym paired.stands.last in
        (tt, subst (λ (b : BridgeState). IsAtHand last b new) (sym is.0) (at_hand_on last state old new last_is held))
    turn_gives last state old (OfBridge event) next new m is paired behind order held = bridge_gives last state old event next is.0 new m is.1 paired behind order held

    turns_give : (last : Option (List ℕ)) (state : BridgeState) (old : MachineState) (steps : List Step) (next : BridgeState) (new : MachineState) (m : Machine)
        → AreTurns tells client budget state old steps next new
        → StandsInStep state old m → IsAtHand last state old → GiveStoredBack last state old steps × IsAtHand (stored_behind last state steps) next new
    turns_give last state old [] next new m are paired held =
        (tt, subst (λ (b : BridgeState). IsAtHand last b new) (sym are.0) (subst (IsAtHand last state) (sym are.1) held))
    turns_give last state old (step ∷ rest) next new m are paired held =
        let behind = turn_in_step tells client budget state old step.turn step.bridge step.machine m are.0 paired in
        let one = turn_gives last state old step.turn step.bridge step.machine m are.0 paired behind.1 behind.0 held in
        let more = turns_give (stored_by last state step.turn) step.bridge step.machine rest next new (handover_after step.turn m) are.1 behind.1 one.1 in
        ((one.0, more.0), more.1)

  -- what else happens to the machine leaves the block that was taken last
  reached_last : (old new : MachineState) → Reaches (Allows tells) old new → last_of new ≡ last_of old
  reached_last old new Stays = refl
  reached_last old new (Goes mid call last before allowed) = ap (λ (h : HandoverState). h.last) (same_handover tells mid last call allowed).handover ∙ reached_last old mid before

  submitted_last : (old : MachineState) (block : List ℕ) (result : Result ℕ SubmitError) (new : MachineState) → Submits old block result new → last_of new ≡ last_of old
  submitted_last old block (Ok n) new submits = ap last_of submits.added
  submitted_last old block (Err error) new submits = ap last_of submits.refused

  event_last : (old : MachineState) (event : Event) (new : MachineState) → IsQuiet event → Happens tells old event new → last_of new ≡ last_of old
  event_last old (Accessed (ReadBytes at before after answer)) new quiet allowed = reached_last old new (Goes old (ReadBytes at before after answer) new Stays allowed)
  event_last old (Submitted block result) new quiet submits = submitted_last old block result new submits
  event_last old (Laid block result) new quiet lays = ap last_of lays.others
  event_last old event new quiet happens = absurd quiet

  happened_at_hand : (last : Option (List ℕ)) (state : BridgeState) (old : MachineState) (line : Line) (words blocks : List (List ℕ)) (new : MachineState) →
      Happened tells old line words blocks new → NeedsNoBridge state line
      → IsAtHand last state old → IsAtHand last state new
  happened_at_hand last state old line words blocks new happened = elim happened as (λ line words blocks new happened. NeedsNoBridge state line → IsAtHand last state old → IsAtHand last state new) [
    | Once line event words new asks happens ↦ λ alone held. at_hand_on last state old new (event_last old event new (once line event words asks).quiet happens) held
    | TurnLine letters events blocks new turned ↦ λ alone held. subst (λ (b : BridgeState). IsAtHand last b new) (sym alone) tt
    | IsListed blocks left laid ↦ λ alone held. held
  ]

  table_last : (old : MachineState) (other : Option ClientState) (bytes words : List ℕ) (new : MachineState) (other_now : Option ClientState) →
      GivesTable tells old other bytes words new other_now → last_of new ≡ last_of old
  table_last old other bytes words new other_now gives = elim gives as (λ words new other_now gives. last_of new ≡ last_of old) [
    | IsNoTable why refused ↦ refl
    | IsNotAttached erst why left new begins attaches reaches ↦ reached_last old new reaches
    | IsAttached erst client left new begins attaches reaches ↦ reached_last old new reaches
  ]

  by_bridge : (last : Option (List ℕ)) (old : PlayerState) (line : Line) (said : List Reply) (blocks : List (List ℕ)) (steps : List Step) (next : BridgeState) (machine : MachineState)
      → ByBridge tells old line said blocks steps next machine → IsInStep old → IsAtHand last old.bridge old.machine
      → GiveStoredBack last old.bridge old.machine steps × IsAtHand (stored_behind last old.bridge steps) next machine
  by_bridge last old line said blocks steps next machine by =
      elim by as (λ line said blocks steps next machine by. IsInStep old → IsAtHand last old.bridge old.machine
      → GiveStoredBack last old.bridge old.machine steps × IsAtHand (stored_behind last old.bridge steps) next machine) [
        | Enters id none ↦ λ step held. (tt, tt)
        | StaysAs id why refuses ↦ λ step held. (tt, held)
        | BridgesTurns letters steps next machine on are sides counted ↦ λ step held. elim step [
          | inl off ↦ absurd (on off)
          | inr pair ↦ turns_give old.own (budget_of old) last old.bridge old.machine steps next machine pair.0 are pair.1 held
        ]
      ]

  line_gives : (last : Option (List ℕ)) (counts : List ℕ) (old : PlayerState) (line : Line) (said : List Reply) (blocks : List (List ℕ)) (steps : List Step) (new : PlayerState)
      → Plays tells counts old (played_as line said blocks steps new) → IsInStep old → IsAtHand last old.bridge old.machine
      → GiveStoredBack last old.bridge old.machine steps × IsAtHand (stored_behind last old.bridge steps) new.bridge new.machine
  line_gives last counts old line said blocks steps new plays =
      elim plays as (λ one plays. IsInStep old → IsAtHand last old.bridge old.machine
      → GiveStoredBack last old.bridge old.machine one.steps × IsAtHand (stored_behind last old.bridge one.steps) one.left.bridge one.left.machine) [
        | Blank ↦ λ step held. (tt, held)
        | ByClient line words now commanded ↦ λ step held. (tt, at_hand_on last old.bridge old.machine now (reached_last old.machine now commanded.1) held)
        | GivenTable hex bytes words now other decoded gives ↦ λ step held. (tt, at_hand_on last old.bridge old.machine now (table_last old.machine old.other bytes words now other gives) held)
        | OwnTable ↦ λ step held. (tt, held)
        | GivenShadow left now attaches attached reaches ↦ λ step held. (tt, at_hand_on last old.bridge old.machine now (reached_last old.machine now reaches) held)
        | OnMachine line words blocks now alone happened ↦ λ step held. (tt, happened_at_hand last old.bridge old.machine line words blocks now happened alone held)
        | ByTheBridge line said blocks steps next now by ↦ λ step held. by_bridge last old line said blocks steps next now by step held
        | OnlyTells ↦ λ step held. (tt, held)
        | Reset n now warms ↦ λ step held. (tt, tt)
        | Power n now powers ↦ λ step held. (tt, tt)
      ]

  lines_give : (last : Option (List ℕ)) (wants : List (ℕ → Bool)) (counts : List ℕ) (first : PlayerState) (played : List Played) (end : PlayerState) → IsMachine first.machine
      → Follows tells wants counts first played end → IsInStep first → IsAtHand last first.bridge first.machine → AllGiveStoredBack last first played
  lines_give last wants counts first [] end machine follows step held = tt
  lines_give last wants counts first (line ∷ rest) end machine follows step held =
      let behind = line_order tells counts first line.line line.said line.blocks line.steps line.left machine follows.0.plays step in
      let one = line_gives last counts first line.line line.said line.blocks line.steps line.left follows.0.plays step held in (
        one.0,
        lines_give (stored_behind last first.bridge line.steps) wants (heard_after wants line.blocks counts) line.left rest end
            (events_keep tells first.machine line.left.machine follows.0.happened.trail follows.0.happened.happens machine) follows.1 behind.1 one.1,
      )

  pub history_gives_back : (wants : List (ℕ → Bool)) (counts : List ℕ) (first : PlayerState) (played : List Played) (end : PlayerState) → IsMachine first.machine
      → Follows tells wants counts first played end → first.bridge ≡ Off → AllGiveStoredBack None first played
  history_gives_back wants counts first played end machine follows off =
      lines_give None wants counts first played end machine follows (inl off) (subst (λ (b : BridgeState). IsAtHand None b first.machine) (sym off) tt)
