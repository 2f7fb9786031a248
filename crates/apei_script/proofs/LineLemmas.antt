-- What one line did to the machine, as one list of what happens.
use Rattle.std.proofs.Common.{◌≡◌, ℕ, List, Option, Ok, Err, refl}
use Rattle.base_model.specs.Faults.{Rose}
use Rattle.ghes_ack.specs.declared.events.Event.{Event as TurnEvent}
use Rattle.erst_client.specs.Commands.{ClientState}
use Rattle.erst_machine.specs.MachineState.{MachineState, IsMachine}
use Rattle.erst_machine.specs.Events.{Warmed, Powered, Turned as OneTurn}
use Rattle.erst_machine.proofs.CrashTrail.{events_are_shown, reached_happens}
use Rattle.erst_machine.proofs.EventLemmas.{events_keep}
use Rattle.erst_bridge.specs.Bridges.{BridgeState}
use Rattle.erst_bridge.specs.Turns.{Step}
use Rattle.erst_bridge.proofs.TrailLemmas.{HasTrail, no_moves, one_move, moves_then, turns_trail}
use Rattle.script_text.specs.ScriptGrammar.{Line}
use Rattle.apei_script.specs.Words.{Reply}
use Rattle.apei_script.specs.Players.{PlayerState, budget_of}
use Rattle.apei_script.specs.Tables.{GivesTable, IsNoTable, IsNotAttached, IsAttached}
use Rattle.apei_script.specs.Happened.{Turned, NoTurn, OneMore, Happened, Once, Turn, IsListed}
use Rattle.script_text.specs.Turns.{side_of}
use Rattle.apei_script.specs.Bridged.{ByBridge, Enters, StaysAs, BridgesTurns}
use Rattle.apei_script.specs.Plays.{Plays, Blank, ByClient, GivenTable, OwnTable, GivenShadow, OnMachine, ByTheBridge, OnlyTells, Reset, Power, FailsRestart}
use Rattle.apei_script.specs.Plays.{ResetFails, PowerFails, HasHappened, played_as}
use Rattle.apei_script.proofs.EventChanges.{along}

module _ (tells : Type 0) where
  turned : (old : MachineState) (letters : List ℕ) (events : List TurnEvent) (blocks : List (List ℕ)) (new : MachineState) → Turned old letters events blocks new → HasTrail tells old new
  turned old letters events blocks new turns = elim turns as (λ letters events blocks new turns. HasTrail tells old new) [
    | NoTurn ↦ no_moves tells old
    | OneMore letters events blocks mid letter event new (before → trails) turns ↦ moves_then tells old mid new trails (one_move tells mid (OneTurn (side_of letter) event) new turns)
  ]

  of_happened : (old : MachineState) (line : Line) (said blocks : List (List ℕ)) (new : MachineState) → Happened tells old line said blocks new → HasTrail tells old new
  of_happened old line said blocks new happened = elim happened as (λ line said blocks new happened. HasTrail tells old new) [
    | Once line event words new asks happens ↦ one_move tells old event new happens
    | Turn letters events blocks new turns ↦ turned old letters events blocks new turns
    | IsListed blocks left laid ↦ no_moves tells old
  ]

  of_table : (old : MachineState) (other : Option ClientState) (bytes words : List ℕ) (new : MachineState) (other_now : Option ClientState) →
      GivesTable tells old other bytes words new other_now → HasTrail tells old new
  of_table old other bytes words new other_now gives = elim gives as (λ words new other_now gives. HasTrail tells old new) [
    | IsNoTable why refused ↦ no_moves tells old
    | IsNotAttached erst why left new begins attaches reaches ↦ reached_happens tells old new reaches
    | IsAttached erst client left new begins attaches reaches ↦ reached_happens tells old new reaches
  ]

  of_bridge : (old : PlayerState) (line : Line) (said : List Reply) (blocks : List (List ℕ)) (steps : List Step) (next : BridgeState) (machine : MachineState)
      → ByBridge tells old line said blocks steps next machine → HasTrail tells old.machine machine
  of_bridge old line said blocks steps next machine by = elim by as (λ line said blocks steps next machine by. HasTrail tells old.machine machine) [
    | Enters id none_refuses ↦ no_moves tells old.machine
    | StaysAs id why refuses ↦ no_moves tells old.machine
    | BridgesTurns letters steps next machine on are sides counted ↦ turns_trail tells old.own (budget_of old) old.bridge old.machine steps next machine are
  ]

  -- every line
  pub of_line : (counts : List ℕ) (old : PlayerState) (line : Line) (said : List Reply) (blocks : List (List ℕ)) (steps : List Step) (new : PlayerState) →
      Plays tells counts old (played_as line said blocks steps new) → HasTrail tells old.machine new.machine
  of_line counts old line said blocks steps new plays = elim plays as (λ one plays. HasTrail tells old.machine one.left.machine) [
    | Blank ↦ no_moves tells old.machine
    | ByClient line words machine commanded ↦ reached_happens tells old.machine machine commanded.1
    | GivenTable hex bytes words machine other decoded gives ↦ of_table old.machine old.other bytes words machine other gives
    | OwnTable ↦ no_moves tells old.machine
    | GivenShadow left machine attaches attached reaches ↦ reached_happens tells old.machine machine reaches
    | OnMachine line said blocks machine alone happened ↦ of_happened old.machine line said blocks machine happened
    | ByTheBridge line said blocks steps next machine by ↦ of_bridge old line said blocks steps next machine by
    | OnlyTells ↦ no_moves tells old.machine
    | Reset n machine warms ↦ one_move tells old.machine (Warmed (Ok n)) machine warms
    | Power n machine powers ↦ one_move tells old.machine (Powered (Ok n)) machine powers
  ]

  has_happened : (old new : MachineState) → HasTrail tells old new → HasHappened tells old new
  has_happened old new trails =
      let takes = along tells old new trails.0 trails.1 in
      record { trail = trails.0; happens = trails.1; shown = λ told. events_are_shown tells told old new trails.0 trails.1; never_falls = takes.never_falls; exact = takes.exact }

  pub line_happened : (counts : List ℕ) (old : PlayerState) (line : Line) (said : List Reply) (blocks : List (List ℕ)) (steps : List Step) (new : PlayerState) →
      Plays tells counts old (played_as line said blocks steps new) →
      HasHappened tells old.machine new.machine
  line_happened counts old line said blocks steps new plays = has_happened old.machine new.machine (of_line counts old line said blocks steps new plays)

  pub failed_restart : (old : MachineState) (line : Line) (new : MachineState) → FailsRestart tells old line new →
      HasHappened tells old new × Rose old.device.store.flash.faults new.device.store.flash.faults
  failed_restart old line new fails = elim fails as (λ line new fails. HasHappened tells old new × Rose old.device.store.flash.faults new.device.store.flash.faults) [
    | ResetFails error new warms ↦ (has_happened old new (one_move tells old (Warmed (Err error)) new warms), warms.leaves.cause.1)
    | PowerFails error new powers ↦ (has_happened old new (one_move tells old (Powered (Err error)) new powers), powers.restarts.leaves.cause.1)
  ]

  -- the machine stays one, its flash divided as it was
  pub line_keeps : (counts : List ℕ) (old : PlayerState) (line : Line) (said : List Reply) (blocks : List (List ℕ)) (steps : List Step) (new : PlayerState) → IsMachine old.machine →
      Plays tells counts old (played_as line said blocks steps new) → IsMachine new.machine
  line_keeps counts old line said blocks steps new machine plays =
      let trails = of_line counts old line said blocks steps new plays in
      events_keep tells old.machine new.machine trails.0 trails.1 machine

  pub line_divides : (counts : List ℕ) (old : PlayerState) (line : Line) (said : List Reply) (blocks : List (List ℕ)) (steps : List Step) (new : PlayerState) →
      Plays tells counts old (played_as line said blocks steps new) →
      new.machine.device.store.layout ≡ old.machine.device.store.layout
  line_divides counts old line said blocks steps new plays =
      let trails = of_line counts old line said blocks steps new plays in
      (along tells old.machine new.machine trails.0 trails.1).layout

  -- the player's own client and steps stay
  pub line_own : (counts : List ℕ) (old : PlayerState) (line : Line) (said : List Reply) (blocks : List (List ℕ)) (steps : List Step) (new : PlayerState) →
      Plays tells counts old (played_as line said blocks steps new) →
      (new.own ≡ old.own) × (new.steps ≡ old.steps)
  line_own counts old line said blocks steps new plays = elim plays as (λ one plays. (one.left.own ≡ old.own) × (one.left.steps ≡ old.steps)) [
    | Blank ↦ (refl, refl)
    | ByClient line words machine commanded ↦ (refl, refl)
    | GivenTable hex bytes words machine other decoded gives ↦ (refl, refl)
    | OwnTable ↦ (refl, refl)
    | GivenShadow left machine attaches attached reaches ↦ (refl, refl)
    | OnMachine line said blocks machine alone happened ↦ (refl, refl)
    | ByTheBridge line said blocks steps next machine by ↦ (refl, refl)
    | OnlyTells ↦ (refl, refl)
    | Reset n machine warms ↦ (refl, refl)
    | Power n machine powers ↦ (refl, refl)
  ]
