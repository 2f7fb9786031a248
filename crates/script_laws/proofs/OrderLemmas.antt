-- Over all lines a bridge that is on stays in step with the handover.
use Rattle.std.proofs.Common.{◌≡◌, ◌∙◌, ◌⊎◌, inl, inr, ℕ, ◌<◌, ◌≤◌, Bool, true, false, List, [], ◌∷◌, ◌++◌, length, get_or, Option, Some, None, Result, Ok, Err, refl, sym, ap, subst, arith}
use Rattle.std.specs.Prelude.{not, if◌then◌else◌}
use Rattle.std.proofs.lemmas.List.{get_or_append_left}
use Rattle.record_model.specs.Records.{is_reserved}
use Rattle.apei_space.specs.Calls.{ReadBytes}
use Rattle.apei_space.specs.Accesses.{Reaches, Stays, Goes}
use Rattle.ghes_ack.specs.declared.submission.SubmitError.{SubmitError}
use Rattle.ghes_ack.specs.Machine.{Machine, Situation, Filling, Published, Reading, Cleared, Acknowledged, InSituation, IsState, is_idle, submitted}
use Rattle.ghes_ack.specs.Handovers.{StandsFor}
use Rattle.erst_client.specs.Commands.{ClientState}
use Rattle.erst_machine.specs.Memories.{MemoryState}
use Rattle.erst_machine.specs.MachineState.{MachineState, IsMachine}
use Rattle.erst_machine.specs.Allowed.{Allows}
use Rattle.erst_machine.specs.Events.{Submits, Event, Accessed, Submitted, Laid, Happens}
use Rattle.erst_machine.specs.Stations.{apart}
use Rattle.erst_machine.proofs.EventLemmas.{events_keep}
use Rattle.erst_bridge.specs.Bridges.{BridgeState, Off, Awaits, Holds, Releases}
use Rattle.erst_bridge.specs.InStep.{IsInStep as InStepWith}
use Rattle.erst_bridge.specs.Turns.{Step}
use Rattle.erst_bridge.specs.MachinesInStep.{StandsInStep, KeepOrder}
use Rattle.erst_bridge.proofs.MachinesInStepLemmas.{turns_in_step}
use Rattle.script_text.specs.ScriptGrammar.{Line}
use Rattle.apei_script.specs.Players.{PlayerState, budget_of}
use Rattle.apei_script.specs.Words.{Reply}
use Rattle.apei_script.specs.Tables.{GivesTable, IsNoTable, IsNotAttached, IsAttached}
use Rattle.apei_script.specs.Happened.{Happened, Once, Turn as TurnLine, IsListed}
use Rattle.apei_script.specs.Bridged.{bridge_refusal, ByBridge, Enters, StaysAs, BridgesTurns}
use Rattle.apei_script.specs.Plays.{Plays, Blank, ByClient, GivenTable, OwnTable, GivenShadow, OnMachine, ByTheBridge, OnlyTells, Reset, Power, played_as}
use Rattle.script_laws.specs.History.{Played, heard_after, Follows}
use Rattle.script_laws.specs.Orders.{IsInStep, AlwaysInStep}
use Rattle.apei_script.proofs.OneEvent.{IsQuiet, NeedsNoBridge, once}

-- off, or in step
abbrev InStep : BridgeState → MachineState → Type 0
InStep state machine = (state ≡ Off) ⊎ ((m : Machine) × StandsInStep state machine m)

-- one block more waits: what was taken stays
few_taken : (m : Machine) (s : Situation) → InSituation m s → m.taken ≤ length m.blocks
few_taken m Filling h = omega (arith, h.taken, h.all)
few_taken m Published h = omega (arith, h.taken_is, h.there)
few_taken m Reading h = elim h [ inl x ↦ omega (arith, x.1.taken_is, x.1.there) | inr x ↦ omega (arith, x.1.taken_is, x.1.there) ]
few_taken m Cleared h = omega (arith, h.taken, h.all)
few_taken m Acknowledged h = omega (arith, h.taken, h.all)

get_front : (blocks : List (List ℕ)) (block : List ℕ) (k : ℕ) → k < length blocks → get_or (blocks ++ block ∷ []) k [] ≡ get_or blocks k []
get_front blocks block k within = get_or_append_left blocks (block ∷ []) [] k within

submit_step : (state : BridgeState) (len : ℕ) (m : Machine) (block : List ℕ) → IsState len m → InStepWith state m → InStepWith state (submitted m block)
submit_step Off len m block is step = tt
submit_step (Awaits id) len m block is step = step
submit_step (Holds id held) len m block is step =
    let few = few_taken m m.situation is.holds in
    (step.0, step.1, step.2 ∙ sym (get_front ([] ∷ m.blocks) block m.taken (omega arith)))
submit_step (Releases id) len m block is step = step

submits_step : (state : BridgeState) (old : MachineState) (block : List ℕ) (result : Result ℕ SubmitError) (new : MachineState) (m : Machine) → Submits old block result new → StandsInStep state old m
    → (also : Machine) × StandsInStep state new also
submits_step state old block (Ok n) new m submits paired =
    let memory : new.memory ≡ old.memory = ap (λ (s : MachineState). s.memory) submits.added in (
      submitted m block,
      record {
        stands = subst (λ (memory : MemoryState). StandsFor new.handover memory.shared (submitted m block)) (sym memory) (submits.stands old.memory.shared m paired.stands);
        step = submit_step state old.handover.map.len m block paired.stands.state paired.step;
      },
    )
submits_step state old block (Err error) new m submits paired = (m, subst (λ (s : MachineState). StandsInStep state s m) (sym submits.refused) paired)

-- turning the bridge on: the reader is idle, so that each block that was taken is acknowledged
idle_taken : (m : Machine) (s : Situation) → InSituation m s → is_idle s ≡ true → m.taken ≡ m.acknowledged
idle_taken m Filling is idle = is.taken
idle_taken m Published is idle = let t = is.taken_is in omega arith
idle_taken m Reading is idle = absurd (cc idle)
idle_taken m Cleared is idle = absurd (cc idle)
idle_taken m Acknowledged is idle = let t = is.taken in omega arith

enters_step : (old : PlayerState) (id : ℕ) → IsMachine old.machine → bridge_refusal old id ≡ None → (m : Machine) × StandsInStep (Awaits id) old.machine m
enters_step old id machine none =
    let m = machine.stands.0 in
    let stands = machine.stands.1 in (
      m,
      record {
        stands = stands;
        step = idle_taken m m.situation stands.state.holds (ap is_idle stands.situation ∙ not_refused (is_reserved id) old.bridge
            (is_idle old.machine.handover.situation) _ _ _ none);
      },
    )
  where
    not_refused : (a : Bool) (state : BridgeState) (c : Bool) (x y z : List ℕ)
        → (if a then Some x else elim state [ Off ↦ if not c then Some z else None | on ↦ Some y ]) ≡ None → c ≡ true
    not_refused true state c x y z e = absurd (cc e)
    not_refused false Off true x y z e = refl
    not_refused false Off false x y z e = absurd (cc e)
    not_refused false (Awaits id) c x y z e = absurd (cc e)
    not_refused false (Holds id block) c x y z e = absurd (cc e)
    not_refused false (Releases id) c x y z e = absurd (cc e)

module _ (tells : Type 0) where
  reached : (state : BridgeState) (old new : MachineState) → Reaches (Allows tells) old new → InStep state old → InStep state new
  reached state old new reaches (inl off) = inl off
  reached state old new reaches (inr pair) = inr (pair.0, record { stands = apart tells old new pair.0 reaches pair.1.stands; step = pair.1.step })

  event_step : (state : BridgeState) (old : MachineState) (event : Event) (new : MachineState) → IsQuiet event → Happens tells old event new → InStep state old → InStep state new
  event_step state old (Accessed (ReadBytes at before after answer)) new quiet allowed step = reached state old new (Goes old (ReadBytes at before after answer) new Stays allowed) step
  event_step state old (Submitted block result) new quiet submits (inl off) = inl off
  event_step state old (Submitted block result) new quiet submits (inr pair) = inr (submits_step state old block result new pair.0 submits pair.1)
  event_step state old (Laid block result) new quiet lays (inl off) = inl off
  event_step state old (Laid block result) new quiet lays (inr pair) =
      inr (pair.0, subst (λ (s : MachineState). StandsInStep state s pair.0) (sym lays.others) (record { stands = pair.1.stands; step = pair.1.step }))
  event_step state old event new quiet happens step = absurd quiet

  happened_step : (state : BridgeState) (old : MachineState) (line : Line) (words blocks : List (List ℕ)) (new : MachineState) →
      Happened tells old line words blocks new → NeedsNoBridge state line → InStep state old
      → InStep state new
  happened_step state old line words blocks new happened = elim happened as (λ line words blocks new happened. NeedsNoBridge state line → InStep state old → InStep state new) [
    | Once line event words new asks happens ↦ λ alone step. event_step state old event new (once line event words asks).quiet happens step
    | TurnLine letters events blocks new turned ↦ λ alone step. inl alone
    | IsListed blocks left laid ↦ λ alone step. step
  ]

  table_step : (state : BridgeState) (old : MachineState) (other : Option ClientState) (bytes words : List ℕ) (new : MachineState) (other_now : Option ClientState)
      → GivesTable tells old other bytes words new other_now → InStep state old → InStep state new
  table_step state old other bytes words new other_now gives step = elim gives as (λ words new other_now gives. InStep state new) [
    | IsNoTable why refused ↦ step
    | IsNotAttached erst why left new begins attaches reaches ↦ reached state old new reaches step
    | IsAttached erst client left new begins attaches reaches ↦ reached state old new reaches step
  ]

  bridge_step : (old : PlayerState) (line : Line) (said : List Reply) (blocks : List (List ℕ)) (steps : List Step) (next : BridgeState) (machine : MachineState) → IsMachine old.machine
      → ByBridge tells old line said blocks steps next machine → InStep old.bridge old.machine → KeepOrder old.bridge steps × InStep next machine
  bridge_step old line said blocks steps next machine is by step = elim by as (λ line said blocks steps next machine by. KeepOrder old.bridge steps × InStep next machine) [
    | Enters id none ↦ (tt, inr (enters_step old id is none))
    | StaysAs id why refuses ↦ (tt, step)
    | BridgesTurns letters steps next machine on are sides counted ↦ elim step [
      | inl off ↦ absurd (on off)
      | inr pair ↦ let turned = turns_in_step tells old.own (budget_of old) old.bridge old.machine steps next machine pair.0 are pair.1 in (turned.0, inr turned.1)
    ]
  ]

  pub line_order : (counts : List ℕ) (old : PlayerState) (line : Line) (said : List Reply) (blocks : List (List ℕ)) (steps : List Step) (new : PlayerState) → IsMachine old.machine
      → Plays tells counts old (played_as line said blocks steps new) → IsInStep old → KeepOrder old.bridge steps × IsInStep new
  line_order counts old line said blocks steps new machine plays step = elim plays as (λ one plays. KeepOrder old.bridge one.steps × IsInStep one.left) [
    | Blank ↦ (tt, step)
    | ByClient line words now commanded ↦ (tt, reached old.bridge old.machine now commanded.1 step)
    | GivenTable hex bytes words now other decoded gives ↦ (tt, table_step old.bridge old.machine old.other bytes words now other gives step)
    | OwnTable ↦ (tt, step)
    | GivenShadow left now attaches attached reaches ↦ (tt, reached old.bridge old.machine now reaches step)
    | OnMachine line words blocks now alone happened ↦ (tt, happened_step old.bridge old.machine line words blocks now happened alone step)
    | ByTheBridge line said blocks steps next now by ↦ bridge_step old line said blocks steps next now machine by step
    | OnlyTells ↦ (tt, step)
    | Reset n now warms ↦ (tt, inl refl)
    | Power n now powers ↦ (tt, inl refl)
  ]

  pub history_order : (wants : List (ℕ → Bool)) (counts : List ℕ) (first : PlayerState) (played : List Played) (last : PlayerState) → IsMachine first.machine
      → Follows tells wants counts first played last → IsInStep first → AlwaysInStep first played
  history_order wants counts first [] last machine follows step = step
  history_order wants counts first (line ∷ rest) last machine follows step =
      let one = line_order counts first line.line line.said line.blocks line.steps line.left machine follows.0.plays step in (
        step,
        one.0,
        history_order wants (heard_after wants line.blocks counts) line.left rest last
            (events_keep tells first.machine line.left.machine follows.0.happened.trail follows.0.happened.happens machine) follows.1 one.1,
      )
