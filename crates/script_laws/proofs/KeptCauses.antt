-- Why the turns of the bridge keep a block, over all lines.
use Rattle.std.proofs.Common.{◌≡◌, ◌∙◌, inl, inr, ℕ, ◌≤◌, Bool, List, [], ◌∷◌, Err, refl, sym, ap, subst}
use Rattle.base_model.specs.Faults.{Rose}
use Rattle.erst_client.specs.declared.errors.ClientError.{ClientError}
use Rattle.erst_client.specs.declared.errors.ClientError.TheVariants.{Hardware}
use Rattle.erst_client.specs.Commands.{ClientState}
use Rattle.erst_client.specs.Timings.{enough_steps}
use Rattle.erst_machine.specs.MachineState.{MachineState, IsMachine}
use Rattle.erst_machine.proofs.EventLemmas.{events_keep}
use Rattle.erst_commands.specs.Attached.{own_client}
use Rattle.erst_commands.specs.Causes.{GoesThrough}
use Rattle.erst_commands.specs.OwnPrograms.{OwnProgramsRun}
use Rattle.erst_bridge.specs.declared.events.BridgeEvent.TheVariants.{Line as ByReader, Stored, Kept, Out}
use Rattle.erst_bridge.specs.Bridges.{BridgeState}
use Rattle.erst_bridge.specs.Turns.{Turn, OfFirmware, OfBridge, Step, IsTurn, AreTurns}
use Rattle.erst_bridge.proofs.TrailLemmas.{own_client-same, turns_trail}
use Rattle.erst_bridge.proofs.CauseLemmas.{kept_hardware, kept_through}
use Rattle.apei_script.specs.Players.{PlayerState, budget_of}
use Rattle.script_laws.specs.History.{Played, heard_after, Follows}
use Rattle.apei_script.specs.Bridged.{EachTurn}
use Rattle.script_laws.specs.KeptCauses.{AllHaveCauses}
use Rattle.apei_script.proofs.EventChanges.{along}
use Rattle.script_laws.proofs.KeptLines.{line_turns, machine_then, own_then}

-- a turn that keeps its block has its cause
abbrev HasCause : Type 0 → MachineState → Turn → MachineState → Type 0
HasCause enough old turn new = elim turn [
  | OfBridge (Kept error) ↦ (error ≡ Hardware → Rose old.device.store.flash.faults new.device.store.flash.faults)
      × (enough → GoesThrough {T = Unit {0}} (Err error))
  | other ↦ Unit {0}
]

abbrev HaveCauses : Type 0 → BridgeState → MachineState → List Step → Type 0
HaveCauses enough state old steps = EachTurn (λ bridge old step. HasCause enough old step.turn step.machine) state old steps

module _ (tells : Type 0) (programs : OwnProgramsRun tells) where
  turn_cause : (client : ClientState) (budget : ℕ) (state : BridgeState) (old : MachineState) (turn : Turn) (next : BridgeState) (new : MachineState) → client ≡ own_client old → IsMachine old
      → IsTurn tells client budget state old turn next new → HasCause (enough_steps client.timings ≤ budget) old turn new
  turn_cause client budget state old (OfFirmware event) next new own machine is = tt
  turn_cause client budget state old (OfBridge (ByReader event)) next new own machine is = tt
  turn_cause client budget state old (OfBridge (Stored id)) next new own machine is = tt
  turn_cause client budget state old (OfBridge (Kept error)) next new own machine is = (
    λ failed. kept_hardware tells client budget old state (Kept error) next is.0 new is.1 programs own (ap (λ (e : ClientError). Kept e) failed),
    λ enough. kept_through tells client budget old state (Kept error) next is.0 new is.1 programs own machine enough error refl,
  )
  turn_cause client budget state old (OfBridge Out) next new own machine is = tt

  turns_cause : (client : ClientState) (budget : ℕ) (state : BridgeState) (old : MachineState) (steps : List Step) (next : BridgeState) (last : MachineState) → client ≡ own_client old → IsMachine old
      → AreTurns tells client budget state old steps next last → HaveCauses (enough_steps client.timings ≤ budget) state old steps
  turns_cause client budget state old [] next last own machine are = tt
  turns_cause client budget state old (step ∷ rest) next last own machine are =
      let trail = turns_trail tells client budget state old (step ∷ []) step.bridge step.machine (are.0, (refl, refl)) in
      let layout = (along tells old step.machine trail.0 trail.1).layout in (
        turn_cause client budget state old step.turn step.bridge step.machine own machine are.0,
        turns_cause client budget step.bridge step.machine rest next last (own ∙ sym (own_client-same old step.machine layout)) (events_keep tells old step.machine trail.0 trail.1 machine) are.1,
      )

  pub all_causes : (wants : List (ℕ → Bool)) (counts : List ℕ) (first : PlayerState) (played : List Played) (last : PlayerState) → IsMachine first.machine → first.own ≡ own_client first.machine
      → Follows tells wants counts first played last → AllHaveCauses first played
  all_causes wants counts first [] last machine own follows = tt
  all_causes wants counts first (line ∷ rest) last machine own follows = (
    elim (line_turns tells counts first line.line line.said line.blocks line.steps line.left follows.0.plays) [
      | inl none ↦ subst (λ (steps : List Step). HaveCauses (enough_steps first.own.timings ≤ budget_of first) first.bridge first.machine steps) (sym none) tt
      | inr are ↦ turns_cause first.own (budget_of first) first.bridge first.machine line.steps line.left.bridge line.left.machine own machine are
    ],
    all_causes wants (heard_after wants line.blocks counts) line.left rest last (machine_then tells counts first line follows.0 machine) (own_then tells counts first line follows.0 own) follows.1,
  )
