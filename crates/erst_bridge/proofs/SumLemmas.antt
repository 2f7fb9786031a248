-- Each turn keeps the sums: what was stored is acknowledged or still to be, and what was taken is stored or held.
use Rattle.std.proofs.Common.{◌≡◌, ℕ, ◌+◌, List, [], ◌∷◌, refl, sym, ap, arith}
use Rattle.ghes_ack.specs.declared.events.Event.{Event}
use Rattle.ghes_ack.specs.declared.events.Event.TheVariants.{Idle, Fill, Publish, Free, Wait, Nothing, Found, Copied, Took, Clear, Ack}
use Rattle.erst_client.specs.Commands.{ClientState}
use Rattle.erst_machine.specs.MachineState.{MachineState}
use Rattle.erst_bridge.specs.declared.events.BridgeEvent.{BridgeEvent}
use Rattle.erst_bridge.specs.declared.events.BridgeEvent.TheVariants.{Line}
use Rattle.erst_bridge.specs.Bridges.{BridgeState, Off, Awaits, Holds, Releases, HoldsNone, after_reader, TurnsReader, Stores, Keeps, RunsOut}
use Rattle.erst_bridge.specs.InStep.{IsInOrder}
use Rattle.erst_bridge.specs.Turns.{BridgesMachine, Turn, OfFirmware, OfBridge, Step, IsTurn, AreTurns}
use Rattle.erst_bridge.specs.MachinesInStep.{KeepOrder}
use Rattle.erst_bridge.specs.Sums.{taken_by, stored_by, acknowledged_by, sum_of, held_in, released_in}
use Rattle.erst_bridge.proofs.Terms.{KeepsOrder, last_of}

-- the two sums of some turns
abbrev pub Balance : ℕ → ℕ → ℕ → BridgeState → BridgeState → Type 0
Balance taken stored acknowledged bridge next =
    (stored + released_in bridge ≡ acknowledged + released_in next) × (taken + held_in bridge ≡ stored + held_in next)

abbrev BalanceOf : Turn → BridgeState → BridgeState → Type 0
BalanceOf turn bridge next = Balance (taken_by turn) (stored_by turn) (acknowledged_by turn) bridge next

reader_balance : (id : ℕ) (bridge : BridgeState) (event : Event) (block : List ℕ) → HoldsNone id bridge → IsInOrder bridge (Line event)
    → BalanceOf (OfBridge (Line event)) bridge (after_reader event id block bridge)
reader_balance id Off event block none may = absurd none
reader_balance id (Holds n other) event block none may = absurd none
reader_balance id (Awaits n) Took block none may = (refl, refl)
reader_balance id (Awaits n) Ack block none may = absurd may
reader_balance id (Awaits n) Idle block none may = (refl, refl)
reader_balance id (Awaits n) Fill block none may = (refl, refl)
reader_balance id (Awaits n) Publish block none may = (refl, refl)
reader_balance id (Awaits n) Free block none may = (refl, refl)
reader_balance id (Awaits n) Wait block none may = (refl, refl)
reader_balance id (Awaits n) Nothing block none may = (refl, refl)
reader_balance id (Awaits n) Found block none may = (refl, refl)
reader_balance id (Awaits n) Copied block none may = (refl, refl)
reader_balance id (Awaits n) Clear block none may = absurd may
reader_balance id (Releases n) Took block none may = absurd may
reader_balance id (Releases n) Ack block none may = (refl, refl)
reader_balance id (Releases n) Idle block none may = absurd may
reader_balance id (Releases n) Fill block none may = absurd may
reader_balance id (Releases n) Publish block none may = absurd may
reader_balance id (Releases n) Free block none may = absurd may
reader_balance id (Releases n) Wait block none may = absurd may
reader_balance id (Releases n) Nothing block none may = absurd may
reader_balance id (Releases n) Found block none may = absurd may
reader_balance id (Releases n) Copied block none may = absurd may
reader_balance id (Releases n) Clear block none may = (refl, refl)

module _ (tells : Type 0) (client : ClientState) (budget : ℕ) where
  bridge_balance : (old : MachineState) (bridge : BridgeState) (event : BridgeEvent) (next : BridgeState) (left : ℕ) (new : MachineState)
      → BridgesMachine tells client budget old bridge event next left new → IsInOrder bridge event → BalanceOf (OfBridge event) bridge next
  bridge_balance old bridge event next left new turn =
      elim turn as (λ bridge event after turn. IsInOrder bridge event → BalanceOf (OfBridge event) bridge after.bridge) [
        | TurnsReader id bridge event new none reads ↦ λ may. reader_balance id bridge event (last_of new) none may
        | Stores id block left new small writes ↦ λ may. (refl, refl)
        | Keeps id block error left new small writes ↦ λ may. (refl, refl)
        | RunsOut id block last ↦ λ may. (refl, refl)
      ]

  turn_balance : (bridge : BridgeState) (old : MachineState) (turn : Turn) (next : BridgeState) (new : MachineState) → IsTurn tells client budget bridge old turn next new → KeepsOrder bridge turn
      → BalanceOf turn bridge next
  turn_balance bridge old (OfFirmware event) next new is may = (ap (λ (b : BridgeState). 0 + released_in b) (sym is.0), ap (λ (b : BridgeState). 0 + held_in b) (sym is.0))
  turn_balance bridge old (OfBridge event) next new is may = bridge_balance old bridge event next is.0 new is.1 may

  pub turns_balance : (bridge : BridgeState) (first : MachineState) (steps : List Step) (next : BridgeState) (last : MachineState) → AreTurns tells client budget bridge first steps next last
      → KeepOrder bridge steps → Balance (sum_of taken_by steps) (sum_of stored_by steps) (sum_of acknowledged_by steps) bridge next
  turns_balance bridge first [] next last are may = (ap (λ (b : BridgeState). 0 + released_in b) (sym are.0), ap (λ (b : BridgeState). 0 + held_in b) (sym are.0))
  turns_balance bridge first (step ∷ rest) next last are may =
      let one = turn_balance bridge first step.turn step.bridge step.machine are.0 may.0 in
      let more = turns_balance step.bridge step.machine rest next last are.1 may.1 in
      (let a = one.0 in let b = more.0 in omega arith, let a = one.1 in let b = more.1 in omega arith)
