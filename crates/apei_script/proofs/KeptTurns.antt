-- A record that is stored stays over turns that spare its identifier.
use Rattle.std.proofs.Common.{◌≡◌, ◌≢◌, ◌⊎◌, inl, inr, ℕ, ◌≤◌, nat_le, Bool, true, false, List, [], ◌∷◌, refl, sym, subst, arith}
use Rattle.std.specs.Prelude.{MatchBool}
use Rattle.std.proofs.lemmas.Bool.{le-leb}
use Rattle.base_model.proofs.CrashLemmas.{past_grows}
use Rattle.record_model.specs.Records.{Stored as Records}
use Rattle.erst_client.specs.Commands.{ClientState}
use Rattle.erst_machine.specs.MachineState.{MachineState, IsMachine, records_of, told_of}
use Rattle.erst_machine.specs.Shown.{changes_of}
use Rattle.erst_commands.specs.Attached.{own_client}
use Rattle.erst_commands.specs.OwnPrograms.{OwnProgramsRun}
use Rattle.erst_bridge.specs.declared.events.BridgeEvent.TheVariants.{Line as ByReader, Stored as IsStored, Kept, Out}
use Rattle.erst_bridge.specs.Bridges.{BridgeState, Holds, TurnsReader, Stores, Keeps, RunsOut}
use Rattle.erst_bridge.specs.Turns.{Turn, OfFirmware, OfBridge, Step, IsTurn, AreTurns}
use Rattle.erst_bridge.specs.Shown.{ShowsTurns, IsStoredAs, after_turn}
use Rattle.erst_bridge.proofs.TrailLemmas.{turn_keeps, turn_goes_on, own_on}
use Rattle.erst_bridge.proofs.CrashLemmas.{turn_records}
use Rattle.erst_bridge.proofs.KeptRecordLemmas.{other_stays}
use Rattle.erst_bridge.proofs.ShownLemmas.{one_of, IsBeyond, turn_beyond, stored_turn}
use Rattle.erst_bridge.specs.Prefixes.{next_id}
use Rattle.apei_script.specs.Bridged.{EachTurn, KeepsBlocks}
use Rattle.erst_bridge.proofs.Terms.{stored_record}

-- a turn that does not write an identifier
abbrev SparesTurn : ℕ → BridgeState → Turn → Type 0
SparesTurn id state turn = elim turn [
  | OfBridge (IsStored other) ↦ id ≢ next_id state
  | OfBridge (Kept error) ↦ id ≢ next_id state
  | other ↦ Unit {0}
]

abbrev pub SpareTurns : ℕ → BridgeState → MachineState → List Step → Type 0
SpareTurns id state old steps = EachTurn (λ bridge before step. SparesTurn id bridge step.turn) state old steps

-- the block of a turn that stored one is kept
abbrev KeepsBlock : (ℕ → Type 0) → ℕ → BridgeState → Turn → MachineState → Records → Type 0
KeepsBlock spared s state turn mid shown = elim turn [
  | OfBridge (IsStored id) ↦
      (block : List ℕ) × (state ≡ Holds id block) × (spared id → changes_of mid ≤ s → IsStoredAs id (stored_record block id) shown)
  | other ↦ Unit {0}
]

module _ (tells : Type 0) (programs : OwnProgramsRun tells) (told : tells) (client : ClientState) (budget : ℕ) where
  kept_turn : (state : BridgeState) (old : MachineState) (turn : Turn) (next : BridgeState) (new : MachineState) (id : ℕ) (bytes : List ℕ)
      → IsTurn tells client budget state old turn next new → SparesTurn id state turn → IsStoredAs id bytes (records_of old) → IsStoredAs id bytes (after_turn state old turn)
  kept_turn state old (OfFirmware event) next new id bytes is spares there = there
  kept_turn state old (OfBridge event) next new id bytes is spares there =
      elim is.1 as (λ state event after turn. SparesTurn id state (OfBridge event) → IsStoredAs id bytes (after_turn state old (OfBridge event))) [
        | TurnsReader n state event new none reads ↦ λ spares. there
        | Stores n block left new small writes ↦ λ spares. other_stays old block n id bytes (omega arith) spares there
        | Keeps n block error left new small writes ↦ λ spares. other_stays old block n id bytes (omega arith) spares there
        | RunsOut n block last ↦ λ spares. there
      ] spares

  -- behind the turns, and at whatever they show
  pub kept_turns : (state : BridgeState) (old : MachineState) (steps : List Step) (next : BridgeState) (last : MachineState) (id : ℕ) (bytes : List ℕ) → client ≡ own_client old → IsMachine old
      → AreTurns tells client budget state old steps next last → SpareTurns id state old steps → IsStoredAs id bytes (records_of old)
      → IsStoredAs id bytes (records_of last) × ((s : ℕ) (shown : Records) → ShowsTurns s state old steps shown → IsStoredAs id bytes shown)
  kept_turns state old [] next last id bytes own machine are spares there =
      (subst (λ (m : MachineState). IsStoredAs id bytes (records_of m)) (sym are.1) there, λ s shown shows. subst (IsStoredAs id bytes) (sym shows) there)
  kept_turns state old (step ∷ rest) next last id bytes own machine are spares there =
      let made = kept_turn state old step.turn step.bridge step.machine id bytes are.0 spares.0 there in
      let now : IsStoredAs id bytes (records_of step.machine) =
      elim (turn_records tells programs told client budget state old step.turn step.bridge step.machine own machine are.0) [
        | inl same ↦ subst (IsStoredAs id bytes) (sym same) there
        | inr after ↦ subst (IsStoredAs id bytes) (sym after) made
      ] in
      let more = kept_turns step.bridge step.machine rest next last id bytes (own_on tells client budget told state old step.turn step.bridge step.machine are.0 own)
      (turn_keeps tells client budget state old step.turn step.bridge step.machine are.0 machine) are.1 spares.1 now in (
        more.0,
        λ s shown shows. elim (one_of (nat_le (changes_of step.machine) s) _ _ shows) [
          | inl behind ↦ more.1 s shown behind
          | inr under_way ↦ elim under_way [
            | inl same ↦ subst (IsStoredAs id bytes) (sym same) there
            | inr after ↦ subst (IsStoredAs id bytes) (sym after) made
          ]
        ],
      )

  -- a bridge gives an identifier once
  spares_turn : (state : BridgeState) (old : MachineState) (turn : Turn) (next : BridgeState) (new : MachineState) (id : ℕ) →
      IsTurn tells client budget state old turn next new → IsBeyond id state → SparesTurn id state turn
  spares_turn state old (OfFirmware event) next new id is beyond = tt
  spares_turn state old (OfBridge event) next new id is beyond = elim is.1 as (λ state event after turn. IsBeyond id state → SparesTurn id state (OfBridge event)) [
    | TurnsReader n state event new none reads ↦ λ beyond. tt
    | Stores n block left new small writes ↦ λ beyond e. absurd (omega (arith, e, beyond))
    | Keeps n block error left new small writes ↦ λ beyond e. absurd (omega (arith, e, beyond))
    | RunsOut n block last ↦ λ beyond. tt
  ] beyond

  beyond_spares : (state : BridgeState) (old : MachineState) (steps : List Step) (next : BridgeState) (last : MachineState) (id : ℕ) →
      AreTurns tells client budget state old steps next last → IsBeyond id state
      → SpareTurns id state old steps
  beyond_spares state old [] next last id are beyond = tt
  beyond_spares state old (step ∷ rest) next last id are beyond = (
    spares_turn state old step.turn step.bridge step.machine id are.0 beyond,
    beyond_spares step.bridge step.machine rest next last id are.1 (turn_beyond tells client budget state old step.turn step.bridge step.machine id are.0 beyond),
  )

  -- power lost at step s shows this behind some turns, or what is stored behind them is there
  abbrev pub ShowsOrKeeps : (ℕ → Type 0) → ℕ → Records → BridgeState → MachineState → List Step → MachineState → Type 0
  ShowsOrKeeps spared s shown state old steps last =
      ShowsTurns s state old steps shown ⊎ ((id : ℕ) (bytes : List ℕ) → spared id → IsStoredAs id bytes (records_of last) → IsStoredAs id bytes shown)

  on_behind : (b : Bool) (P Q : Type 0) → b ≡ true → MatchBool b P Q → P
  on_behind true P Q e h = h
  on_behind false P Q e h = absurd (cc e)

  behind_one : (spared : ℕ → Type 0) (s : ℕ) (shown : Records) (state : BridgeState) (old : MachineState) (step : Step) (rest : List Step) (last : MachineState) → changes_of step.machine ≤ s
      → ShowsOrKeeps spared s shown state old (step ∷ rest) last → ShowsOrKeeps spared s shown step.bridge step.machine rest last
  behind_one spared s shown state old step rest last behind (inl shows) = inl (on_behind (nat_le (changes_of step.machine) s) _ _ (le-leb (changes_of step.machine) s behind) shows)
  behind_one spared s shown state old step rest last behind (inr keeps) = inr keeps

  block_kept : (spared : ℕ → Type 0) (s : ℕ) (shown : Records) (state : BridgeState) (old : MachineState) (turn : Turn) (next : BridgeState)
      (mid : MachineState) (rest : List Step) (end : BridgeState) (last : MachineState)
      → client ≡ own_client old → IsMachine old → IsTurn tells client budget state old turn next mid → AreTurns tells client budget next mid rest end last
      → (changes_of mid ≤ s → ShowsOrKeeps spared s shown next mid rest last) → KeepsBlock spared s state turn mid shown
  block_kept spared s shown state old (OfFirmware event) next mid rest end last own machine is are either = tt
  block_kept spared s shown state old (OfBridge (ByReader event)) next mid rest end last own machine is are either = tt
  block_kept spared s shown state old (OfBridge (IsStored id)) next mid rest end last own machine is are either =
      let stored = stored_turn tells client budget programs told old own machine state (IsStored id) next is.0 mid is.1 id refl in
      let beyond : IsBeyond id next = subst (IsBeyond id) (sym stored.next_is) (omega arith) in
      let kept = kept_turns next mid rest end last id (stored_record stored.block id) (own_on tells client budget told state old (OfBridge (IsStored id)) next mid is own)
      (turn_keeps tells client budget state old (OfBridge (IsStored id)) next mid is machine) are (beyond_spares next mid rest end last id are beyond) stored.there in (
        stored.block,
        stored.held,
        λ spared_is behind. elim (either behind) [
          | inl shows ↦ kept.1 s shown shows
          | inr keeps ↦ keeps id (stored_record stored.block id) spared_is kept.0
        ],
      )
  block_kept spared s shown state old (OfBridge (Kept error)) next mid rest end last own machine is are either = tt
  block_kept spared s shown state old (OfBridge Out) next mid rest end last own machine is are either = tt

  pub blocks_kept : (spared : ℕ → Type 0) (s : ℕ) (shown : Records) (state : BridgeState) (old : MachineState) (steps : List Step) (next : BridgeState) (last : MachineState)
      → client ≡ own_client old → IsMachine old → AreTurns tells client budget state old steps next last
      → (changes_of old ≤ s → ShowsOrKeeps spared s shown state old steps last) → KeepsBlocks spared s state old steps shown
  blocks_kept spared s shown state old [] next last own machine are either = tt
  blocks_kept spared s shown state old (step ∷ rest) next last own machine are either =
      let on = (turn_goes_on tells client budget told state old step.turn step.bridge step.machine are.0).1 in
      let grows = past_grows (told_of old) (told_of step.machine) on.later in
      let behind : changes_of step.machine ≤ s → ShowsOrKeeps spared s shown step.bridge step.machine rest last =
      λ from. behind_one spared s shown state old step rest last from (either (omega (arith, from))) in (
        block_kept spared s shown state old step.turn step.bridge step.machine rest next last own machine are.0 are.1 behind,
        blocks_kept spared s shown step.bridge step.machine rest next last (own_on tells client budget told state old step.turn step.bridge step.machine are.0 own)
            (turn_keeps tells client budget state old step.turn step.bridge step.machine are.0 machine) are.1 behind,
      )
