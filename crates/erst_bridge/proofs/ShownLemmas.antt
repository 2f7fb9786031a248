-- What power lost at any step of turns shows; a record that is stored stays.
use Rattle.std.proofs.Common.{◌≡◌, ◌⊎◌, inl, inr, ℕ, ◌+◌, ◌<◌, ◌≤◌, nat_le, Bool, true, false, List, [], ◌∷◌, Ok, refl, sym, ap, subst, arith}
use Rattle.std.specs.Prelude.{MatchBool}
use Rattle.base_model.specs.Flash.{CrashImage}
use Rattle.base_model.proofs.CrashLemmas.{CrashImage-earlier, CrashImage-now}
use Rattle.record_model.specs.Records.{Stored as Records}
use Rattle.erst_client.specs.Commands.{ClientState}
use Rattle.erst_machine.specs.MachineState.{MachineState, IsMachine, records_of, told_of}
use Rattle.erst_machine.specs.Shown.{shown_by, changes_of}
use Rattle.erst_machine.proofs.CrashTrail.{shown_alike, by_step}
use Rattle.erst_commands.specs.OwnPrograms.{OwnProgramsRun}
use Rattle.erst_commands.specs.Attached.{own_client}
use Rattle.erst_bridge.specs.declared.events.BridgeEvent.{BridgeEvent}
use Rattle.erst_bridge.specs.declared.events.BridgeEvent.TheVariants.{Stored}
use Rattle.erst_bridge.specs.BridgedRecord.{bridged}
use Rattle.erst_bridge.specs.Bridges.{BridgeState, Off, Awaits, Holds, Releases, HoldsNone, TurnsReader, Stores, Keeps, RunsOut}
use Rattle.erst_bridge.proofs.TurnLemmas.{reader_cases}
use Rattle.erst_bridge.specs.Turns.{BridgesMachine, Turn, OfFirmware, OfBridge, Step, IsTurn, AreTurns}
use Rattle.erst_bridge.specs.Shown.{after_turn, ShowsTurns, IsStoredAs}
use Rattle.erst_bridge.proofs.TrailLemmas.{turn_keeps, turn_goes_on, turns_go_on, own_on}
use Rattle.erst_bridge.proofs.CrashLemmas.{own_write, turn_crash, turn_records}
use Rattle.erst_bridge.proofs.KeptRecordLemmas.{other_stays, answer_stores}
use Rattle.erst_bridge.proofs.Terms.{last_of, stored_record}

pub one_of : (b : Bool) (P Q : Type 0) → MatchBool b P Q → P ⊎ Q
one_of true P Q h = inl h
one_of false P Q h = inr h

-- a bridge that gives only identifiers above this one
abbrev pub IsBeyond : ℕ → BridgeState → Type 0
IsBeyond id Off = Unit {0}
IsBeyond id (Awaits n) = id < n
IsBeyond id (Holds n block) = id < n
IsBeyond id (Releases n) = id < n

next_beyond : (id n : ℕ) (bridge : BridgeState) → HoldsNone n bridge → IsBeyond id bridge → id < n
next_beyond id n Off none beyond = absurd none
next_beyond id n (Awaits k) none beyond = omega arith
next_beyond id n (Holds k block) none beyond = absurd none
next_beyond id n (Releases k) none beyond = omega arith

same_name : (n id : ℕ) → ◌≡◌ {A = BridgeEvent} (Stored n) (Stored id) → n ≡ id
same_name n id is = cc

-- the block that was held is stored under an identifier, and the reader goes on
pub record StoresHeld (id : ℕ) (bridge next : BridgeState) (new : MachineState) : Type 0 where
  pub block : List ℕ
  pub held : bridge ≡ Holds id block
  pub next_is : next ≡ Releases (id + 1)
  pub there : IsStoredAs id (stored_record block id) (records_of new)

module _ (tells : Type 0) (client : ClientState) (budget : ℕ) where
  pub turn_beyond : (bridge : BridgeState) (old : MachineState) (turn : Turn) (next : BridgeState) (new : MachineState) (id : ℕ) → IsTurn tells client budget bridge old turn next new
      → IsBeyond id bridge → IsBeyond id next
  turn_beyond bridge old (OfFirmware event) next new id is beyond = subst (IsBeyond id) (sym is.0) beyond
  turn_beyond bridge old (OfBridge event) next new id is beyond = elim is.1 as (λ bridge event after turn. IsBeyond id bridge → IsBeyond id after.bridge) [
    | TurnsReader n bridge event new none reads ↦ λ beyond. let above = next_beyond id n bridge none beyond in reader_cases (IsBeyond id) event n (last_of new) bridge above above beyond
    | Stores n block left new small writes ↦ λ beyond. let above : id < n = beyond in omega arith
    | Keeps n block error left new small writes ↦ λ beyond. beyond
    | RunsOut n block last ↦ λ beyond. beyond
  ] beyond

  turn_stays : (bridge : BridgeState) (old : MachineState) (turn : Turn) (next : BridgeState) (new : MachineState) (id : ℕ) (bytes : List ℕ)
      → IsTurn tells client budget bridge old turn next new → IsBeyond id bridge → IsStoredAs id bytes (records_of old) → IsStoredAs id bytes (after_turn bridge old turn)
  turn_stays bridge old (OfFirmware event) next new id bytes is beyond there = there
  turn_stays bridge old (OfBridge event) next new id bytes is beyond there =
      elim is.1 as (λ bridge event after turn. IsBeyond id bridge → IsStoredAs id bytes (after_turn bridge old (OfBridge event))) [
        | TurnsReader n bridge event new none reads ↦ λ beyond. there
        | Stores n block left new small writes ↦ λ beyond. other_stays old block n id bytes (omega arith) (λ e. absurd (omega (arith, e, beyond))) there
        | Keeps n block error left new small writes ↦ λ beyond. other_stays old block n id bytes (omega arith) (λ e. absurd (omega (arith, e, beyond))) there
        | RunsOut n block last ↦ λ beyond. there
      ] beyond

  module _ (run : OwnProgramsRun tells) (told : tells) where
    pub turns_show : (bridge : BridgeState) (first : MachineState) (steps : List Step) (next : BridgeState) (last : MachineState) → client ≡ own_client first → IsMachine first
        → AreTurns tells client budget bridge first steps next last → (s : ℕ) (image : List ℕ) → changes_of first ≤ s → CrashImage (told_of last) s image →
        ShowsTurns s bridge first steps (shown_by first image)
    turns_show bridge first [] next last own machine are s image from crash =
        ap (shown_by first) (CrashImage-now (told_of first) s image from (subst (λ (m : MachineState). CrashImage (told_of m) s image) are.1 crash))
    turns_show bridge first (step ∷ rest) next last own machine are s image from crash =
        let left = step.machine in
        let one = (turn_goes_on tells client budget told bridge first step.turn step.bridge left are.0).1 in
        let more = (turns_go_on tells client budget told step.bridge left rest next last are.1).1 in
        let leaves = turn_crash tells run told client budget bridge first step.turn step.bridge left own machine are.0 in
        by_step (changes_of left) s _ _
        (λ behind. subst (λ (m : Records). ShowsTurns s step.bridge left rest m) (shown_alike first left image one.equivalent)
        (turns_show step.bridge left rest next last (own_on tells client budget told bridge first step.turn step.bridge left are.0 own)
        (turn_keeps tells client budget bridge first step.turn step.bridge left are.0 machine) are.1 s image behind crash))
        (λ before. leaves.each s image from (CrashImage-earlier (told_of left) (told_of last) s image more.later before crash))

    -- the same at the end of a turn
    pub record_stays : (bridge : BridgeState) (old : MachineState) (turn : Turn) (next : BridgeState) (new : MachineState) (id : ℕ) (bytes : List ℕ) → client ≡ own_client old → IsMachine old
        → IsTurn tells client budget bridge old turn next new → IsBeyond id bridge → IsStoredAs id bytes (records_of old) → IsStoredAs id bytes (records_of new)
    record_stays bridge old turn next new id bytes own machine is beyond there = elim (turn_records tells run told client budget bridge old turn next new own machine is) [
      | inl same ↦ subst (IsStoredAs id bytes) (sym same) there
      | inr made ↦ subst (IsStoredAs id bytes) (sym made) (turn_stays bridge old turn next new id bytes is beyond there)
    ]

    -- a record that is stored stays, whatever turns come behind
    shown_stays : (bridge : BridgeState) (first : MachineState) (steps : List Step) (next : BridgeState) (last : MachineState) (id : ℕ) (bytes : List ℕ) → client ≡ own_client first → IsMachine first
        → AreTurns tells client budget bridge first steps next last → IsBeyond id bridge → IsStoredAs id bytes (records_of first)
        → (s : ℕ) (shown : Records) → ShowsTurns s bridge first steps shown → IsStoredAs id bytes shown
    shown_stays bridge first [] next last id bytes own machine are beyond there s shown shows = subst (IsStoredAs id bytes) (sym shows) there
    shown_stays bridge first (step ∷ rest) next last id bytes own machine are beyond there s shown shows =
        elim (one_of (nat_le (changes_of step.machine) s) _ _ shows) [
          | inl behind ↦ shown_stays step.bridge step.machine rest next last id bytes (own_on tells client budget told bridge first step.turn step.bridge step.machine are.0 own)
              (turn_keeps tells client budget bridge first step.turn step.bridge step.machine are.0 machine) are.1
              (turn_beyond bridge first step.turn step.bridge step.machine id are.0 beyond)
              (record_stays bridge first step.turn step.bridge step.machine id bytes own machine are.0 beyond there) s shown behind
          | inr under_way ↦ elim under_way [
            | inl same ↦ subst (IsStoredAs id bytes) (sym same) there
            | inr made ↦ subst (IsStoredAs id bytes) (sym made) (turn_stays bridge first step.turn step.bridge step.machine id bytes are.0 beyond there)
          ]
        ]

    pub crash_stays : (bridge : BridgeState) (first : MachineState) (steps : List Step) (next : BridgeState) (last : MachineState) (id : ℕ) (bytes : List ℕ) →
        client ≡ own_client first → IsMachine first
        → AreTurns tells client budget bridge first steps next last → IsBeyond id bridge → IsStoredAs id bytes (records_of first)
        → (s : ℕ) (image : List ℕ) → changes_of first ≤ s → CrashImage (told_of last) s image → IsStoredAs id bytes (shown_by first image)
    crash_stays bridge first steps next last id bytes own machine are beyond there s image from crash =
        shown_stays bridge first steps next last id bytes own machine are beyond there s (shown_by first image) (turns_show bridge first steps next last own machine are s image from crash)

    -- a turn that was answered `Stored` stored the record of the block that was held
    pub stored_turn : (old : MachineState) → client ≡ own_client old → IsMachine old → (bridge : BridgeState) (event : BridgeEvent) (next : BridgeState) (left : ℕ) (new : MachineState)
        → BridgesMachine tells client budget old bridge event next left new → (id : ℕ) → event ≡ Stored id → StoresHeld id bridge next new
    stored_turn old own machine bridge event next left new turn = elim turn as (λ bridge event after turn. (id : ℕ) → event ≡ Stored id → StoresHeld id bridge after.bridge after.station) [
      | TurnsReader n bridge event new none reads ↦ λ id is. absurd (cc is)
      | Stores n block left new small writes ↦ λ id is. subst (λ (k : ℕ). StoresHeld k (Holds n block) (Releases (n + 1)) new) (same_name n id is)
          (record {
            block = block;
            held = refl;
            next_is = refl;
            there = answer_stores block n budget old left new (omega arith) (own_write tells run told client budget old own machine (bridged block n) (Ok tt) left new writes);
          })
      | Keeps n block error left new small writes ↦ λ id is. absurd (cc is)
      | RunsOut n block last ↦ λ id is. absurd (cc is)
    ]

    -- and from its last step on, whatever turns come behind it, power lost at any step leaves the record
    pub stored_stays : (old : MachineState) → client ≡ own_client old → IsMachine old → (bridge : BridgeState) (id : ℕ) (next : BridgeState) (left : ℕ) (mid : MachineState)
        → BridgesMachine tells client budget old bridge (Stored id) next left mid → (steps : List Step) (end : BridgeState) (last : MachineState) → AreTurns tells client budget next mid steps end last
        → (block : List ℕ) × (bridge ≡ Holds id block)
        × ((s : ℕ) (image : List ℕ) → changes_of mid ≤ s → CrashImage (told_of last) s image → IsStoredAs id (stored_record block id) (shown_by mid image))
    stored_stays old own machine bridge id next left mid turn steps end last are =
        let stored = stored_turn old own machine bridge (Stored id) next left mid turn id refl in
        let now = turn_keeps tells client budget bridge old (OfBridge (Stored id)) next mid (left, turn) machine in
        let own_now = own_on tells client budget told bridge old (OfBridge (Stored id)) next mid (left, turn) own in
        let beyond : IsBeyond id next = subst (IsBeyond id) (sym stored.next_is) (omega arith) in (
          stored.block,
          stored.held,
          crash_stays next mid steps end last id (stored_record stored.block id) own_now now are beyond stored.there,
        )
