-- Why the record of a held block is not stored.
use Rattle.std.proofs.Common.{◌≡◌, ◌∙◌, ℕ, ◌+◌, ◌-◌, ◌^◌, ◌<◌, ◌≤◌, Bool, true, false, List, length, Option, Some, None, Result, Ok, Err, refl, sym, ap, subst, arith}
use Rattle.std.specs.Prelude.{nat_lt, if◌then◌else◌}
use Rattle.std.proofs.lemmas.Bool.Decides.{nat_tests}
use Rattle.base_model.specs.Faults.{Rose}
use Rattle.cper_frame.specs.declared.error.FrameError.{FrameError}
use Rattle.record_model.specs.RecordMap.{Refusal, Command}
use Rattle.erst_client.specs.declared.errors.ClientError.{ClientError}
use Rattle.erst_client.specs.declared.errors.ClientError.TheVariants.{Hardware, TooLong}
use Rattle.erst_client.specs.declared.requests.Request.{Request}
use Rattle.erst_client.specs.Commands.{ClientState, Writes, IsNoRecord as NotWritten, IsNotPut, IsAsked, write_refusal}
use Rattle.erst_client.specs.Timings.{enough_steps}
use Rattle.erst_client.proofs.RefusalLemmas.{whole_refused}
use Rattle.erst_machine.specs.MachineState.{MachineState, IsMachine, reach_in}
use Rattle.erst_machine.specs.Allowed.{Allows}
use Rattle.erst_commands.specs.OwnPrograms.{OwnProgramsRun}
use Rattle.erst_commands.specs.Attached.{own_client}
use Rattle.erst_commands.specs.Causes.{GoesThrough}
use Rattle.erst_commands.specs.Changes.{IsErrorOf, OfFailed, OfNoSpace, OfNotFound, OfEmpty, ChangeCommand, IsTaken, IsRefused, IsFailed, IsStopped}
use Rattle.erst_commands.specs.Writes.{WriteAnswered, IsNoRecord, IsWritten}
use Rattle.erst_commands.proofs.CallCauses.{client_write_cause}
use Rattle.erst_commands.proofs.ThroughLemmas.{client_write_through}
use Rattle.erst_bridge.specs.declared.events.BridgeEvent.{BridgeEvent}
use Rattle.erst_bridge.specs.declared.events.BridgeEvent.TheVariants.{Kept, Out}
use Rattle.erst_bridge.specs.BridgedRecord.{bridged}
use Rattle.erst_bridge.specs.Bridges.{BridgeState, Off, Awaits, Holds, Releases, HoldsNone, TurnsReader, Stores, Keeps, RunsOut}
use Rattle.erst_bridge.proofs.RecordLemmas.{whole, length-bridged}
use Rattle.erst_bridge.specs.Turns.{BridgesMachine}
use Rattle.erst_bridge.proofs.CrashLemmas.{own_write}
use Rattle.erst_client.proofs.Terms.{frame_refusal}

-- the client itself refuses the record exactly where it is longer than the log range
bridged_refusal : (block : List ℕ) (id range : ℕ) → id < 2 ^ 64 → length block ≤ 4096
    → write_refusal (bridged block id) range ≡ (if nat_lt range (200 + length block) then Some (TooLong (200 + length block) range) else None)
bridged_refusal block id range fits short =
    ap (λ (r : Result ℕ FrameError). frame_refusal r (length (bridged block id)) range) (whole block id fits short)
    ∙ whole_refused (length (bridged block id)) range (let long = length-bridged block id fits in omega arith)
    ∙ ap (λ (n : ℕ). if nat_lt range n then Some (TooLong n range) else None) (length-bridged block id fits)

refused_long : (block : List ℕ) (id range : ℕ) → id < 2 ^ 64 → length block ≤ 4096 → range < 200 + length block → write_refusal (bridged block id) range ≡ Some (TooLong (200 + length block) range)
refused_long block id range fits short long = bridged_refusal block id range fits short ∙ by_test (nat_lt range (200 + length block)) (grind (arith, nat_tests))
  where
    by_test : (b : Bool) → b ≡ true → ◌≡◌ {A = Option ClientError} (if b then Some (TooLong (200 + length block) range) else None) (Some (TooLong (200 + length block) range))
    by_test true e = refl
    by_test false e = absurd (cc e)

not_refused : (block : List ℕ) (id range : ℕ) → id < 2 ^ 64 → length block ≤ 4096 → 200 + length block ≤ range → write_refusal (bridged block id) range ≡ None
not_refused block id range fits short enough = bridged_refusal block id range fits short ∙ by_test (nat_lt range (200 + length block)) (grind (arith, nat_tests))
  where
    by_test : (b : Bool) → b ≡ false → ◌≡◌ {A = Option ClientError} (if b then Some (TooLong (200 + length block) range) else None) None
    by_test true e = absurd (cc e)
    by_test false e = refl

same_some : (one other : ClientError) → ◌≡◌ {A = Option ClientError} (Some one) (Some other) → one ≡ other
same_some one other e = cc

same_error : (one other : ClientError) → ◌≡◌ {A = Result (Unit {0}) ClientError} (Err one) (Err other) → one ≡ other
same_error one other e = cc

same_kept : (one other : ClientError) → ◌≡◌ {A = BridgeEvent} (Kept one) (Kept other) → one ≡ other
same_kept one other e = cc

same_id : (n id : ℕ) (block other : List ℕ) → ◌≡◌ {A = BridgeState} (Holds n block) (Holds id other) → n ≡ id
same_id n id block other e = cc

same_block : (n id : ℕ) (block other : List ℕ) → ◌≡◌ {A = BridgeState} (Holds n block) (Holds id other) → block ≡ other
same_block n id block other e = cc

not_held : (n id : ℕ) (bridge : BridgeState) (block : List ℕ) → HoldsNone n bridge → bridge ≡ Holds id block → ⊥
not_held n id Off block none e = absurd (cc e)
not_held n id (Awaits k) block none e = absurd (cc e)
not_held n id (Holds k other) block none e = none
not_held n id (Releases k) block none e = absurd (cc e)

-- a write that the client itself refuses
write_refused : (tells : Type 0) (client : ClientState) (bytes : List ℕ) (budget : ℕ) (old : MachineState) (result : Result (Unit {0}) ClientError) (left : ℕ) (new : MachineState)
    → Writes (Allows tells) client bytes budget old result left new → (error : ClientError) → write_refusal bytes client.range ≡ Some error → (result ≡ Err error) × (new ≡ old)
write_refused tells client bytes budget old result left new writes = elim writes as (λ result left new writes. (error : ClientError) →
    write_refusal bytes client.range ≡ Some error → (result ≡ Err error) × (new ≡ old)) [
      | NotWritten why is ↦ λ error refused. (ap (λ (e : ClientError). Err e) (same_some why error (sym is ∙ refused)), refl)
      | IsNotPut why last fits puts ↦ λ error refused. absurd (cc (fits, refused))
      | IsAsked mid result left last fits puts sequence ↦ λ error refused. absurd (cc (fits, refused))
    ]

-- the map's refusals, and a failure of the flash, are none of a length
map_too_long : (refusal : Refusal) (error : ClientError) (len range : ℕ) → IsErrorOf refusal error → error ≡ TooLong len range → ⊥
map_too_long refusal error len range is = elim is as (λ refusal error is. error ≡ TooLong len range → ⊥) [
  | OfFailed ↦ λ e. absurd (cc e)
  | OfNoSpace ↦ λ e. absurd (cc e)
  | OfNotFound ↦ λ e. absurd (cc e)
  | OfEmpty ↦ λ e. absurd (cc e)
]

command_too_long : (first last : MachineState) (id : ℕ) (command : Command) (requests : List Request) (budget : ℕ) (result : Result (Unit {0}) ClientError) (left len range : ℕ)
    → ChangeCommand first last id command requests budget result left → result ≡ Err (TooLong len range) → ⊥
command_too_long first last id command requests budget result left len range made = elim made as (λ result left made. result ≡ Err (TooLong len range) → ⊥) [
  | IsTaken pauses left taken now made spent ↦ λ is. absurd (cc is)
  | IsRefused refusal error left refused of now made spent ↦ λ is. map_too_long refusal error len range of (same_error error (TooLong len range) is)
  | IsFailed pauses left usable rose either leaves few spent ↦ λ is. absurd (cc is)
  | IsStopped pauses leaves few short ↦ λ is. absurd (cc is)
]

answer_too_long : (bytes : List ℕ) (budget : ℕ) (old : MachineState) (result : Result (Unit {0}) ClientError) (left : ℕ) (new : MachineState) (len range : ℕ) →
    write_refusal bytes (reach_in old.device) ≡ None
    → WriteAnswered bytes budget old result left new → result ≡ Err (TooLong len range) → ⊥
answer_too_long bytes budget old result left new len range fits answered = elim answered as (λ result left new answered. result ≡ Err (TooLong len range) → ⊥) [
  | IsNoRecord error refused ↦ λ is. absurd (cc (fits, refused))
  | IsWritten result left last none made ↦ command_too_long _ last _ _ _ budget result left len range made
]

module _ (tells : Type 0) (client : ClientState) (budget : ℕ) (old : MachineState) (bridge : BridgeState) (event : BridgeEvent) (next : BridgeState) (left : ℕ) (new : MachineState)
    (turn : BridgesMachine tells client budget old bridge event next left new) where
  pub too_long : (id : ℕ) (block : List ℕ) → bridge ≡ Holds id block → id < 2 ^ 64 - 1 → length block ≤ 4096 → client.range < 200 + length block
      → (event ≡ Kept (TooLong (200 + length block) client.range)) × (new ≡ old)
  too_long id block held small short long =
      elim turn as (λ bridge event after turn. bridge ≡ Holds id block → (event ≡ Kept (TooLong (200 + length block) client.range)) × (after.station ≡ old)) [
        | TurnsReader n bridge event new none reads ↦ λ held. absurd (not_held n id bridge block none held)
        | Stores n other left new less writes ↦ λ held. absurd
            (cc (write_refused tells client (bridged other n) budget old (Ok tt) left new writes (TooLong (200 + length block) client.range)
            (refused n other held)).0)
        | Keeps n other error left new less writes ↦ λ held.
            let is = write_refused tells client (bridged other n) budget old (Err error) left new writes (TooLong (200 + length block) client.range) (refused n other held) in
            (ap (λ (e : ClientError). Kept e) (same_error error (TooLong (200 + length block) client.range) is.0), is.1)
        | RunsOut n other last ↦ λ held. absurd (let same = same_id n id other block held in omega arith)
      ] held
    where
      refused : (n : ℕ) (other : List ℕ) → Holds n other ≡ Holds id block → write_refusal (bridged other n) client.range ≡ Some (TooLong (200 + length block) client.range)
      refused n other held =
          ap (λ (k : ℕ). write_refusal (bridged other k) client.range) (same_id n id other block held)
          ∙ ap (λ (b : List ℕ). write_refusal (bridged b id) client.range) (same_block n id other block held)
          ∙ refused_long block id client.range (omega arith) short long

  pub out_is : event ≡ Out → (block : List ℕ) × (bridge ≡ Holds (2 ^ 64 - 1) block) × (next ≡ bridge) × (new ≡ old)
  out_is = elim turn as (λ bridge event after turn. event ≡ Out → (block : List ℕ) × (bridge ≡ Holds (2 ^ 64 - 1) block) × (after.bridge ≡ bridge) × (after.station ≡ old)) [
    | TurnsReader n bridge event new none reads ↦ λ is. absurd (cc is)
    | Stores n block left new less writes ↦ λ is. absurd (cc is)
    | Keeps n block error left new less writes ↦ λ is. absurd (cc is)
    | RunsOut n block last ↦ λ is. (block, ap (λ (k : ℕ). Holds k block) last, refl, refl)
  ]

  pub is_out : (id : ℕ) (block : List ℕ) → bridge ≡ Holds id block → id ≡ 2 ^ 64 - 1 → event ≡ Out
  is_out id block held is = elim turn as (λ bridge event after turn. bridge ≡ Holds id block → event ≡ Out) [
    | TurnsReader n bridge event new none reads ↦ λ held. absurd (not_held n id bridge block none held)
    | Stores n other left new less writes ↦ λ held. absurd (let same = same_id n id other block held in omega arith)
    | Keeps n other error left new less writes ↦ λ held. absurd (let same = same_id n id other block held in omega arith)
    | RunsOut n other last ↦ λ held. refl
  ] held

  module _ (run : OwnProgramsRun tells) (own : client ≡ own_client old) where
    own_writes : (bytes : List ℕ) (result : Result (Unit {0}) ClientError) (left : ℕ) (new : MachineState) → Writes (Allows tells) client bytes budget old result left new
        → Writes (Allows tells) (own_client old) bytes budget old result left new
    own_writes bytes result left new writes = subst (λ (c : ClientState). Writes (Allows tells) c bytes budget old result left new) own writes

    -- the flash failed in this very turn
    pub kept_hardware : event ≡ Kept Hardware → Rose old.device.store.flash.faults new.device.store.flash.faults
    kept_hardware = elim turn as (λ bridge event after turn. event ≡ Kept Hardware → Rose old.device.store.flash.faults after.station.device.store.flash.faults) [
      | TurnsReader id bridge event new none reads ↦ λ says. absurd (cc says)
      | Stores id block left new small writes ↦ λ says. absurd (cc says)
      | Keeps id block error left new small writes ↦ λ says.
          (client_write_cause tells run (bridged block id) budget old (Err error) left new (own_writes (bridged block id) (Err error) left new writes)).hardware
          (ap (λ (e : ClientError). Err e) (same_kept error Hardware says))
      | RunsOut id block last ↦ λ says. absurd (cc says)
    ]

    -- with the steps that are enough it is never for want of steps or of time
    pub kept_through : IsMachine old → enough_steps client.timings ≤ budget → (error : ClientError) → event ≡ Kept error → GoesThrough {T = Unit {0}} (Err error)
    kept_through machine enough = elim turn as (λ bridge event after turn. (error : ClientError) → event ≡ Kept error → GoesThrough {T = Unit {0}} (Err error)) [
      | TurnsReader id bridge event new none reads ↦ λ error says. absurd (cc says)
      | Stores id block left new small writes ↦ λ error says. absurd (cc says)
      | Keeps id block one left new small writes ↦ λ error says.
          subst (λ (e : ClientError). GoesThrough {T = Unit {0}} (Err e)) (same_kept one error says)
          (client_write_through tells run old machine budget (subst (λ (c : ClientState). enough_steps c.timings ≤ budget) own enough) (bridged block id) (Err one) left new
          (own_writes (bridged block id) (Err one) left new writes))
      | RunsOut id block last ↦ λ error says. absurd (cc says)
    ]

    -- a record that fits is never too long
    pub never_too_long : tells → IsMachine old → (id : ℕ) (block : List ℕ) → bridge ≡ Holds id block → length block ≤ 4096 → 200 + length block ≤ client.range
        → (len range : ℕ) → event ≡ Kept (TooLong len range) → ⊥
    never_too_long told machine id block held short enough len range =
        elim turn as (λ bridge event after turn. bridge ≡ Holds id block → event ≡ Kept (TooLong len range) → ⊥) [
          | TurnsReader n bridge event new none reads ↦ λ held says. absurd (cc says)
          | Stores n other left new less writes ↦ λ held says. absurd (cc says)
          | Keeps n other error left new less writes ↦ λ held says.
              answer_too_long (bridged other n) budget old (Err error) left new len range
              (not_refused other n (reach_in old.device) (omega arith) (subst (λ (b : List ℕ). length b ≤ 4096) (sym (same_block n id other block held)) short)
              (subst (λ (b : List ℕ). 200 + length b ≤ reach_in old.device) (sym (same_block n id other block held)) (subst (λ (c : ClientState). 200 + length block ≤ c.range) own enough)))
              (own_write tells run told client budget old own machine (bridged other n) (Err error) left new writes)
              (ap (λ (e : ClientError). Err e) (same_kept error (TooLong len range) says))
          | RunsOut n other last ↦ λ held says. absurd (cc says)
        ] held
