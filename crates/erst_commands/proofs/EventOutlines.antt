-- Restarts, calls of the handover, fatal blocks and boots of two machines that are equivalent, over flashes that fail nothing.
use Rattle.std.proofs.Common.{◌≡◌, ℕ, suc, Bool, true, false, List, [], ◌∷◌, ◌++◌, length, Option, Some, None, Result, Ok, Err, refl, sym, ap, subst, ◌∙◌, arith}
use Rattle.std.specs.Prelude.{if◌then◌else◌, option_to_list}
use Rattle.std.specs.FinMap.{len}
use Rattle.std.proofs.lemmas.Option.{none-some, same_Some}
use Rattle.base_model.specs.Layout.{Layout}
use Rattle.flash_model.specs.declared.geometry.Geometry.{Geometry}
use Rattle.record_store.specs.Store.{StoreView, Pending, Idle, Writing, Clearing, doubted, restarted}
use Rattle.record_store.specs.Answers.{copies_in, copies_pending}
use Rattle.apei_space.specs.RamState.{RamState}
use Rattle.ghes_ack.specs.declared.maps.HandoverMap.{HandoverMap}
use Rattle.ghes_ack.specs.declared.events.Side.{Side}
use Rattle.ghes_ack.specs.declared.events.Event.{Event as TurnEvent}
use Rattle.ghes_ack.specs.declared.submission.SubmitError.{SubmitError}
use Rattle.ghes_ack.specs.Machine.{Machine as HandoverMachine, Situation, turned}
use Rattle.ghes_ack.specs.Maps.{window, memory_started, memory_after}
use Rattle.ghes_ack.specs.Handovers.{HandoverState, StandsFor, fresh}
use Rattle.ghes_block.specs.Region.{IsLaidOut}
use Rattle.erst_device.specs.declared.status.CommandStatus.TheVariants.{Success}
use Rattle.erst_device.specs.DeviceState.{KnowsCopies}
use Rattle.erst_machine.specs.declared.errors.BootError.{BootError}
use Rattle.erst_machine.specs.declared.errors.FatalError.{FatalError}
use Rattle.erst_machine.specs.Memories.{MemoryState, cleared}
use Rattle.erst_machine.specs.MachineState.{MachineState, IsMachine, records_of}
use Rattle.erst_machine.specs.Boots.{IsBooted}
use Rattle.erst_machine.specs.Events.{Restarts, Warms, Powers, Submits, Turns, LaysFatal, Event, Accessed, Warmed, Powered, Submitted, Turned, Laid, Happens}
use Rattle.erst_commands.specs.Equivalence.{StoreOutline, DeviceOutline, MachineOutline, unplaced, store_outline, device_outline, machine_outline}
use Rattle.erst_commands.specs.Equivalence.{EquivalentMachines, FailsNothing, FailedNothing, asked_event, answered_event}
use Rattle.erst_commands.proofs.StoreOutlines.{looked, same_outline, only_looked, no_copies}
use Rattle.erst_commands.proofs.MachineOutlines.{same_machine, answer_alike}
use Rattle.ghes_ack.specs.Submissions.{refusal_of}

-- Restarts

-- the store is to look at its slots
abbrev doubting : StoreOutline → StoreOutline
doubting s = record s { in_doubt = true; pending = Idle; copies = if s.in_doubt then s.copies else copies_pending s.layout s.pending }

copies_doubted : (doubt : Bool) (pending : Pending) (copies : ℕ) (layout : Layout) → (doubt ≡ false → copies ≡ copies_pending layout pending)
    → copies ≡ (if doubt then (if doubt then copies else 0) else copies_pending layout (unplaced pending))
copies_doubted true pending copies layout knows = refl
copies_doubted false Idle copies layout knows = knows refl
copies_doubted false (Writing id bytes slots replaces made) copies layout knows = knows refl
copies_doubted false (Clearing id) copies layout knows = knows refl

doubted_outline : (store : StoreView) → KnowsCopies store → store_outline (doubted store) ≡ doubting (store_outline store)
doubted_outline store knows = same_outline (store_outline (doubted store)) (doubting (store_outline store)) refl refl refl refl refl
    (copies_doubted store.in_doubt store.pending (copies_in store) store.layout knows)

abbrev first_device : StoreOutline → DeviceOutline
first_device store = record { value = 0; operation = None; offset = 0; id = 0; status = Success; cursor = 0; reading = None; store = store }

abbrev begun : MemoryState → MachineOutline → MachineOutline
begun memory o = record { device = first_device (looked (doubting o.device.store)); memory = memory; handover = fresh o.handover.map; waited = o.waited }

record Began (memory : MemoryState) (old : MachineOutline) (result : Result ℕ BootError) (new : MachineOutline) : Type 0 where
  answer : result ≡ Ok (len old.device.store.records)
  outline : new ≡ begun memory old

began : (tells : Type 0) → tells → (before : StoreView) (memory : MemoryState) (old : MachineState) (result : Result ℕ BootError) (new : MachineState) →
    store_outline before ≡ doubting (store_outline old.device.store)
    → FailsNothing before new.device.store → Restarts tells before memory old result new → Began memory (machine_outline old) result (machine_outline new)
began tells told before memory old (Ok n) new before_is quiet restarts =
    let store : store_outline new.device.store ≡ looked (doubting (store_outline old.device.store)) =
    only_looked {T = ℕ} tells told before new.device.store (Ok n) quiet restarts.leaves ∙ ap looked before_is in
    record {
      answer = ap (λ (k : ℕ). Ok k) (restarts.count told ∙ ap (λ (s : StoreOutline). len s.records) store);
      outline = same_machine (machine_outline new) (begun memory (machine_outline old)) (ap device_outline restarts.registers ∙ ap first_device store)
          restarts.memory_is restarts.handover restarts.waited;
    }
began tells told before memory old (Err error) new before_is quiet restarts = absurd (quiet restarts.leaves.cause.1)

-- two restarts
begin_alike : (memory : MachineOutline → MemoryState) (one other : MachineOutline) (result also : Result ℕ BootError) (one_after other_after : MachineOutline) →
    one ≡ other → Began (memory one) one result one_after
    → Began (memory other) other also other_after → (result ≡ also) × (one_after ≡ other_after)
begin_alike memory one other result also one_after other_after equivalent first second = (
  first.answer ∙ ap (λ (o : MachineOutline). Ok (len o.device.store.records)) equivalent ∙ sym second.answer,
  first.outline ∙ ap (λ (o : MachineOutline). begun (memory o) o) equivalent ∙ sym second.outline,
)

abbrev warm_memory : MachineOutline → MemoryState
warm_memory o = record o.memory { shared = memory_started o.handover.map o.memory.shared }

abbrev cold_memory : MachineOutline → MemoryState
cold_memory o = cleared (length o.memory.range) (memory_started o.handover.map o.memory.shared)

-- The handover

same_state : (g h : HandoverState) → g.map ≡ h.map → g.situation ≡ h.situation → g.waiting ≡ h.waiting → g.at_work ≡ h.at_work → g.filled ≡ h.filled → g.copied ≡ h.copied → g.last ≡ h.last → g ≡ h
same_state g h at situation waiting work filled copied last =
    ap (λ (x : HandoverMap). record g { map = x }) at
    ∙ ap (λ (x : Situation). record g { map = h.map; situation = x }) situation
    ∙ ap (λ (x : List (List ℕ)). record g { map = h.map; situation = h.situation; waiting = x }) waiting
    ∙ ap (λ (x : Option (List ℕ)). record h { at_work = x; filled = g.filled; copied = g.copied; last = g.last }) work
    ∙ ap (λ (x : ℕ). record h { filled = x; copied = g.copied; last = g.last }) filled
    ∙ ap (λ (x : ℕ). record h { copied = x; last = g.last }) copied
    ∙ ap (λ (x : List ℕ). record h { last = x }) last

same_kept : (a b : Option (List ℕ)) (xs ys : List (List ℕ)) → option_to_list a ++ xs ≡ option_to_list b ++ ys → length xs ≡ length ys → (a ≡ b) × (xs ≡ ys)
same_kept None None xs ys is long = (refl, is)
same_kept None (Some y) xs ys is long = let more : length xs ≡ suc (length ys) = ap (λ (zs : List (List ℕ)). length zs) is in absurd (omega arith)
same_kept (Some x) None xs ys is long = let more : suc (length xs) ≡ length ys = ap (λ (zs : List (List ℕ)). length zs) is in absurd (omega arith)
same_kept (Some x) (Some y) xs ys is long =
    let head : x ≡ y = cc in
    (ap (λ (z : List ℕ). Some z) head, cc)

-- what a handover keeps is told by the state of the handover machine that it stands for, and by its map
stands_once : (g h : HandoverState) (ram mem : RamState) (m : HandoverMachine) → g.map ≡ h.map → StandsFor g ram m → StandsFor h mem m → g ≡ h
stands_once g h ram mem m at first second =
    let both = same_kept g.at_work h.at_work g.waiting h.waiting (first.blocks ∙ sym second.blocks) (first.wait ∙ sym second.wait) in
    same_state g h at (sym first.situation ∙ second.situation) both.1 both.0 (first.filled ∙ sym second.filled) (first.copied ∙ sym second.copied) (first.last ∙ sym second.last)

module _ (one other : MachineState) (equivalent : EquivalentMachines one other) where
  pub submits_alike : (block : List ℕ) (result also : Result ℕ SubmitError) (one_after other_after : MachineState) → Submits one block result one_after →
      Submits other block also other_after → (result ≡ also) × EquivalentMachines one_after other_after
  submits_alike block (Ok n) (Ok k) one_after other_after first second =
      let after : EquivalentMachines one_after other_after =
      ap machine_outline first.added ∙ ap (λ (o : MachineOutline). record o { handover = record o.handover { waiting = o.handover.waiting ++ block ∷ [] } })
      equivalent ∙ sym (ap machine_outline second.added) in
      (ap (λ (i : ℕ). Ok i) (first.number ∙ ap (λ (o : MachineOutline). length o.handover.waiting) after ∙ sym second.number), after)
  submits_alike block (Ok n) (Err error) one_after other_after first second =
      absurd (none-some error (sym first.exact ∙ ap (λ (o : MachineOutline). refusal_of o.handover.map.len block (length o.handover.waiting)) equivalent ∙ second.exact))
  submits_alike block (Err error) (Ok n) one_after other_after first second =
      absurd (none-some error (sym second.exact ∙ sym (ap (λ (o : MachineOutline). refusal_of o.handover.map.len block (length o.handover.waiting)) equivalent) ∙ first.exact))
  submits_alike block (Err error) (Err why) one_after other_after first second = (
    ap (λ (e : SubmitError). Err e) (same_Some error why (sym first.exact ∙ ap (λ (o : MachineOutline). refusal_of o.handover.map.len block (length o.handover.waiting)) equivalent ∙ second.exact)),
    ap machine_outline first.refused ∙ equivalent ∙ sym (ap machine_outline second.refused),
  )

  same_handover : one.handover ≡ other.handover
  same_handover = ap (λ (o : MachineOutline). o.handover) equivalent

  same_shared : one.memory.shared ≡ other.memory.shared
  same_shared = ap (λ (o : MachineOutline). o.memory.shared) equivalent

  pub turns_alike : (side : Side) (event also : TurnEvent) (one_after other_after : MachineState) → Turns side one event one_after →
      Turns side other also other_after → (event ≡ also) × EquivalentMachines one_after other_after
  turns_alike side event also one_after other_after first second =
      let m = first.stood.0 in
      let stands = first.stood.1 in
      let stands_too = subst (λ (h : HandoverState). StandsFor h other.memory.shared m) same_handover (subst (λ (r : RamState). StandsFor one.handover r m) same_shared stands) in
      let own = first.turned m stands in
      let others = second.turned m stands_too in
      let maps : one_after.handover.map ≡ other_after.handover.map = first.map ∙ ap (λ (h : HandoverState). h.map) same_handover ∙ sym second.map in
      let events : event ≡ also = own.event_is ∙ sym others.event_is in
      let windows : window one.handover.map one_after.memory.shared ≡ window other.handover.map other_after.memory.shared =
      ap (λ (at : HandoverMap). window at one_after.memory.shared) (sym first.map) ∙ sym own.stands.window_is ∙ others.stands.window_is
      ∙ ap (λ (at : HandoverMap). window at other_after.memory.shared) second.map in
      let memory : one_after.memory ≡ other_after.memory =
      first.memory_is
      ∙ ap (λ (bytes : List ℕ). record one.memory { shared = memory_after one.handover.map event one.memory.shared bytes }) windows
      ∙ ap (λ (e : TurnEvent). record one.memory { shared = memory_after one.handover.map e one.memory.shared (window other.handover.map other_after.memory.shared) }) events
      ∙ ap (λ (o : MachineOutline). record o.memory { shared = memory_after o.handover.map also o.memory.shared (window other.handover.map other_after.memory.shared) }) equivalent
      ∙ sym second.memory_is in (
        events,
        same_machine (machine_outline one_after) (machine_outline other_after)
            (ap device_outline first.device ∙ ap (λ (o : MachineOutline). o.device) equivalent ∙ sym (ap device_outline second.device))
            memory
            (stands_once one_after.handover other_after.handover one_after.memory.shared other_after.memory.shared (turned side m).1 maps own.stands others.stands)
            (first.waited ∙ ap (λ (o : MachineOutline). o.waited) equivalent ∙ sym second.waited),
      )

  pub lays_alike : IsMachine one → (block : List ℕ) (result also : Result ℕ FatalError) (one_after other_after : MachineState) →
      LaysFatal one block result one_after → LaysFatal other block also other_after → (result ≡ also) × EquivalentMachines one_after other_after
  lays_alike machine block result also one_after other_after first second =
      let blocks : List (List ℕ) = machine.laid.0 in
      let left : ℕ = machine.laid.1 in
      let laid : IsLaidOut blocks left one.memory.region = machine.laid.2 in
      by_result blocks left laid (subst (λ (r : List ℕ). IsLaidOut blocks left r) (ap (λ (o : MachineOutline). o.memory.region) equivalent) laid) result also first second
    where
      by_result : (blocks : List (List ℕ)) (left : ℕ) → IsLaidOut blocks left one.memory.region → IsLaidOut blocks left other.memory.region →
          (result also : Result ℕ FatalError) → LaysFatal one block result one_after
          → LaysFatal other block also other_after → (result ≡ also) × EquivalentMachines one_after other_after
      by_result blocks left laid laid_too (Ok at) (Ok place) first second =
          let own = first.laid blocks left laid in
          let others = second.laid blocks left laid_too in
          let region : one_after.memory.region ≡ other_after.memory.region = own.1.region_is ∙ sym others.1.region_is in (
            ap (λ (n : ℕ). Ok n) (own.0 ∙ sym others.0),
            ap machine_outline first.others
                ∙ ap (λ (o : MachineOutline). record o { memory = record o.memory { region = one_after.memory.region } }) equivalent
                ∙ ap (λ (r : List ℕ). machine_outline (record other { memory = record other.memory { region = r } })) region
                ∙ sym (ap machine_outline second.others),
          )
      by_result blocks left laid laid_too (Ok at) (Err error) first second = absurd (none-some error (sym (first.exact blocks left laid) ∙ second.exact blocks left laid_too))
      by_result blocks left laid laid_too (Err error) (Ok at) first second = absurd (none-some error (sym (second.exact blocks left laid_too) ∙ first.exact blocks left laid))
      by_result blocks left laid laid_too (Err error) (Err why) first second = (
        ap (λ (e : FatalError). Err e) (same_Some error why (sym (first.exact blocks left laid) ∙ second.exact blocks left laid_too)),
        ap machine_outline first.refused ∙ equivalent ∙ sym (ap machine_outline second.refused),
      )

  module _ (tells : Type 0) (told : tells) where
    warms_alike : (result also : Result ℕ BootError) (one_after other_after : MachineState) → Warms tells one result one_after → FailedNothing one one_after →
        Warms tells other also other_after → FailedNothing other other_after
        → (result ≡ also) × EquivalentMachines one_after other_after
    warms_alike result also one_after other_after first quiet second also_quiet =
        begin_alike warm_memory (machine_outline one) (machine_outline other) result also (machine_outline one_after) (machine_outline other_after) equivalent
        (began tells told (doubted one.device.store) _ one result one_after (doubted_outline one.device.store (first.copies told)) quiet first)
        (began tells told (doubted other.device.store) _ other also other_after (doubted_outline other.device.store (second.copies told)) also_quiet second)

    powers_alike : (result also : Result ℕ BootError) (one_after other_after : MachineState) → Powers tells one result one_after → FailedNothing one one_after →
        Powers tells other also other_after → FailedNothing other other_after
        → (result ≡ also) × EquivalentMachines one_after other_after
    powers_alike result also one_after other_after first quiet second also_quiet =
        begin_alike cold_memory (machine_outline one) (machine_outline other) result also (machine_outline one_after) (machine_outline other_after) equivalent
        (began tells told (restarted one.device.store) _ one result one_after (doubted_outline one.device.store (first.restarts.copies told)) quiet first.restarts)
        (began tells told (restarted other.device.store) _ other also other_after (doubted_outline other.device.store (second.restarts.copies told)) also_quiet second.restarts)

    pub happens_alike : IsMachine one → (event also : Event) (one_after other_after : MachineState) → asked_event event ≡ asked_event also →
        Happens tells one event one_after → FailedNothing one one_after
        → Happens tells other also other_after → FailedNothing other other_after → (answered_event event ≡ answered_event also) × EquivalentMachines one_after other_after
    happens_alike machine (Accessed call) (Accessed others) one_after other_after asks first quiet second also_quiet =
        let both = answer_alike tells told one other equivalent call others one_after other_after (cc) first quiet second also_quiet in
        (ap (λ c. Accessed c) both.0, both.1)
    happens_alike machine (Warmed result) (Warmed found) one_after other_after asks first quiet second also_quiet =
        let both = warms_alike result found one_after other_after first quiet second also_quiet in
        (ap (λ (r : Result ℕ BootError). Warmed r) both.0, both.1)
    happens_alike machine (Powered result) (Powered found) one_after other_after asks first quiet second also_quiet =
        let both = powers_alike result found one_after other_after first quiet second also_quiet in
        (ap (λ (r : Result ℕ BootError). Powered r) both.0, both.1)
    happens_alike machine (Submitted block result) (Submitted others found) one_after other_after asks first quiet second also_quiet =
        let same : others ≡ block = cc in
        let both = submits_alike block result found one_after other_after first (subst (λ (b : List ℕ). Submits other b found other_after) same second) in
        (ap (λ (b : List ℕ). Submitted b result) (sym same) ∙ ap (λ (r : Result ℕ SubmitError). Submitted others r) both.0, both.1)
    happens_alike machine (Turned side event) (Turned other_side others) one_after other_after asks first quiet second also_quiet =
        let same : other_side ≡ side = cc in
        let both = turns_alike side event others one_after other_after first (subst (λ (s : Side). Turns s other others other_after) same second) in
        (ap (λ (s : Side). Turned s event) (sym same) ∙ ap (λ (e : TurnEvent). Turned other_side e) both.0, both.1)
    happens_alike machine (Laid block result) (Laid others found) one_after other_after asks first quiet second also_quiet =
        let same : others ≡ block = cc in
        let both = lays_alike machine block result found one_after other_after first (subst (λ (b : List ℕ). LaysFatal other b found other_after) same second) in
        (ap (λ (b : List ℕ). Laid b result) (sym same) ∙ ap (λ (r : Result ℕ FatalError). Laid others r) both.0, both.1)
    happens_alike machine event also one_after other_after asks first quiet second also_quiet = absurd (cc)

-- A boot

pub boots_alike : (geometry : Geometry) (one other : MachineState) → IsBooted geometry one → IsBooted geometry other → records_of one ≡ records_of other →
    one.device.store.flash.steps ≡ other.device.store.flash.steps → EquivalentMachines one other
boots_alike geometry one other first second records steps =
    let store : store_outline one.device.store ≡ store_outline other.device.store =
    same_outline (store_outline one.device.store) (store_outline other.device.store)
    (first.opened.layout ∙ sym second.opened.layout) records steps (first.opened.ready.certain ∙ sym second.opened.ready.certain)
    (ap unplaced (first.opened.ready.idle ∙ sym second.opened.ready.idle))
    (no_copies one.device.store first.opened.ready.certain ∙ sym (no_copies other.device.store second.opened.ready.certain)) in
    same_machine (machine_outline one) (machine_outline other)
    (ap device_outline first.registers ∙ ap first_device store ∙ sym (ap device_outline second.registers))
    (first.memory ∙ sym second.memory) (first.handover ∙ sym second.handover) (first.waited ∙ sym second.waited)
