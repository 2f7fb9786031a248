-- What happens to a machine beside accesses: restarts, the handover's calls, and fatal blocks.
use Rattle.std.specs.Prelude.{◌≡◌, ◌⊎◌, ℕ, ◌-◌, ◌*◌, ◌<◌, true, nat_lt, if◌then◌else◌, List, [], ◌∷◌, ◌++◌, length, Option, Some, None, Result, Ok, Err, IfOk, IfErr, OnOk, OnErr, MatchResult}
use Rattle.std.specs.FinMap.{len}
use Rattle.base_model.specs.Bytes.{joined}
use Rattle.base_model.specs.Flash.{StaysPowered, raised}
use Rattle.record_store.specs.Store.{StoreView, IsSettled, doubted, restarted}
use Rattle.record_store.specs.Calls.{OnlyLooks}
use Rattle.record_store.specs.declared.errors.StoreError.TheVariants.{Flash as StoreFlash}
use Rattle.apei_space.specs.RamState.{RamState}
use Rattle.apei_space.specs.Calls.{Call}
use Rattle.ghes_block.specs.Reading.{checked}
use Rattle.ghes_ack.specs.declared.events.Side.{Side}
use Rattle.ghes_ack.specs.declared.events.Event.{Event as TurnEvent}
use Rattle.ghes_ack.specs.declared.submission.SubmitError.{SubmitError}
use Rattle.ghes_ack.specs.Machine.{Machine as HandoverMachine, started, submitted}
use Rattle.ghes_ack.specs.Maps.{window, memory_started, memory_after}
use Rattle.ghes_ack.specs.Handovers.{StandsFor, IsTurned, fresh}
use Rattle.ghes_block.specs.Region.{IsLaidOut}
use Rattle.erst_device.specs.DeviceState.{at_first, KnowsCopies}
use Rattle.erst_machine.specs.declared.errors.BootError.{BootError}
use Rattle.erst_machine.specs.declared.errors.BootError.TheVariants.{Flash}
use Rattle.erst_machine.specs.declared.errors.FatalError.{FatalError}
use Rattle.erst_machine.specs.declared.errors.FatalError.TheVariants.{Long, Malformed, Trailing, Region}
use Rattle.erst_machine.specs.Memories.{MemoryState, cleared}
use Rattle.erst_machine.specs.MachineState.{MachineState, records_of}
use Rattle.erst_machine.specs.Allowed.{Allows}
use Rattle.ghes_ack.specs.Submissions.{refusal_of}
use Rattle.ghes_ack.specs.Sides.{Stands}

-- A restart. `before` is the store as its looking finds it, and `memory` what stands in memory afterwards. The registers are as at
-- first, the store has looked at its slots, which keeps the records, and the handover begins anew: where the flash failed, all but the
-- look was done. No call of the look finds a flash without power that has it before the first: power that is lost comes back before it
pub record Restarts (tells : Type 0) (before : StoreView) (memory : MemoryState) (old : MachineState) (result : Result ℕ BootError) (new : MachineState) : Type 0 where
  pub count : IfOk result (λ n. tells → n ≡ len (records_of new))
  pub error : IfErr result (λ error. error ≡ Flash)
  pub registers : new.device ≡ at_first new.device.store
  pub settled : OnOk result (tells → IsSettled new.device.store)
  pub reads : OnOk result (new.device.store.flash.reads ≡ raised (2 * old.device.store.layout.slots) old.device.store.flash.reads)
  pub powered : OnOk result (new.device.store.flash.powered ≡ true)
  pub lit : StaysPowered before.flash new.device.store.flash
  pub leaves : OnlyLooks {T = ℕ} tells before new.device.store (elim result [ Ok n ↦ Ok n | Err error ↦ Err StoreFlash ])
  pub copies : tells → KnowsCopies old.device.store
  pub memory_is : new.memory ≡ memory
  pub handover : new.handover ≡ fresh old.handover.map
  pub stands : StandsFor new.handover new.memory.shared (started (window old.handover.map old.memory.shared))
  pub waited : new.waited ≡ old.waited

-- a reset: memory stays, but for the handover's, which is started
abbrev pub Warms : Type 0 → MachineState → Result ℕ BootError → MachineState → Type 0
Warms tells old result new = Restarts tells (doubted old.device.store) (record old.memory { shared = memory_started old.handover.map old.memory.shared }) old result new

-- power was lost and is back: memory is zeros, but for the handover's. Power is back, unless a change on the way lost it again
pub record Powers (tells : Type 0) (old : MachineState) (result : Result ℕ BootError) (new : MachineState) : Type 0 where
  pub restarts : Restarts tells (restarted old.device.store) (cleared (length old.memory.range) (memory_started old.handover.map old.memory.shared)) old result new
  pub back : (new.device.store.flash.powered ≡ true) ⊎ (old.device.store.flash.steps < new.device.store.flash.steps)

-- a block is given to the handover, or refused
pub record Submits (old : MachineState) (block : List ℕ) (result : Result ℕ SubmitError) (new : MachineState) : Type 0 where
  pub exact :
      let refused = refusal_of old.handover.map.len block (length old.handover.waiting) in
      MatchResult result (λ _. refused ≡ None) (λ error. refused ≡ Some error)
  pub added : OnOk result (new ≡ record old { handover = record old.handover { waiting = old.handover.waiting ++ block ∷ [] } })
  pub number : IfOk result (λ n. n ≡ length new.handover.waiting)
  pub stands : OnOk result ((ram : RamState) (m : HandoverMachine) → StandsFor old.handover ram m → StandsFor new.handover ram (submitted m block))
  pub refused : OnErr result (new ≡ old)

-- a turn of a side of the handover, for every state of the handover machine that the handover stands for
pub record Turns (side : Side) (old : MachineState) (event : TurnEvent) (new : MachineState) : Type 0 where
  pub stood : Stands old.handover old.memory.shared
  pub turned : (m : HandoverMachine) → StandsFor old.handover old.memory.shared m → IsTurned side event new.handover new.memory.shared m
  pub memory_is : new.memory ≡ record old.memory { shared = memory_after old.handover.map event old.memory.shared (window old.handover.map new.memory.shared) }
  pub map : new.handover.map ≡ old.handover.map
  pub device : new.device ≡ old.device
  pub waited : new.waited ≡ old.waited

-- the first reason why a block is not laid into a boot error region that has so many bytes left. One of more than 4,096 bytes is not
-- looked at
abbrev pub fatal_refusal : ℕ → List ℕ → Option FatalError
fatal_refusal left block =
    if nat_lt 4096 (length block) then Some (Long (length block))
    else elim (checked block) [
      | Err error ↦ Some (Malformed error)
      | Ok size ↦
          if nat_lt size (length block) then Some (Trailing (length block - size))
          else (if nat_lt left (length block) then Some (Region (length block)) else None)
    ]

-- a fatal block is laid behind the last one of the boot error region, at a place of it, or refused
pub record LaysFatal (old : MachineState) (block : List ℕ) (result : Result ℕ FatalError) (new : MachineState) : Type 0 where
  pub exact : (blocks : List (List ℕ)) (left : ℕ) → IsLaidOut blocks left old.memory.region
      → MatchResult result (λ _. fatal_refusal left block ≡ None) (λ error. fatal_refusal left block ≡ Some error)
  pub laid : IfOk result (λ at. (blocks : List (List ℕ)) (left : ℕ) → IsLaidOut blocks left old.memory.region
      → (at ≡ length (joined blocks)) × IsLaidOut (blocks ++ block ∷ []) (left - length block) new.memory.region)
  pub others : new ≡ record old { memory = record old.memory { region = new.memory.region } }
  pub refused : OnErr result (new ≡ old)

-- what happens, with its answer
pub data Event : Type 0 where
  Accessed : Call → Event
  Warmed : Result ℕ BootError → Event
  Powered : Result ℕ BootError → Event
  Submitted : List ℕ → Result ℕ SubmitError → Event
  Turned : Side → TurnEvent → Event
  Laid : List ℕ → Result ℕ FatalError → Event

-- before, what happens, after
abbrev pub Happens : Type 0 → MachineState → Event → MachineState → Type 0
Happens tells old (Accessed call) new = Allows tells old call new
Happens tells old (Warmed result) new = Warms tells old result new
Happens tells old (Powered result) new = Powers tells old result new
Happens tells old (Submitted block result) new = Submits old block result new
Happens tells old (Turned side event) new = Turns side old event new
Happens tells old (Laid block result) new = LaysFatal old block result new
