-- One instruction, over any space (ACPI 6.4, section 18.5.1.2). `allows` relates the space before a call, the call with its
-- answer, and the space after it.
use Rattle.std.specs.Prelude.{◌≡◌, ℕ, ◌+◌, ◌-◌, ◌/◌, ◌%◌, ◌^◌, ◌<◌, ◌≤◌, ◌==◌, true, false, None, Result, Ok, Err, if◌then◌else◌}
use Rattle.apei_tables.specs.declared.registers.Register.{Register}
use Rattle.apei_tables.specs.declared.registers.BadRegister.{BadRegister}
use Rattle.apei_tables.specs.Check.{checked}
use Rattle.apei_space.specs.declared.faults.SpaceFault.{SpaceFault}
use Rattle.apei_space.specs.Calls.{Call, Wait, Copy}
use Rattle.erst_entries.specs.Instructions.{instruction_of}
use Rattle.erst_interp.specs.declared.configurations.Configuration.{Configuration}
use Rattle.erst_interp.specs.declared.configurations.Task.{Task}
use Rattle.erst_interp.specs.declared.stops.RunStop.{RunStop}
use Rattle.erst_interp.specs.declared.stops.RunStop.TheVariants.{Register as BadRegion, UnknownInstruction, Goto as GotoOutside, MoveTooLong, Space, Budget}
use Rattle.erst_interp.specs.Instructions.{Work, GoOn, GoTo, WaitFor, TakeField, StoreValue, ChangeField, CompareField, MoveBytes, HasWork, uses_register, reads_first}
use Rattle.erst_interp.specs.Configurations.{next}
use Rattle.erst_interp.specs.Accesses.{FieldRead, Store}

-- the steps that a MOVE_DATA takes besides its first: one for each 64 bytes or part of 64
abbrev pub blocks : ℕ → ℕ
blocks len = (len + 63) / 64

-- a comparison that is made again is waited for
pub data Waited {W : Type 0} (allows : W → Call → W → Type 0) (c : Configuration) (old : W) : W → Type 0 where
  AtOnce : c.stalling ≡ false → Waited allows c old old
  After : (new : W) → c.stalling ≡ true → allows old (Wait c.var1) new → Waited allows c old new

-- the instruction is carried out: the configuration after it, the steps besides the first, and the space after it. A MOVE_DATA moves
-- 65536 bytes at most, and STALL_WHILE_TRUE stays while its field is equal
pub data Step {W : Type 0} (allows : W → Call → W → Type 0) (task : Task) (old : W) : Configuration → ℕ → W → Type 0 where
  Computes : (d : Configuration) → HasWork task (GoOn d) → Step allows task old d 0 old
  Goes : (to : ℕ) → HasWork task (GoTo to) → to < task.len → Step allows task old (record (next task.at) { place = to }) 0 old
  Stalls : (micros : ℕ) (new : W) → HasWork task (WaitFor micros) → allows old (Wait micros) new → Step allows task old (next task.at) 0 new
  Takes : (taken : ℕ → Configuration) (register : Register) (x : ℕ) (new : W) → HasWork task (TakeField taken) → checked task.entry.region ≡ Ok register →
      FieldRead allows register task.entry.mask old (Ok x) new → Step allows task old (taken x) 0 new
  Stores : (value : ℕ) (register : Register) (new : W) → HasWork task (StoreValue value) → checked task.entry.region ≡ Ok register →
      Store allows register task.entry value old (Ok tt) new → Step allows task old (next task.at) 0 new
  Changes : (changed : ℕ → ℕ) (register : Register) (x : ℕ) (mid new : W) → HasWork task (ChangeField changed) → checked task.entry.region ≡ Ok register →
      FieldRead allows register task.entry.mask old (Ok x) mid → Store allows register task.entry (changed x) mid (Ok tt) new → Step allows task old (next task.at) 0 new
  Compares : (register : Register) (x : ℕ) (mid new : W) → HasWork task CompareField → checked task.entry.region ≡ Ok register →
      Waited allows task.at old mid → FieldRead allows register task.entry.mask mid (Ok x) new →
      Step allows task old (if x == task.entry.value then record task.at { stalling = true } else next task.at) 0 new
  Moves : (register : Register) (x : ℕ) (mid new : W) → HasWork task MoveBytes → checked task.entry.region ≡ Ok register →
      FieldRead allows register task.entry.mask old (Ok x) mid → task.at.var2 ≤ 65536 →
      allows mid (Copy ((task.at.source + x) % 2 ^ 64) ((task.at.target + x) % 2 ^ 64) task.at.var2 (Ok tt)) new →
      Step allows task old (next task.at) (blocks task.at.var2) new

-- an access of the instruction is refused, but for the copy of a MOVE_DATA
pub data Refusal {W : Type 0} (allows : W → Call → W → Type 0) (task : Task) (old : W) : SpaceFault → W → Type 0 where
  NotRead : (work : Work) (register : Register) (fault : SpaceFault) (new : W) → HasWork task work → reads_first work ≡ true → checked task.entry.region ≡ Ok register →
      FieldRead allows register task.entry.mask old (Err fault) new → Refusal allows task old fault new
  NotCompared : (register : Register) (fault : SpaceFault) (mid new : W) → HasWork task CompareField → checked task.entry.region ≡ Ok register →
      Waited allows task.at old mid → FieldRead allows register task.entry.mask mid (Err fault) new → Refusal allows task old fault new
  NotStored : (value : ℕ) (register : Register) (fault : SpaceFault) (new : W) → HasWork task (StoreValue value) → checked task.entry.region ≡ Ok register →
      Store allows register task.entry value old (Err fault) new → Refusal allows task old fault new
  NotChanged : (changed : ℕ → ℕ) (register : Register) (x : ℕ) (fault : SpaceFault) (mid new : W) → HasWork task (ChangeField changed) → checked task.entry.region ≡ Ok register →
      FieldRead allows register task.entry.mask old (Ok x) mid → Store allows register task.entry (changed x) mid (Err fault) new → Refusal allows task old fault new

-- the instruction stops the run: the stop, the steps that are left of the `paid` that were left after its first, and the space
-- after it
pub data Halt {W : Type 0} (allows : W → Call → W → Type 0) (task : Task) (paid : ℕ) (old : W) : RunStop → ℕ → W → Type 0 where
  Unknown : instruction_of task.entry.code ≡ None → Halt allows task paid old (UnknownInstruction task.at.place task.entry.code) paid old
  Unregistered : (work : Work) (why : BadRegister) → HasWork task work → uses_register work ≡ true → checked task.entry.region ≡ Err why →
      Halt allows task paid old (BadRegion task.at.place why) paid old
  Outside : (to : ℕ) → HasWork task (GoTo to) → task.len ≤ to → Halt allows task paid old (GotoOutside task.at.place to) paid old
  IsRefused : (fault : SpaceFault) (new : W) → Refusal allows task old fault new → Halt allows task paid old (Space task.at.place fault) paid new
  TooLong : (register : Register) (x : ℕ) (new : W) → HasWork task MoveBytes → checked task.entry.region ≡ Ok register →
      FieldRead allows register task.entry.mask old (Ok x) new → 65536 < task.at.var2 →
      Halt allows task paid old (MoveTooLong task.at.place task.at.var2) paid new
  Unpaid : (register : Register) (x : ℕ) (new : W) → HasWork task MoveBytes → checked task.entry.region ≡ Ok register →
      FieldRead allows register task.entry.mask old (Ok x) new → task.at.var2 ≤ 65536 → paid < blocks task.at.var2 → Halt allows task paid old Budget 0 new
  NotCopied : (register : Register) (x : ℕ) (fault : SpaceFault) (mid new : W) → HasWork task MoveBytes → checked task.entry.region ≡ Ok register →
      FieldRead allows register task.entry.mask old (Ok x) mid → task.at.var2 ≤ 65536 → blocks task.at.var2 ≤ paid →
      allows mid (Copy ((task.at.source + x) % 2 ^ 64) ((task.at.target + x) % 2 ^ 64) task.at.var2 (Err fault)) new →
      Halt allows task paid old (Space task.at.place fault) (paid - blocks task.at.var2) new

-- what an instruction does with the steps that are left after its first
pub data Executes {W : Type 0} (allows : W → Call → W → Type 0) (task : Task) (paid : ℕ) (old : W) : Result Configuration RunStop → ℕ → W → Type 0 where
  GoesOn : (d : Configuration) (more left : ℕ) (new : W) → Step allows task old d more new → left + more ≡ paid → Executes allows task paid old (Ok d) left new
  Stops : (stop : RunStop) (left : ℕ) (new : W) → Halt allows task paid old stop left new → Executes allows task paid old (Err stop) left new
