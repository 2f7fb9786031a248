-- What is so of an instruction that waits for an access, over any space: `allows` relates the space before a call, the call with
-- its answer, and the space after it.
use Rattle.std.specs.Prelude.{◌≡◌, ℕ, ◌+◌, ◌≤◌, ◌%◌, ◌^◌, true, Ok, bit_and}
use Rattle.apei_tables.specs.declared.registers.Register.{Register}
use Rattle.apei_tables.specs.Check.{checked}
use Rattle.apei_tables.specs.Fields.{stored, merged}
use Rattle.apei_space.specs.Calls.{Call, Read}
use Rattle.erst_interp.specs.declared.configurations.Task.{Task}
use Rattle.erst_interp.specs.declared.states.Awaited.{Awaited}
use Rattle.erst_interp.specs.declared.states.Awaited.TheVariants.{Stall, Delay, Compared, Taken, Changed, Kept, Written, Offset, Copied}
use Rattle.erst_interp.specs.Instructions.{WaitFor, TakeField, StoreValue, ChangeField, CompareField, MoveBytes, HasWork}
use Rattle.erst_interp.specs.Works.{taken, changed}
use Rattle.erst_interp.specs.Accesses.{FieldRead}
use Rattle.erst_interp.specs.Steps.{blocks, Waited}

-- the value that a store is to store, once it is known
pub data HasValue {W : Type 0} (allows : W → Call → W → Type 0) (task : Task) (register : Register) (start : W) : ℕ → W → Type 0 where
  IsGiven : (value : ℕ) → HasWork task (StoreValue value) → HasValue allows task register start value start
  IsMade : (change : ℕ → ℕ) (x : ℕ) (mid : W) → HasWork task (ChangeField change) → FieldRead allows register task.entry.mask start (Ok x) mid →
      HasValue allows task register start (change x) mid

-- the number that it writes, once that is known
pub data HasNumber {W : Type 0} (allows : W → Call → W → Type 0) (task : Task) (register : Register) (start : W) : ℕ → W → Type 0 where
  IsWhole : (value : ℕ) (now : W) → HasValue allows task register start value now → bit_and task.entry.flags 1 ≡ 0 →
      HasNumber allows task register start (stored value register.offset task.entry.mask) now
  IsBeside : (value : ℕ) (mid : W) (number : ℕ) (now : W) → HasValue allows task register start value mid → (bit_and task.entry.flags 1 ≡ 0 → ⊥) →
      allows mid (Read register.place register.access (Ok number)) now → HasNumber allows task register start (merged number value register.offset task.entry.mask) now

-- the copy of a MOVE_DATA, once its field was read and its steps were paid
pub record HasCopy {W : Type 0} (allows : W → Call → W → Type 0) (task : Task) (paid : ℕ) (start : W) (source target len left : ℕ) (now : W) : Type 0 where
  pub register : Register
  pub x : ℕ
  pub work : HasWork task MoveBytes
  pub region : checked task.entry.region ≡ Ok register
  pub read : FieldRead allows register task.entry.mask start (Ok x) now
  pub small : task.at.var2 ≤ 65536
  pub sum : left + blocks task.at.var2 ≡ paid
  pub source_is : source ≡ (task.at.source + x) % 2 ^ 64
  pub target_is : target ≡ (task.at.target + x) % 2 ^ 64
  pub len_is : len ≡ task.at.var2

-- the instruction began in the space `start` with `paid` steps left after its first, and waits for this access
abbrev pub IsAwaited : {W : Type 0} → (W → Call → W → Type 0) → Task → ℕ → W → Awaited → ℕ → W → Type 0
IsAwaited allows task paid start (Stall micros) left now = (left ≡ paid) × (now ≡ start) × HasWork task (WaitFor micros)
IsAwaited allows task paid start (Delay register) left now =
    (left ≡ paid) × (now ≡ start) × HasWork task CompareField × (checked task.entry.region ≡ Ok register) × (task.at.stalling ≡ true)
IsAwaited allows task paid start (Compared register) left now =
    (left ≡ paid) × HasWork task CompareField × (checked task.entry.region ≡ Ok register) × Waited allows task.at start now
IsAwaited allows task paid start (Taken register how) left now =
    (left ≡ paid) × (now ≡ start) × HasWork task (TakeField (taken how task)) × (checked task.entry.region ≡ Ok register)
IsAwaited allows task paid start (Changed register how) left now =
    (left ≡ paid) × (now ≡ start) × HasWork task (ChangeField (changed how task)) × (checked task.entry.region ≡ Ok register)
IsAwaited allows task paid start (Kept register value) left now =
    (left ≡ paid) × HasValue allows task register start value now × (bit_and task.entry.flags 1 ≡ 0 → ⊥) × (checked task.entry.region ≡ Ok register)
IsAwaited allows task paid start (Written register number) left now =
    (left ≡ paid) × HasNumber allows task register start number now × (checked task.entry.region ≡ Ok register)
IsAwaited allows task paid start (Offset register) left now =
    (left ≡ paid) × (now ≡ start) × HasWork task MoveBytes × (checked task.entry.region ≡ Ok register)
IsAwaited allows task paid start (Copied source target len) left now = HasCopy allows task paid start source target len left now
