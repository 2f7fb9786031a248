-- Straight programs: each entry only takes its register's field, or only stores a value over its whole register, and goes
-- on. So a run goes through all of them in their order, one step each, if no access is refused.
use Rattle.std.specs.Prelude.{◌≡◌, ℕ, zero, suc, ◌+◌, ◌<◌, List, [], ◌∷◌, length, Some, unwrap_or, Result, Ok, Err, bit_and}
use Rattle.apei_tables.specs.declared.registers.Register.{Register}
use Rattle.apei_tables.specs.Check.{checked}
use Rattle.apei_tables.specs.Fields.{field, stored}
use Rattle.apei_space.specs.declared.faults.SpaceFault.{SpaceFault}
use Rattle.apei_space.specs.Calls.{Call, Read, Write}
use Rattle.erst_entries.specs.declared.entries.Entry.{Entry}
use Rattle.erst_entries.specs.declared.instructions.Instruction.{Instruction}
use Rattle.erst_entries.specs.Instructions.{instruction_of}
use Rattle.erst_entries.specs.Programs.{Listed}
use Rattle.erst_interp.specs.declared.configurations.Configuration.{Configuration}
use Rattle.erst_interp.specs.declared.configurations.Task.{Task}
use Rattle.erst_interp.specs.declared.stops.RunStop.{RunStop}
use Rattle.erst_interp.specs.declared.stops.RunStop.TheVariants.{Budget}
use Rattle.erst_interp.specs.Configurations.{begin, next}
use Rattle.erst_interp.specs.Instructions.{TakeField, StoreValue, work_of}
use Rattle.erst_interp.specs.Runs.{task_of}

-- an entry of a straight program, with its register
pub data IsStraight (entry : Entry) : Type 0 where
  TakesOnly : (i : Instruction) (taken : Task → ℕ → Configuration) (register : Register) → instruction_of entry.code ≡ Some i →
      ((task : Task) → task.entry ≡ entry → work_of task i ≡ TakeField (taken task)) → ((task : Task) (x : ℕ) → (taken task x).place ≡ task.at.place + 1) →
      checked entry.region ≡ Ok register → IsStraight entry
  StoresOnly : (i : Instruction) (value : Task → ℕ) (register : Register) → instruction_of entry.code ≡ Some i →
      ((task : Task) → task.entry ≡ entry → work_of task i ≡ StoreValue (value task)) → bit_and entry.flags 1 ≡ 0 →
      checked entry.region ≡ Ok register → IsStraight entry

-- what it does
abbrev pub Does : {W : Type 0} → (W → Call → W → Type 0) → Listed → ℕ → (entry : Entry) → IsStraight entry → Configuration → W → Configuration → W → Type 0
Does allows program given entry (TakesOnly i taken register code work on region) c w d v =
    (number : ℕ) × ((d ≡ taken (task_of program given entry c) (field number register.offset entry.mask)) × allows w (Read register.place register.access (Ok number)) v)
Does allows program given entry (StoresOnly i value register code work flags region) c w d v =
    (d ≡ next c) × allows w (Write register.place register.access (stored (value (task_of program given entry c)) register.offset entry.mask) (Ok tt)) v

-- its register refuses nothing
abbrev pub Serves : {W : Type 0} → (W → Call → W → Type 0) → (entry : Entry) → IsStraight entry → Type 0
Serves {W = W} allows entry (TakesOnly i taken register code work on region) = (w v : W) (fault : SpaceFault) → allows w (Read register.place register.access (Err fault)) v → ⊥
Serves {W = W} allows entry (StoresOnly i value register code work flags region) =
    (w v : W) (number : ℕ) (fault : SpaceFault) → allows w (Write register.place register.access number (Err fault)) v → ⊥

-- each of them is one, and serves
pub data AreStraight {W : Type 0} (allows : W → Call → W → Type 0) : List Entry → Type 0 where
  NoEntry : AreStraight allows []
  OneEntry : (entry : Entry) (rest : List Entry) (straight : IsStraight entry) → Serves allows entry straight → AreStraight allows rest → AreStraight allows (entry ∷ rest)

-- what the first n of them do, one after another
abbrev pub DoFirst : {W : Type 0} → (allows : W → Call → W → Type 0) → Listed → ℕ → (entries : List Entry) → AreStraight allows entries → ℕ → Configuration → W → Configuration → W → Type 0
DoFirst allows program given entries straight zero c w d v = (d ≡ c) × (v ≡ w)
DoFirst allows program given [] NoEntry (suc n) c w d v = ⊥
DoFirst {W = W} allows program given (entry ∷ rest) (OneEntry first others one serves more) (suc n) c w d v =
    (mid : Configuration) × ((between : W) × (Does allows program given entry one c w mid between × DoFirst allows program given rest more n mid between d v))

-- a run: all of them, or as many as the budget has steps
pub data RanStraight {W : Type 0} (allows : W → Call → W → Type 0) (program : Listed) (straight : AreStraight allows program.entries) (given budget : ℕ) (first : W) :
    Result ℕ RunStop → ℕ → W → Type 0 where
  Through : (c : Configuration) (left : ℕ) (last : W) → DoFirst allows program given program.entries straight (length program.entries) begin first c last →
      left + length program.entries ≡ budget → RanStraight allows program straight given budget first (Ok (unwrap_or c.result given)) left last
  OutOfSteps : (c : Configuration) (last : W) → DoFirst allows program given program.entries straight budget begin first c last →
      budget < length program.entries → RanStraight allows program straight given budget first (Err Budget) 0 last
