-- What each instruction of a move does.
use Rattle.std.proofs.Common.{◌≡◌, ◌∙◌, ℕ, ◌+◌, ◌-◌, ◌*◌, ◌/◌, ◌%◌, ◌^◌, ◌<◌, Some, Result, Ok, Err, refl, sym, ap, subst, arith}
use Rattle.std.specs.Prelude.{◌==◌, if◌then◌else◌}
use Rattle.std.proofs.lemmas.Nat.{and_mask}
use Rattle.apei_tables.specs.declared.registers.Register.{Register}
use Rattle.apei_tables.specs.declared.registers.Place.TheVariants.{Memory}
use Rattle.apei_tables.specs.declared.widths.Width.TheVariants.{B64}
use Rattle.apei_tables.specs.Check.{checked}
use Rattle.apei_tables.specs.Fields.{field, stored}
use Rattle.apei_space.specs.declared.faults.SpaceFault.{SpaceFault}
use Rattle.apei_space.specs.Calls.{Call, Copy}
use Rattle.erst_entries.specs.declared.actions.Action.{Action}
use Rattle.erst_entries.specs.declared.entries.Entry.{Entry}
use Rattle.erst_entries.specs.declared.instructions.Instruction.{Instruction}
use Rattle.erst_entries.specs.declared.instructions.Instruction.TheVariants.{WriteRegisterValue, LoadVar1, LoadVar2, StoreVar1, Add, SkipNextIfTrue, Goto, SetSourceBase, SetTargetBase, MoveData}
use Rattle.erst_entries.specs.Instructions.{instruction_of}
use Rattle.erst_entries.specs.Programs.{Listed}
use Rattle.erst_interp.specs.declared.configurations.Configuration.{Configuration}
use Rattle.erst_interp.specs.declared.configurations.Task.{Task}
use Rattle.erst_interp.specs.Configurations.{next}
use Rattle.erst_interp.specs.Instructions.{Work, TakeField, work_of}
use Rattle.erst_interp.specs.Accesses.{FieldRead, Store}
use Rattle.erst_interp.specs.Steps.{Step, blocks}
use Rattle.erst_interp.specs.Runs.{task_of}
use Rattle.erst_interp.proofs.StraightLemmas.{whole_of, got_of, refused_of}
use Rattle.erst_machine.specs.OwnTables.{register_of}
use Rattle.erst_shadow.specs.MoveEntries.{MoveRegister, address_of, plain_entry, put_number, use_register}
use Rattle.erst_interp.proofs.StepLemmas.{same_register, StepBy, step_by}
use Rattle.erst_shadow.proofs.Serving.{ServesMove}

-- Whole registers

abbrev pub register_at : MoveRegister → Register
register_at r = record { place = Memory (address_of r); access = B64; offset = 0 }

-- a number below 2 ^ 64 is stored and read whole
stored_whole : (n : ℕ) → n < 2 ^ 64 → stored n 0 (2 ^ 64 - 1) ≡ n
stored_whole n small = ap (λ (x : ℕ). x * 2 ^ 0 % 2 ^ 64) (and_mask n 64) ∙ (omega arith)

field_whole : (n : ℕ) → n < 2 ^ 64 → field n 0 (2 ^ 64 - 1) ≡ n
field_whole n small = and_mask (n / 2 ^ 0) 64 ∙ (omega arith)

pub no_fault : {T : Type 0} (x : T) (fault : SpaceFault) → Err fault ≡ Ok x → ⊥
no_fault x fault e = absurd (cc)

same_number : (x y : ℕ) → ◌≡◌ {A = Result ℕ SpaceFault} (Ok x) (Ok y) → x ≡ y
same_number x y e = cc

-- what a step did: where it goes on, by how many further steps, and the space after it
pub record HasDone {W : Type 0} (d : Configuration) (more : ℕ) (new : W) (to : Configuration) (extra : ℕ) (there : W) : Type 0 where
  pub goes : d ≡ to
  pub only : more ≡ extra
  pub left : new ≡ there

-- what an instruction of a move takes a register's number as: the instruction, and where a run goes on that was to go on in a configuration
pub record Taken : Type 0 where
  pub code : ℕ
  pub instruction : Instruction
  pub has_code : instruction_of code ≡ Some instruction
  pub taken : ℕ → Configuration → Configuration
  pub works : (task : Task) → work_of task instruction ≡ TakeField (λ x. taken x (next task.at))

abbrev pub of_source : Taken
of_source = record { code = 0x10; instruction = SetSourceBase; has_code = refl; taken = λ n c. record c { source = n }; works = λ task. refl }

abbrev pub of_target : Taken
of_target = record { code = 0x11; instruction = SetTargetBase; has_code = refl; taken = λ n c. record c { target = n }; works = λ task. refl }

abbrev pub of_var1 : Taken
of_var1 = record { code = 0x05; instruction = LoadVar1; has_code = refl; taken = λ n c. record c { var1 = n }; works = λ task. refl }

abbrev pub of_var2 : Taken
of_var2 = record { code = 0x06; instruction = LoadVar2; has_code = refl; taken = λ n c. record c { var2 = n }; works = λ task. refl }

module _ {W : Type 0} (allows : W → Call → W → Type 0) (fits : W → Type 0) (from target count : ℕ) (space : ServesMove allows fits from target count) where
  pub reads_number : (r : MoveRegister) (register : Register) (old new : W) (x known : ℕ) → checked (register_of 64 4 (address_of r)) ≡ Ok register →
      FieldRead allows register (2 ^ 64 - 1) old (Ok x) new → fits old → space.value r old ≡ known → known < 2 ^ 64
      → (x ≡ known) × (new ≡ old)
  reads_number r register old new x known region read fit value_is small =
      let is : register ≡ register_at r = same_register (register_at r) register (checked (register_of 64 4 (address_of r))) refl region in
      let got = got_of allows (register_at r) (2 ^ 64 - 1) old (Ok x) new x (subst (λ (reg : Register). FieldRead allows reg (2 ^ 64 - 1) old (Ok x) new) is read) refl in
      let reads = space.reads old new r (Ok got.0) fit got.1.1 in
      let number : got.0 ≡ known = same_number got.0 (space.value r old) reads.0 ∙ value_is in
      (got.1.0 ∙ ap (λ (n : ℕ). field n 0 (2 ^ 64 - 1)) number ∙ field_whole known small, reads.1)

  pub reads_always : (r : MoveRegister) (register : Register) (old new : W) (fault : SpaceFault) → checked (register_of 64 4 (address_of r)) ≡ Ok register →
      FieldRead allows register (2 ^ 64 - 1) old (Err fault) new → fits old → ⊥
  reads_always r register old new fault region read fit =
      let is : register ≡ register_at r = same_register (register_at r) register (checked (register_of 64 4 (address_of r))) refl region in
      let refused = refused_of allows (register_at r) (2 ^ 64 - 1) old (Err fault) new fault (subst (λ (reg : Register). FieldRead allows reg (2 ^ 64 - 1) old (Err fault) new) is read) refl in
      no_fault (space.value r old) fault (space.reads old new r (Err fault) fit refused).0

  pub writes_number : (r : MoveRegister) (register : Register) (action : Action) (code value number : ℕ) (old new : W) → checked (register_of 64 4 (address_of r)) ≡ Ok register
      → Store allows register (plain_entry action code (register_of 64 4 (address_of r)) value (2 ^ 64 - 1)) number old (Ok tt) new → fits old → number < 2 ^ 64 → new ≡ space.put r number old
  writes_number r register action code value number old new region store fit small =
      let is : register ≡ register_at r = same_register (register_at r) register (checked (register_of 64 4 (address_of r))) refl region in
      let wrote = whole_of allows (register_at r) (plain_entry action code (register_of 64 4 (address_of r)) value (2 ^ 64 - 1)) number old (Ok tt) new
      (subst (λ (reg : Register). Store allows reg (plain_entry action code (register_of 64 4 (address_of r)) value (2 ^ 64 - 1)) number old (Ok tt) new) is store) refl in
      (space.writes old new r (stored number 0 (2 ^ 64 - 1)) (Ok tt) fit wrote).1 ∙ ap (λ (n : ℕ). space.put r n old) (stored_whole number small)

  pub writes_always : (r : MoveRegister) (register : Register) (action : Action) (code value number : ℕ) (old new : W) (fault : SpaceFault) → checked (register_of 64 4 (address_of r)) ≡ Ok register
      → Store allows register (plain_entry action code (register_of 64 4 (address_of r)) value (2 ^ 64 - 1)) number old (Err fault) new → fits old → ⊥
  writes_always r register action code value number old new fault region store fit =
      let is : register ≡ register_at r = same_register (register_at r) register (checked (register_of 64 4 (address_of r))) refl region in
      let wrote = whole_of allows (register_at r) (plain_entry action code (register_of 64 4 (address_of r)) value (2 ^ 64 - 1)) number old (Err fault) new
      (subst (λ (reg : Register). Store allows reg (plain_entry action code (register_of 64 4 (address_of r)) value (2 ^ 64 - 1)) number old (Err fault) new) is store) refl in
      no_fault tt fault (space.writes old new r (stored number 0 (2 ^ 64 - 1)) (Err fault) fit wrote).0

  -- Each kind of entry, in any program

  module _ (program : Listed) (given : ℕ) (action : Action) where
    pub puts_number : (r : MoveRegister) (value : ℕ) (entry : Entry) (c : Configuration) (old : W) (d : Configuration) (more : ℕ) (new : W) →
        put_number action r value ≡ entry → value < 2 ^ 64 → fits old
        → Step allows (task_of program given entry c) old d more new → HasDone d more new (next c) 0 (space.put r value old)
    puts_number r value entry c old d more new is small fit step =
        let did = step_by allows (task_of program given (put_number action r value) c) WriteRegisterValue refl old d more new
        (subst (λ (e : Entry). Step allows (task_of program given e c) old d more new) (sym is) step) in
        record { goes = did.1; only = did.2; left = writes_number r did.0 action 0x3 value value old new did.3 did.4 fit small }

    pub stores_var1 : (r : MoveRegister) (entry : Entry) (c : Configuration) (old : W) (d : Configuration) (more : ℕ) (new : W) → use_register action 0x07 r ≡ entry → c.var1 < 2 ^ 64 → fits old
        → Step allows (task_of program given entry c) old d more new → HasDone d more new (next c) 0 (space.put r c.var1 old)
    stores_var1 r entry c old d more new is small fit step =
        let did = step_by allows (task_of program given (use_register action 0x07 r) c) StoreVar1 refl old d more new
        (subst (λ (e : Entry). Step allows (task_of program given e c) old d more new) (sym is) step) in
        record { goes = did.1; only = did.2; left = writes_number r did.0 action 0x07 0 c.var1 old new did.3 did.4 fit small }

    -- an instruction that takes what a register of a move holds
    pub takes : (into : Taken) (r : MoveRegister) (known : ℕ) (entry : Entry) (c : Configuration) (old : W) (d : Configuration) (more : ℕ) (new : W) →
        use_register action into.code r ≡ entry → space.value r old ≡ known → known < 2 ^ 64 → fits old
        → Step allows (task_of program given entry c) old d more new → HasDone d more new (into.taken known (next c)) 0 old
    takes into r known entry c old d more new is value_is small fit step =
        let task = task_of program given (use_register action into.code r) c in
        let did = subst (λ (w : Work). StepBy allows task old w d more new) (into.works task)
        (step_by allows task into.instruction into.has_code old d more new (subst (λ (e : Entry). Step allows (task_of program given e c) old d more new) (sym is) step)) in
        let read = reads_number r did.0 old new did.1 known did.4 did.5 fit value_is small in
        record { goes = did.2 ∙ ap (λ (n : ℕ). into.taken n (next c)) read.0; only = did.3; left = read.1 }

    pub adds_both : (entry : Entry) (c : Configuration) (old : W) (d : Configuration) (more : ℕ) (new : W) → plain_entry action 0x08 (register_of 0 0 0) 0 0 ≡ entry
        → Step allows (task_of program given entry c) old d more new → HasDone d more new (record (next c) { var1 = (c.var1 + c.var2) % 2 ^ 64 }) 0 old
    adds_both entry c old d more new is step =
        let did = step_by allows (task_of program given (plain_entry action 0x08 (register_of 0 0 0) 0 0) c) Add refl old d more new
        (subst (λ (e : Entry). Step allows (task_of program given e c) old d more new) (sym is) step) in
        record { goes = did.0; only = did.1; left = did.2 }

    pub goes_to : (to : ℕ) (entry : Entry) (c : Configuration) (old : W) (d : Configuration) (more : ℕ) (new : W) → plain_entry action 0x0F (register_of 0 0 0) to 0 ≡ entry
        → Step allows (task_of program given entry c) old d more new → HasDone d more new (record (next c) { place = to }) 0 old
    goes_to to entry c old d more new is step =
        let did = step_by allows (task_of program given (plain_entry action 0x0F (register_of 0 0 0) to 0) c) Goto refl old d more new
        (subst (λ (e : Entry). Step allows (task_of program given e c) old d more new) (sym is) step) in
        record { goes = did.0; only = did.1; left = did.2 }

    pub skips_or_goes : (r : MoveRegister) (size known : ℕ) (entry : Entry) (c : Configuration) (old : W) (d : Configuration) (more : ℕ) (new : W) →
        plain_entry action 0x0E (register_of 64 4 (address_of r)) size (2 ^ 64 - 1) ≡ entry → space.value r old ≡ known
        → known < 2 ^ 64 → fits old → Step allows (task_of program given entry c) old d more new → HasDone d more new (if known == size then next (next c) else next c) 0 old
    skips_or_goes r size known entry c old d more new is value_is small fit step =
        let did = step_by allows (task_of program given (plain_entry action 0x0E (register_of 64 4 (address_of r)) size (2 ^ 64 - 1)) c) SkipNextIfTrue refl old
        d more new (subst (λ (e : Entry). Step allows (task_of program given e c) old d more new) (sym is) step) in
        let read = reads_number r did.0 old new did.1 known did.4 did.5 fit value_is small in
        record { goes = did.2 ∙ ap (λ (n : ℕ). if n == size then next (next c) else next c) read.0; only = did.3; left = read.1 }

    pub copies_piece : (r : MoveRegister) (i : ℕ) (entry : Entry) (c : Configuration) (old : W) (d : Configuration) (more : ℕ) (new : W) →
        use_register action 0x12 r ≡ entry → space.value r old ≡ 128 * i → i < count
        → from + 128 * count < 2 ^ 64 → target + 128 * count < 2 ^ 64 → c.source ≡ from → c.target ≡ target → c.var2 ≡ 128 → fits old
        → Step allows (task_of program given entry c) old d more new → HasDone d more new (next c) 2 (space.copied i old)
    copies_piece r i entry c old d more new is value_is within source_fits target_fits source_is target_is size_is fit step =
        let did = step_by allows (task_of program given (use_register action 0x12 r) c) MoveData refl old d more new
        (subst (λ (e : Entry). Step allows (task_of program given e c) old d more new) (sym is) step) in
        let read = reads_number r did.0 old did.2 did.1 (128 * i) did.5 did.6 fit value_is (omega (arith, within, source_fits)) in
        let source : (c.source + did.1) % 2 ^ 64 ≡ from + 128 * i = ap (λ (n : ℕ). (n + did.1) % 2 ^ 64) source_is ∙ ap (λ (n : ℕ). (from + n) % 2 ^ 64) read.0
        ∙ (omega (arith, within, source_fits)) in
        let sink : (c.target + did.1) % 2 ^ 64 ≡ target + 128 * i = ap (λ (n : ℕ). (n + did.1) % 2 ^ 64) target_is ∙ ap (λ (n : ℕ). (target + n) % 2 ^ 64)
        read.0 ∙ (omega (arith, within, target_fits)) in
        let copies = subst (λ (w : W). allows w (Copy ((c.source + did.1) % 2 ^ 64) ((c.target + did.1) % 2 ^ 64) c.var2 (Ok tt)) new) read.1 did.7 in
        let asked = subst (λ (n : ℕ). allows old (Copy n (target + 128 * i) 128 (Ok tt)) new) source
        (subst (λ (n : ℕ). allows old (Copy ((c.source + did.1) % 2 ^ 64) n 128 (Ok tt)) new) sink
        (subst (λ (n : ℕ). allows old (Copy ((c.source + did.1) % 2 ^ 64) ((c.target + did.1) % 2 ^ 64) n (Ok tt)) new) size_is copies)) in
        record { goes = did.3; only = did.4 ∙ ap blocks size_is; left = (space.copies old new i (Ok tt) fit within asked).1 }
