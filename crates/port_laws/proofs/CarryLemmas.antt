-- A run over one space is a run over another, where each entry's access of the one is an access of the other.
use Rattle.std.proofs.Common.{◌≡◌, ℕ, zero, suc, ◌<◌, ◌≤◌, ◌∙◌, List, [], ◌∷◌, length, Some, Result, Ok, Err, refl, sym, ap, subst}
use Rattle.std.specs.Prelude.{slice_get, bit_and}
use Rattle.std.proofs.lemmas.Option.{none-some, same_Some}
use Rattle.apei_tables.specs.declared.registers.Place.{Place}
use Rattle.apei_tables.specs.declared.registers.Register.{Register}
use Rattle.apei_tables.specs.declared.structure.Gas.{Gas}
use Rattle.apei_tables.specs.declared.widths.Width.{Width}
use Rattle.apei_tables.specs.Check.{checked}
use Rattle.apei_tables.specs.Fields.{stored}
use Rattle.apei_space.specs.declared.faults.SpaceFault.{SpaceFault}
use Rattle.apei_space.specs.Calls.{Call, Read, Write}
use Rattle.erst_entries.specs.declared.entries.Entry.{Entry}
use Rattle.erst_entries.specs.declared.instructions.Instruction.{Instruction}
use Rattle.erst_entries.specs.Instructions.{instruction_of}
use Rattle.erst_entries.specs.Programs.{Listed}
use Rattle.erst_interp.specs.declared.configurations.Configuration.{Configuration}
use Rattle.erst_interp.specs.declared.configurations.Task.{Task}
use Rattle.erst_interp.specs.declared.stops.RunStop.{RunStop}
use Rattle.erst_interp.specs.Configurations.{next}
use Rattle.erst_interp.specs.Instructions.{Work, TakeField, StoreValue, work_of}
use Rattle.erst_interp.specs.Accesses.{FieldRead, Got, Refused, Store, Whole}
use Rattle.erst_interp.specs.Steps.{Step, Takes, Stores, Halt}
use Rattle.erst_interp.specs.Runs.{HasProgram, HasEntry, NeedsNone, Walk, Begun, Then, Run, NoProgram, Finishes, Exhausted, Halts}
use Rattle.erst_interp.proofs.StepLemmas.{same_register, StepBy, step_by, HaltBy, halt_by}
use Rattle.erst_interp.proofs.StraightLemmas.{whole_of, refused_of}

-- what an entry does on the one space, another does on the other; it never stops a run
pub record IsCarried {W V : Type 0} (allows : W → Call → W → Type 0) (onto : V → Call → V → Type 0) (image : W → V) (entry other : Entry) : Type 0 where
  pub step : (given len : ℕ) (at d : Configuration) (more : ℕ) (old new : W) → Step allows (record { entry = entry; given = given; len = len; at = at }) old d more new
      → Step onto (record { entry = other; given = given; len = len; at = at }) (image old) d more (image new)
  pub halts : (given len : ℕ) (at : Configuration) (paid : ℕ) (old : W) (stop : RunStop) (left : ℕ) (new : W) →
      Halt allows (record { entry = entry; given = given; len = len; at = at }) paid old stop left new → ⊥

pub data AreCarried {W V : Type 0} (allows : W → Call → W → Type 0) (onto : V → Call → V → Type 0) (image : W → V) : List Entry → List Entry → Type 0 where
  NoEntry : AreCarried allows onto image [] []
  OneEntry : (entry other : Entry) (entries others : List Entry) → IsCarried allows onto image entry other → AreCarried allows onto image entries others
      → AreCarried allows onto image (entry ∷ entries) (other ∷ others)

module _ {W V : Type 0} (allows : W → Call → W → Type 0) (onto : V → Call → V → Type 0) (image : W → V) where
  same_length : (entries others : List Entry) → AreCarried allows onto image entries others → length entries ≡ length others
  same_length entries others NoEntry = refl
  same_length entries others (OneEntry entry other more rest one all) = ap suc (same_length more rest all)

  other_at : (entries others : List Entry) → AreCarried allows onto image entries others → (n : ℕ) (entry : Entry) → slice_get entries n ≡ Some entry
      → (other : Entry) × ((slice_get others n ≡ Some other) × IsCarried allows onto image entry other)
  other_at entries others NoEntry n entry here = absurd (none-some entry here)
  other_at entries others (OneEntry first other more rest one all) zero entry here = (other, (refl, subst (λ (e : Entry). IsCarried allows onto image e other) (same_Some _ _ here) one))
  other_at entries others (OneEntry first other more rest one all) (suc n) entry here = other_at more rest all n entry here

  module _ (action : ℕ) (entries others : List Entry) (all : AreCarried allows onto image entries others) (given budget : ℕ) (first : W) where
    abbrev program : Listed
    program = record { action = action; entries = entries }

    abbrev other_program : Listed
    other_program = record { action = action; entries = others }

    has_other : HasProgram program → HasProgram other_program
    has_other (HasEntry some) = HasEntry (subst (λ (n : ℕ). 0 < n) (same_length entries others all) some)
    has_other (NeedsNone may) = NeedsNone may

    walk_carried : (left : ℕ) (c : Configuration) (last : W) → Walk allows program given budget first left c last → Walk onto other_program given budget (image first) left c (image last)
    walk_carried left c last Begun = Begun
    walk_carried left c last (Then before at mid entry d more after new walk here step sum) =
        let other = other_at entries others all at.place entry here in
        let carried : Step onto (record { entry = other.0; given = given; len = length entries; at = at }) (image mid) d more (image new) =
        other.1.1.step given (length entries) at d more mid new step in
        Then before at (image mid) other.0 d more after (image new) (walk_carried before at mid walk) other.1.0
        (subst (λ (n : ℕ). Step onto (record { entry = other.0; given = given; len = n; at = at }) (image mid) d more (image new)) (same_length entries others all) carried) sum

    pub run_carried : (answer : Result ℕ RunStop) (left : ℕ) (last : W) → Run allows program given budget first answer left last →
        Run onto other_program given budget (image first) answer left (image last)
    run_carried answer left last run = elim run as (λ answer left last run. Run onto other_program given budget (image first) answer left (image last)) [
      | NoProgram none may ↦ NoProgram (sym (same_length entries others all) ∙ none) may
      | Finishes left c last has walk end ↦ Finishes left c (image last) (has_other has) (walk_carried left c last walk) (subst (λ (n : ℕ). n ≤ c.place) (same_length entries others all) end)
      | Exhausted c last has walk more ↦ Exhausted c (image last) (has_other has) (walk_carried 0 c last walk) (subst (λ (n : ℕ). c.place < n) (same_length entries others all) more)
      | Halts paid c mid entry stop left last has walk here halt ↦ absurd ((other_at entries others all c.place entry here).1.1.halts given (length entries) c paid mid stop left last halt)
    ]

-- One entry, whose register stands elsewhere

-- a register of one field
abbrev pub register_at : Place → Width → Register
register_at place access = record { place = place; access = access; offset = 0 }

-- accesses of a place are those of another, and none is refused
pub record ReadsCarried {W V : Type 0} (allows : W → Call → W → Type 0) (onto : V → Call → V → Type 0) (image : W → V) (place other : Place) (access : Width) : Type 0 where
  pub carried : (old new : W) (answer : Result ℕ SpaceFault) → allows old (Read place access answer) new → onto (image old) (Read other access answer) (image new)
  pub served : (old new : W) (fault : SpaceFault) → allows old (Read place access (Err fault)) new → ⊥

pub record WritesCarried {W V : Type 0} (allows : W → Call → W → Type 0) (onto : V → Call → V → Type 0) (image : W → V) (place other : Place) (access : Width) (number : ℕ) : Type 0 where
  pub carried : (old new : W) (answer : Result (Unit {0}) SpaceFault) → allows old (Write place access number answer) new → onto (image old) (Write other access number answer) (image new)
  pub served : (old new : W) (fault : SpaceFault) → allows old (Write place access number (Err fault)) new → ⊥

abbrev moved : Gas → Task → Task
moved region task = record task { entry = record task.entry { region = region } }

module _ {W V : Type 0} (allows : W → Call → W → Type 0) (onto : V → Call → V → Type 0) (image : W → V) (place other : Place) (access : Width) where
  field_carried : ReadsCarried allows onto image place other access → (mask : ℕ) (old : W) (answer : Result ℕ SpaceFault) (new : W) → FieldRead allows (register_at place access) mask old answer new
      → FieldRead onto (register_at other access) mask (image old) answer (image new)
  field_carried reads mask old answer new read = elim read as (λ answer new read. FieldRead onto (register_at other access) mask (image old) answer (image new)) [
    | Got number new h ↦ Got number (image new) (reads.carried old new (Ok number) h)
    | Refused fault new h ↦ Refused fault (image new) (reads.carried old new (Err fault) h)
  ]

  store_carried : (entry : Entry) (region : Gas) (value : ℕ) → WritesCarried allows onto image place other access (stored value 0 entry.mask) → bit_and entry.flags 1 ≡ 0
      → (old : W) (answer : Result (Unit {0}) SpaceFault) (new : W) → Store allows (register_at place access) entry value old answer new
      → Store onto (register_at other access) (record entry { region = region }) value (image old) answer (image new)
  store_carried entry region value writes whole old answer new store =
      Whole answer (image new) whole (writes.carried old new answer (whole_of allows (register_at place access) entry value old answer new store whole))

  -- an entry that takes its field
  pub take_step : ReadsCarried allows onto image place other access → (task : Task) (region : Gas) (i : Instruction) (taken : ℕ → Configuration) → instruction_of task.entry.code ≡ Some i
      → work_of task i ≡ TakeField taken → work_of (moved region task) i ≡ TakeField taken → checked task.entry.region ≡ Ok (register_at place access) → checked region ≡ Ok (register_at other access)
      → (d : Configuration) (more : ℕ) (old new : W) → Step allows task old d more new → Step onto (moved region task) (image old) d more (image new)
  take_step reads task region i taken code work other_work here there d more old new step =
      let by : StepBy allows task old (TakeField taken) d more new = subst (λ (w : Work). StepBy allows task old w d more new) work (step_by allows task i code old d more new step) in
      let same = same_register (register_at place access) by.0 (checked task.entry.region) here by.4 in
      let read = field_carried reads task.entry.mask old (Ok by.1) new (subst (λ (r : Register). FieldRead allows r task.entry.mask old (Ok by.1) new) same by.5) in
      let done : Step onto (moved region task) (image old) (taken by.1) 0 (image new) =
      Takes taken (register_at other access) by.1 (image new) (record { instruction = i; code = code; work_is = other_work }) there read in
      subst (λ (n : ℕ). Step onto (moved region task) (image old) d n (image new)) (sym by.3)
      (subst (λ (c : Configuration). Step onto (moved region task) (image old) c 0 (image new)) (sym by.2) done)

  pub take_halts : ReadsCarried allows onto image place other access → (task : Task) (i : Instruction) (taken : ℕ → Configuration) → instruction_of task.entry.code ≡ Some i
      → work_of task i ≡ TakeField taken → checked task.entry.region ≡ Ok (register_at place access) → (paid : ℕ) (old : W) (stop : RunStop) (left : ℕ)
      (new : W) → Halt allows task paid old stop left new → ⊥
  take_halts reads task i taken code work here paid old stop left new halt =
      let by : HaltBy allows task paid old (TakeField taken) stop left new =
      subst (λ (w : Work). HaltBy allows task paid old w stop left new) work (halt_by allows task i code (λ uses. (register_at place access, here)) paid old stop left new halt) in
      let same = same_register (register_at place access) by.0 (checked task.entry.region) here by.2 in
      reads.served old new by.1 (refused_of allows (register_at place access) task.entry.mask old (Err by.1) new by.1
      (subst (λ (r : Register). FieldRead allows r task.entry.mask old (Err by.1) new) same by.3) refl)

  -- and one that stores a value over its whole register
  pub store_step : (task : Task) (region : Gas) (i : Instruction) (value : ℕ) → WritesCarried allows onto image place other access (stored value 0 task.entry.mask) → bit_and task.entry.flags 1 ≡ 0
      → instruction_of task.entry.code ≡ Some i → work_of task i ≡ StoreValue value → work_of (moved region task) i ≡ StoreValue value
      → checked task.entry.region ≡ Ok (register_at place access) → checked region ≡ Ok (register_at other access)
      → (d : Configuration) (more : ℕ) (old new : W) → Step allows task old d more new → Step onto (moved region task) (image old) d more (image new)
  store_step task region i value writes whole code work other_work here there d more old new step =
      let by : StepBy allows task old (StoreValue value) d more new = subst (λ (w : Work). StepBy allows task old w d more new) work (step_by allows task i code old d more new step) in
      let same = same_register (register_at place access) by.0 (checked task.entry.region) here by.3 in
      let wrote = store_carried task.entry region value writes whole old (Ok tt) new (subst (λ (r : Register). Store allows r task.entry value old (Ok tt) new) same by.4) in
      let done : Step onto (moved region task) (image old) (next task.at) 0 (image new) =
      Stores value (register_at other access) (image new) (record { instruction = i; code = code; work_is = other_work }) there wrote in
      subst (λ (n : ℕ). Step onto (moved region task) (image old) d n (image new)) (sym by.2)
      (subst (λ (c : Configuration). Step onto (moved region task) (image old) c 0 (image new)) (sym by.1) done)

  pub store_halts : (task : Task) (i : Instruction) (value : ℕ) → WritesCarried allows onto image place other access (stored value 0 task.entry.mask) → bit_and task.entry.flags 1 ≡ 0
      → instruction_of task.entry.code ≡ Some i → work_of task i ≡ StoreValue value → checked task.entry.region ≡ Ok (register_at place access)
      → (paid : ℕ) (old : W) (stop : RunStop) (left : ℕ) (new : W) → Halt allows task paid old stop left new → ⊥
  store_halts task i value writes whole code work here paid old stop left new halt =
      let by : HaltBy allows task paid old (StoreValue value) stop left new =
      subst (λ (w : Work). HaltBy allows task paid old w stop left new) work (halt_by allows task i code (λ uses. (register_at place access, here)) paid old stop left new halt) in
      let same = same_register (register_at place access) by.0 (checked task.entry.region) here by.2 in
      writes.served old new by.1 (whole_of allows (register_at place access) task.entry value old (Err by.1) new
      (subst (λ (r : Register). Store allows r task.entry value old (Err by.1) new) same by.3) whole)
