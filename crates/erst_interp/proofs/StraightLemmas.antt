-- A run of a straight program.
use Rattle.std.proofs.Common.{◌≡◌, ℕ, zero, suc, ◌+◌, ◌<◌, ◌≤◌, List, [], ◌∷◌, length, Some, Result, Ok, Err, refl, sym, ap, subst, ◌∙◌, arith}
use Rattle.std.specs.Prelude.{slice_get, bit_and}
use Rattle.std.proofs.lemmas.Option.{none-some, same_Some}
use Rattle.apei_tables.specs.declared.registers.Register.{Register}
use Rattle.apei_tables.specs.Check.{checked}
use Rattle.apei_tables.specs.Fields.{field, stored}
use Rattle.apei_space.specs.declared.faults.SpaceFault.{SpaceFault}
use Rattle.apei_space.specs.Calls.{Call, Read, Write}
use Rattle.erst_entries.specs.declared.entries.Entry.{Entry}
use Rattle.erst_entries.specs.Programs.{Listed}
use Rattle.erst_interp.specs.declared.configurations.Configuration.{Configuration}
use Rattle.erst_interp.specs.declared.configurations.Task.{Task}
use Rattle.erst_interp.specs.declared.stops.RunStop.{RunStop}
use Rattle.erst_interp.specs.Instructions.{Work}
use Rattle.erst_interp.specs.Configurations.{begin}
use Rattle.erst_interp.specs.Accesses.{FieldRead, Got, Refused, Store, Whole, Beside, Unread}
use Rattle.erst_interp.specs.Steps.{Step, Halt}
use Rattle.erst_interp.specs.Runs.{Walk, Begun, Then, Run, NoProgram, Finishes, Exhausted, Halts, task_of}
use Rattle.erst_interp.specs.Straight.{IsStraight, TakesOnly, StoresOnly, Does, Serves, AreStraight, NoEntry, OneEntry, DoFirst, RanStraight, Through, OutOfSteps}
use Rattle.erst_interp.proofs.StepLemmas.{same_register, StepBy, step_by, HaltBy, halt_by}

pub whole_of : {W : Type 0} (allows : W → Call → W → Type 0) (register : Register) (entry : Entry) (value : ℕ) (old : W) (answer : Result (Unit {0}) SpaceFault) (new : W) →
    Store allows register entry value old answer new → bit_and entry.flags 1 ≡ 0 → allows old (Write register.place register.access (stored value register.offset entry.mask) answer) new
whole_of allows register entry value old answer new done plain =
    elim done as (λ answer new done. allows old (Write register.place register.access (stored value register.offset entry.mask) answer) new) [
      | Whole answer new flags h ↦ h
      | Beside number mid answer new keeps h k ↦ absurd (keeps plain)
      | Unread fault new keeps h ↦ absurd (keeps plain)
    ]

pub got_of : {W : Type 0} (allows : W → Call → W → Type 0) (register : Register) (mask : ℕ) (old : W) (answer : Result ℕ SpaceFault) (new : W) (x : ℕ) →
    FieldRead allows register mask old answer new → answer ≡ Ok x →
    (number : ℕ) × ((x ≡ field number register.offset mask) × allows old (Read register.place register.access (Ok number)) new)
got_of allows register mask old answer new x read =
    elim read as (λ answer new read. answer ≡ Ok x → (number : ℕ) × ((x ≡ field number register.offset mask) × allows old (Read register.place register.access (Ok number)) new)) [
      | Got number new h ↦ λ e. (number, (cc, h))
      | Refused fault new h ↦ λ e. absurd (cc)
    ]

pub refused_of : {W : Type 0} (allows : W → Call → W → Type 0) (register : Register) (mask : ℕ) (old : W) (answer : Result ℕ SpaceFault) (new : W)
    (fault : SpaceFault) → FieldRead allows register mask old answer new → answer ≡ Err fault →
    allows old (Read register.place register.access (Err fault)) new
refused_of allows register mask old answer new fault read =
    elim read as (λ answer new read. answer ≡ Err fault → allows old (Read register.place register.access (Err fault)) new) [
      | Got number new h ↦ λ e. absurd (cc)
      | Refused other new h ↦ λ e. let same : other ≡ fault = cc in subst (λ (f : SpaceFault). allows old (Read register.place register.access (Err f)) new) same h
    ]

-- the step of a straight entry
pub record DoesStep {W : Type 0} (allows : W → Call → W → Type 0) (program : Listed) (given : ℕ) (entry : Entry) (straight : IsStraight entry) (c : Configuration) (old : W)
    (d : Configuration) (more : ℕ) (new : W) : Type 0 where
  pub only : more ≡ 0
  pub place : d.place ≡ c.place + 1
  pub does : Does allows program given entry straight c old d new

pub step_does : {W : Type 0} (allows : W → Call → W → Type 0) (program : Listed) (given : ℕ) (entry : Entry) (straight : IsStraight entry) (c : Configuration)
    (old : W) (d : Configuration) (more : ℕ) (new : W) →
    Step allows (task_of program given entry c) old d more new → DoesStep allows program given entry straight c old d more new
step_does allows program given entry (TakesOnly i taken register code work on region) c old d more new step =
    let task : Task = task_of program given entry c in
    let did = subst (λ (w : Work). StepBy allows task old w d more new) (work task refl) (step_by allows task i code old d more new step) in
    let read = subst (λ (r : Register). FieldRead allows r entry.mask old (Ok did.1) new) (same_register register did.0 (checked entry.region) region did.4) did.5 in
    let got = got_of allows register entry.mask old (Ok did.1) new did.1 read refl in
    record {
      only = did.3;
      place = ap (λ (b : Configuration). b.place) did.2 ∙ on task did.1;
      does = (got.0, (did.2 ∙ ap (taken task) got.1.0, got.1.1));
    }
step_does allows program given entry (StoresOnly i value register code work flags region) c old d more new step =
    let task : Task = task_of program given entry c in
    let did = subst (λ (w : Work). StepBy allows task old w d more new) (work task refl) (step_by allows task i code old d more new step) in
    let wrote = subst (λ (r : Register). Store allows r entry (value task) old (Ok tt) new) (same_register register did.0 (checked entry.region) region did.3) did.4 in
    record { only = did.2; place = ap (λ (b : Configuration). b.place) did.1; does = (did.1, whole_of allows register entry (value task) old (Ok tt) new wrote flags) }

pub halt_never : {W : Type 0} (allows : W → Call → W → Type 0) (program : Listed) (given : ℕ) (entry : Entry) (straight : IsStraight entry) →
    Serves allows entry straight → (c : Configuration) (paid : ℕ) (old : W)
    (stop : RunStop) (left : ℕ) (new : W) → Halt allows (task_of program given entry c) paid old stop left new → ⊥
halt_never allows program given entry (TakesOnly i taken register code work on region) serves c paid old stop left new halt =
    let task : Task = task_of program given entry c in
    let bad = subst (λ (w : Work). HaltBy allows task paid old w stop left new) (work task refl) (halt_by allows task i code (λ used. (register, region)) paid old stop left new halt) in
    let read = subst (λ (r : Register). FieldRead allows r entry.mask old (Err bad.1) new) (same_register register bad.0 (checked entry.region) region bad.2) bad.3 in
    serves old new bad.1 (refused_of allows register entry.mask old (Err bad.1) new bad.1 read refl)
halt_never allows program given entry (StoresOnly i value register code work flags region) serves c paid old stop left new halt =
    let task : Task = task_of program given entry c in
    let bad = subst (λ (w : Work). HaltBy allows task paid old w stop left new) (work task refl) (halt_by allows task i code (λ used. (register, region)) paid old stop left new halt) in
    let wrote = subst (λ (r : Register). Store allows r entry (value task) old (Err bad.1) new) (same_register register bad.0 (checked entry.region) region bad.2) bad.3 in
    serves old new _ bad.1 (whole_of allows register entry (value task) old (Err bad.1) new wrote flags)

-- the entry at a place is straight, and serves
nth : {W : Type 0} (allows : W → Call → W → Type 0) (entries : List Entry) → AreStraight allows entries → (n : ℕ) (entry : Entry) → slice_get entries n ≡ Some entry →
    (straight : IsStraight entry) × Serves allows entry straight
nth allows [] NoEntry n entry here = absurd (none-some entry here)
nth allows (head ∷ rest) (OneEntry same others one serves more) zero entry here =
    subst (λ (e : Entry). (straight : IsStraight e) × Serves allows e straight) (same_Some _ _ here) (one, serves)
nth allows (head ∷ rest) (OneEntry same others one serves more) (suc n) entry here = nth allows rest more n entry here

-- one entry more is done
one_more : {W : Type 0} (allows : W → Call → W → Type 0) (program : Listed) (given : ℕ) (entries : List Entry) (straight : AreStraight allows entries) (n : ℕ)
    (b : Configuration) (first : W) (c : Configuration) (mid : W)
    (entry : Entry) (d : Configuration) (last : W) → DoFirst allows program given entries straight n b first c mid → slice_get entries n ≡ Some entry →
    ((one : IsStraight entry) → Does allows program given entry one c mid d last) → DoFirst allows program given entries straight (suc n) b first d last
one_more allows program given [] NoEntry n b first c mid entry d last done here does = absurd (none-some entry here)
one_more allows program given (e ∷ rest) (OneEntry same others one serves more) zero b first c mid entry d last done here does =
    let is : entry ≡ e = sym (same_Some _ _ here) in
    let did : Does allows program given e one c mid d last = (subst (λ (x : Entry). (p : IsStraight x) → Does allows program given x p c mid d last) is does) one in
    let from : Does allows program given e one b mid d last = subst (λ (x : Configuration). Does allows program given e one x mid d last) done.0 did in
    (d, (last, (subst (λ (w : _). Does allows program given e one b w d last) done.1 from, (refl, refl))))
one_more allows program given (e ∷ rest) (OneEntry same others one serves more) (suc n) b first c mid entry d last done here does =
    (done.0, (done.1.0, (done.1.1.0, one_more allows program given rest more n done.0 done.1.0 c mid entry d last done.1.1.1 here does)))

-- how far a walk has come
record IsAt {W : Type 0} (allows : W → Call → W → Type 0) (program : Listed) (straight : AreStraight allows program.entries) (given budget : ℕ) (first : W)
    (left : ℕ) (c : Configuration) (last : W) : Type 0 where
  done : DoFirst allows program given program.entries straight c.place begin first c last
  spent : left + c.place ≡ budget
  within : c.place ≤ length program.entries

walks_straight : {W : Type 0} (allows : W → Call → W → Type 0) (program : Listed) (straight : AreStraight allows program.entries) (given budget : ℕ) (first : W)
    (left : ℕ) (c : Configuration) (last : W) →
    Walk allows program given budget first left c last → IsAt allows program straight given budget first left c last
walks_straight allows program straight given budget first left c last Begun = record { done = (refl, refl); spent = omega arith; within = omega arith }
walks_straight allows program straight given budget first left c last (Then before from mid entry d more after new walk here step sum) =
    let at = walks_straight allows program straight given budget first before from mid walk in
    let one = nth allows program.entries straight from.place entry here in
    let did = step_does allows program given entry one.0 from mid d more new step in
    let grown = one_more allows program given program.entries straight from.place begin first from mid entry d new at.done here
    (λ (p : IsStraight entry). (step_does allows program given entry p from mid d more new step).does) in
    let place : suc from.place ≡ d.place = omega (arith, did.place) in
    record {
      done = subst (λ (n : ℕ). DoFirst allows program given program.entries straight n begin first d new) place grown;
      spent = omega (arith, at.spent, did.only, did.place);
      within = omega (arith, did.place, slice_get_less program.entries from.place entry here);
    }
  where
    slice_get_less : (entries : List Entry) (n : ℕ) (entry : Entry) → slice_get entries n ≡ Some entry → n < length entries
    slice_get_less [] n entry here = absurd (none-some entry here)
    slice_get_less (e ∷ rest) zero entry here = omega arith
    slice_get_less (e ∷ rest) (suc n) entry here = let less = slice_get_less rest n entry here in omega (arith, less)

pub ran_straight : {W : Type 0} (allows : W → Call → W → Type 0) (program : Listed) (straight : AreStraight allows program.entries) → 0 < length program.entries → (given budget : ℕ) (first : W)
    (answer : Result ℕ RunStop) (left : ℕ) (last : W) → Run allows program given budget first answer left last → RanStraight allows program straight given budget first answer left last
ran_straight allows program straight some given budget first answer left last run =
    elim run as (λ answer left last run. RanStraight allows program straight given budget first answer left last) [
      | NoProgram none empty ↦ absurd (omega (arith, none, some))
      | Finishes left c last has walk end ↦
          let at = walks_straight allows program straight given budget first left c last walk in
          let all : c.place ≡ length program.entries = omega (arith, end, at.within) in
          Through c left last (subst (λ (n : ℕ). DoFirst allows program given program.entries straight n begin first c last) all at.done) (omega (arith, all, at.spent))
      | Exhausted c last has walk more ↦
          let at = walks_straight allows program straight given budget first 0 c last walk in
          let all : c.place ≡ budget = omega (arith, at.spent) in
          OutOfSteps c last (subst (λ (n : ℕ). DoFirst allows program given program.entries straight n begin first c last) all at.done) (omega (arith, all, more))
      | Halts paid c mid entry stop left last has walk here halt ↦
          let one = nth allows program.entries straight c.place entry here in
          absurd (halt_never allows program given entry one.0 one.1 c paid mid stop left last halt)
    ]
