-- What follows from a run of any program, under any budget: it is accesses one after another, and spends steps.
use Rattle.std.proofs.Common.{◌≡◌, ℕ, ◌+◌, ◌<◌, ◌≤◌, ◌⊎◌, false, Some, Result, Ok, Err, OnOk, refl, ap, inl, inr, arith}
use Rattle.base_model.specs.Faults.{Rose}
use Rattle.apei_tables.specs.declared.registers.Register.{Register}
use Rattle.apei_tables.specs.Fields.{stored, merged}
use Rattle.apei_space.specs.declared.faults.SpaceFault.{SpaceFault}
use Rattle.apei_space.specs.declared.faults.SpaceFault.TheVariants.{Device}
use Rattle.apei_space.specs.Calls.{Call, Write, HasReason, fault_of}
use Rattle.apei_space.specs.Accesses.{Reaches, Stays, Goes}
use Rattle.apei_space.proofs.AccessLemmas.{IsRefusedAt, reaches_refused, device_rose}
use Rattle.erst_entries.specs.declared.entries.Entry.{Entry}
use Rattle.erst_entries.specs.Programs.{Listed}
use Rattle.erst_interp.specs.declared.configurations.Configuration.{Configuration}
use Rattle.erst_interp.specs.declared.configurations.Task.{Task}
use Rattle.erst_interp.specs.declared.stops.RunStop.{RunStop}
use Rattle.erst_interp.specs.declared.stops.RunStop.TheVariants.{Space, Budget, Register as BadRegion, UnknownInstruction, Goto, MoveTooLong, NoAction}
use Rattle.erst_interp.specs.Configurations.{begin}
use Rattle.erst_interp.specs.Accesses.{FieldRead, Got, Refused, Store, Whole, Beside, Unread}
use Rattle.erst_interp.specs.Steps.{Waited, AtOnce, After, Step, Computes, Goes as GoesTo, Stalls, Takes, Stores, Changes, Compares, Moves, Refusal, NotRead}
use Rattle.erst_interp.specs.Steps.{NotCompared, NotStored, NotChanged, Halt, Unknown, Unregistered, Outside, IsRefused, TooLong, Unpaid, NotCopied}
use Rattle.erst_interp.specs.Runs.{may_be_empty, HasEntry, NeedsNone, Walk, Begun, Then, Run, NoProgram, Finishes, Exhausted, Halts}

-- what comes of an access with this answer: the space is reached, and where a fault was answered, by an access that answered it
abbrev Comes : {W T : Type 0} → (W → Call → W → Type 0) → W → Result T SpaceFault → W → Type 0
Comes allows first (Ok value) last = Reaches allows first last
Comes allows first (Err fault) last = IsRefusedAt allows first fault last

refused_by : {W : Type 0} (allows : W → Call → W → Type 0) (first mid : W) (call : Call) (fault : SpaceFault) (last : W) →
    Reaches allows first mid → allows mid call last → fault_of call ≡ Some fault → IsRefusedAt allows first fault last
refused_by allows first mid call fault last before allowed answers = record { mid = mid; call = call; before = before; allowed = allowed; answers = answers }

field_reaches : {W : Type 0} (allows : W → Call → W → Type 0) (first : W) (register : Register) (mask : ℕ) (old : W) (answer : Result ℕ SpaceFault) (new : W) →
    Reaches allows first old → FieldRead allows register mask old answer new → Comes allows first answer new
field_reaches allows first register mask old answer new so read =
    elim read as (λ answer new read. Comes allows first answer new) [
      | Got number new h ↦ Goes old _ new so h
      | Refused fault new h ↦ refused_by allows first old _ fault new so h refl
    ]

answer_reaches : {W : Type 0} (allows : W → Call → W → Type 0) (first mid : W) (call : Result (Unit {0}) SpaceFault → Call) (answer : Result (Unit {0}) SpaceFault) (last : W) →
    Reaches allows first mid → allows mid (call answer) last → ((fault : SpaceFault) → fault_of (call (Err fault)) ≡ Some fault) → Comes allows first answer last
answer_reaches allows first mid call (Ok done) last so h answers = Goes mid (call (Ok done)) last so h
answer_reaches allows first mid call (Err fault) last so h answers = refused_by allows first mid (call (Err fault)) fault last so h (answers fault)

store_reaches : {W : Type 0} (allows : W → Call → W → Type 0) (first : W) (register : Register) (entry : Entry) (value : ℕ) (old : W) (answer : Result (Unit {0}) SpaceFault) (new : W) →
    Reaches allows first old → Store allows register entry value old answer new → Comes allows first answer new
store_reaches allows first register entry value old answer new so done =
    elim done as (λ answer new done. Comes allows first answer new) [
      | Whole answer new plain h ↦ answer_reaches allows first old (Write register.place register.access (stored value register.offset entry.mask)) answer new so h (λ fault. refl)
      | Beside number mid answer new keeps h k ↦
          answer_reaches allows first mid (Write register.place register.access (merged number value register.offset entry.mask)) answer new (Goes old _ mid so h) k (λ fault. refl)
      | Unread fault new keeps h ↦ refused_by allows first old _ fault new so h refl
    ]

waited_reaches : {W : Type 0} (allows : W → Call → W → Type 0) (first : W) (c : Configuration) (old new : W) → Reaches allows first old → Waited allows c old new → Reaches allows first new
waited_reaches allows first c old new so waited =
    elim waited as (λ new waited. Reaches allows first new) [
      | AtOnce e ↦ so
      | After new e h ↦ Goes old _ new so h
    ]

step_reaches : {W : Type 0} (allows : W → Call → W → Type 0) (first : W) (task : Task) (old : W) (d : Configuration) (more : ℕ) (new : W) →
    Reaches allows first old → Step allows task old d more new → Reaches allows first new
step_reaches allows first task old d more new so step =
    elim step as (λ d more new step. Reaches allows first new) [
      | Computes d has ↦ so
      | GoesTo to has within ↦ so
      | Stalls micros new has h ↦ Goes old _ new so h
      | Takes taken register x new has is h ↦ field_reaches allows first register task.entry.mask old (Ok x) new so h
      | Stores value register new has is h ↦ store_reaches allows first register task.entry value old (Ok tt) new so h
      | Changes changed register x mid new has is h k ↦ store_reaches allows first register task.entry (changed x) mid (Ok tt) new
          (field_reaches allows first register task.entry.mask old (Ok x) mid so h) k
      | Compares register x mid new has is h k ↦ field_reaches allows first register task.entry.mask mid (Ok x) new (waited_reaches allows first task.at old mid so h) k
      | Moves register x mid new has is h less k ↦ Goes mid _ new (field_reaches allows first register task.entry.mask old (Ok x) mid so h) k
    ]

refusal_reaches : {W : Type 0} (allows : W → Call → W → Type 0) (first : W) (task : Task) (old : W) (fault : SpaceFault) (new : W) →
    Reaches allows first old → Refusal allows task old fault new → IsRefusedAt allows first fault new
refusal_reaches allows first task old fault new so refusal =
    elim refusal as (λ fault new refusal. IsRefusedAt allows first fault new) [
      | NotRead work register fault new has early is h ↦ field_reaches allows first register task.entry.mask old (Err fault) new so h
      | NotCompared register fault mid new has is h k ↦ field_reaches allows first register task.entry.mask mid (Err fault) new (waited_reaches allows first task.at old mid so h) k
      | NotStored value register fault new has is h ↦ store_reaches allows first register task.entry value old (Err fault) new so h
      | NotChanged changed register x fault mid new has is h k ↦
          store_reaches allows first register task.entry (changed x) mid (Err fault) new (field_reaches allows first register task.entry.mask old (Ok x) mid so h) k
    ]

-- what comes of a run that stops
abbrev Stopped : {W : Type 0} → (W → Call → W → Type 0) → W → RunStop → W → Type 0
Stopped allows first (Space index fault) last = IsRefusedAt allows first fault last
Stopped allows first Budget last = Reaches allows first last
Stopped allows first (BadRegion index why) last = Reaches allows first last
Stopped allows first (UnknownInstruction index code) last = Reaches allows first last
Stopped allows first (Goto index to) last = Reaches allows first last
Stopped allows first (MoveTooLong index len) last = Reaches allows first last
Stopped allows first (NoAction code) last = Reaches allows first last

halt_reaches : {W : Type 0} (allows : W → Call → W → Type 0) (first : W) (task : Task) (paid : ℕ) (old : W) (stop : RunStop) (left : ℕ) (new : W) →
    Reaches allows first old → Halt allows task paid old stop left new → Stopped allows first stop new
halt_reaches allows first task paid old stop left new so halt =
    elim halt as (λ stop left new halt. Stopped allows first stop new) [
      | Unknown e ↦ so
      | Unregistered work why has used is ↦ so
      | Outside to has beyond ↦ so
      | IsRefused fault new h ↦ refusal_reaches allows first task old fault new so h
      | TooLong register x new has is h more ↦ field_reaches allows first register task.entry.mask old (Ok x) new so h
      | Unpaid register x new has is h less short ↦ field_reaches allows first register task.entry.mask old (Ok x) new so h
      | NotCopied register x fault mid new has is h less enough k ↦ refused_by allows first mid _ fault new (field_reaches allows first register task.entry.mask old (Ok x) mid so h) k refl
    ]

halt_spends : {W : Type 0} (allows : W → Call → W → Type 0) (task : Task) (paid : ℕ) (old : W) (stop : RunStop) (left : ℕ) (new : W) → Halt allows task paid old stop left new → left ≤ paid
halt_spends allows task paid old stop left new halt =
    elim halt as (λ stop left new halt. left ≤ paid) [
      | Unknown e ↦ omega arith
      | Unregistered work why has used is ↦ omega arith
      | Outside to has beyond ↦ omega arith
      | IsRefused fault new h ↦ omega arith
      | TooLong register x new has is h more ↦ omega arith
      | Unpaid register x new has is h less short ↦ omega arith
      | NotCopied register x fault mid new has is h less enough k ↦ omega arith
    ]

-- a walk goes on by accesses, and spends at least one step once it has moved
record Walks {W : Type 0} (allows : W → Call → W → Type 0) (budget : ℕ) (first : W) (left : ℕ) (c : Configuration) (new : W) : Type 0 where
  reaches : Reaches allows first new
  spends : left ≤ budget
  moved : (c ≡ begin) ⊎ (left < budget)

walks : {W : Type 0} (allows : W → Call → W → Type 0) (program : Listed) (given budget : ℕ) (first : W) (left : ℕ) (c : Configuration) (new : W) →
    Walk allows program given budget first left c new → Walks allows budget first left c new
walks allows program given budget first left c new Begun = record { reaches = Stays; spends = omega arith; moved = inl refl }
walks allows program given budget first left c new (Then before b mid entry d more after last walk here step sum) =
    let rest = walks allows program given budget first before b mid walk in
    record {
      reaches = step_reaches allows first _ mid d more last rest.reaches step;
      spends = omega (arith, rest.spends);
      moved = inr (omega (arith, rest.spends));
    }

-- what comes of a run
abbrev Ended : {W : Type 0} → (W → Call → W → Type 0) → W → Result ℕ RunStop → W → Type 0
Ended allows first (Ok value) last = Reaches allows first last
Ended allows first (Err stop) last = Stopped allows first stop last

ended : {W : Type 0} (allows : W → Call → W → Type 0) (program : Listed) (given budget : ℕ) (first : W) (answer : Result ℕ RunStop) (left : ℕ) (new : W) →
    Run allows program given budget first answer left new → Ended allows first answer new
ended allows program given budget first answer left new run =
    elim run as (λ answer left new run. Ended allows first answer new) [
      | NoProgram none empty ↦ Stays
      | Finishes left c last has walk end ↦ (walks allows program given budget first left c last walk).reaches
      | Exhausted c last has walk more ↦ (walks allows program given budget first 0 c last walk).reaches
      | Halts paid c mid entry stop left last has walk here halt ↦
          halt_reaches allows first _ paid mid stop left last (walks allows program given budget first (paid + 1) c mid walk).reaches halt
    ]

stopped_reaches : {W : Type 0} (allows : W → Call → W → Type 0) (first : W) (stop : RunStop) (last : W) → Stopped allows first stop last → Reaches allows first last
stopped_reaches allows first (Space index fault) last so = reaches_refused allows first fault last so
stopped_reaches allows first Budget last so = so
stopped_reaches allows first (BadRegion index why) last so = so
stopped_reaches allows first (UnknownInstruction index code) last so = so
stopped_reaches allows first (Goto index to) last so = so
stopped_reaches allows first (MoveTooLong index len) last so = so
stopped_reaches allows first (NoAction code) last so = so

ended_reaches : {W : Type 0} (allows : W → Call → W → Type 0) (first : W) (answer : Result ℕ RunStop) (last : W) → Ended allows first answer last → Reaches allows first last
ended_reaches allows first (Ok value) last so = so
ended_reaches allows first (Err stop) last so = stopped_reaches allows first stop last so

pub run_reaches : {W : Type 0} (allows : W → Call → W → Type 0) (program : Listed) (given budget : ℕ) (first : W) (answer : Result ℕ RunStop) (left : ℕ) (new : W) →
    Run allows program given budget first answer left new → Reaches allows first new
run_reaches allows program given budget first answer left new run = ended_reaches allows first answer new (ended allows program given budget first answer left new run)

-- a device's fault has its cause
pub run_device : {W : Type 0} (allows : W → Call → W → Type 0) (faults : W → ℕ) (reasons : (old new : W) (call : Call) → allows old call new → HasReason faults old call new)
    (program : Listed) (given budget : ℕ) (first : W) (index left : ℕ) (new : W) → Run allows program given budget first (Err (Space index Device)) left new → Rose (faults first) (faults new)
run_device allows faults reasons program given budget first index left new run =
    device_rose allows faults reasons first new (ended allows program given budget first (Err (Space index Device)) left new run)

pub run_spends : {W : Type 0} (allows : W → Call → W → Type 0) (program : Listed) (given budget : ℕ) (first : W) (answer : Result ℕ RunStop) (left : ℕ) (new : W) →
    Run allows program given budget first answer left new → left ≤ budget
run_spends allows program given budget first answer left new run =
    elim run as (λ answer left new run. left ≤ budget) [
      | NoProgram none empty ↦ omega arith
      | Finishes left c last has walk end ↦ (walks allows program given budget first left c last walk).spends
      | Exhausted c last has walk more ↦ omega arith
      | Halts paid c mid entry stop left last has walk here halt ↦
          omega (arith, (walks allows program given budget first (paid + 1) c mid walk).spends, halt_spends allows _ paid mid stop left last halt)
    ]

-- an answer of a program that may not be empty took at least one step
pub run_spends_some : {W : Type 0} (allows : W → Call → W → Type 0) (program : Listed) (given budget : ℕ) (first : W) (answer : Result ℕ RunStop) (left : ℕ) (last : W) →
    Run allows program given budget first answer left last → may_be_empty program.action ≡ false → OnOk answer (left < budget)
run_spends_some allows program given budget first answer left last run full =
    elim run as (λ answer left last run. OnOk answer (left < budget)) [
      | NoProgram none empty ↦ tt
      | Finishes left c last has walk end ↦ elim (walks allows program given budget first left c last walk).moved [
        | inl start ↦ elim has [
          | HasEntry some ↦ absurd (let place : c.place ≡ 0 = ap (λ (b : Configuration). b.place) start in omega arith)
          | NeedsNone empty ↦ absurd (cc)
        ]
        | inr less ↦ less
      ]
      | Exhausted c last has walk more ↦ tt
      | Halts paid c mid entry stop left last has walk here halt ↦ tt
    ]
