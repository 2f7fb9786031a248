-- What one instruction did, or why it stopped, by the work of its row.
use Rattle.std.proofs.Common.{◌≡◌, ◌∙◌, ℕ, ◌<◌, ◌≤◌, true, Some, Result, Ok, Err, refl, sym, ap, subst}
use Rattle.std.specs.Prelude.{◌==◌, ◌-◌}
use Rattle.std.proofs.lemmas.Option.{none-some, same_Some}
use Rattle.apei_tables.specs.declared.registers.Register.{Register}
use Rattle.apei_tables.specs.declared.registers.BadRegister.{BadRegister}
use Rattle.apei_tables.specs.Check.{checked}
use Rattle.apei_space.specs.declared.faults.SpaceFault.{SpaceFault}
use Rattle.apei_space.specs.Calls.{Call}
use Rattle.erst_entries.specs.declared.instructions.Instruction.{Instruction}
use Rattle.erst_entries.specs.Instructions.{instruction_of}
use Rattle.erst_interp.specs.declared.configurations.Configuration.{Configuration}
use Rattle.erst_interp.specs.declared.configurations.Task.{Task}
use Rattle.erst_interp.specs.declared.stops.RunStop.{RunStop}
use Rattle.erst_interp.specs.declared.stops.RunStop.TheVariants.{Budget, Goto as GotoOutside, MoveTooLong, Space}
use Rattle.erst_interp.specs.Instructions.{Work, GoOn, GoTo, WaitFor, TakeField, StoreValue, ChangeField, CompareField, MoveBytes, work_of, HasWork, uses_register, reads_first}
use Rattle.erst_interp.specs.Configurations.{next}
use Rattle.erst_interp.specs.Accesses.{FieldRead, Store}
use Rattle.erst_interp.specs.Steps.{blocks, Step, Computes, Goes, Stalls, Takes, Stores, Changes, Compares, Moves, Refusal, NotRead, NotCompared, NotStored}
use Rattle.erst_interp.specs.Steps.{NotChanged, Halt, Unknown, Unregistered, Outside, IsRefused, TooLong, Unpaid, NotCopied}
use Rattle.erst_interp.proofs.Terms.{move_limit, copy_of, compared}

-- an entry has one instruction, and so one work
pub the_work : (task : Task) (i : Instruction) (work : Work) → instruction_of task.entry.code ≡ Some i → HasWork task work → work ≡ work_of task i
the_work task i work code has =
    let same : has.instruction ≡ i = same_Some _ _ (sym has.code ∙ code) in
    sym has.work_is ∙ ap (work_of task) same

-- and one register
pub same_register : (r s : Register) (answer : Result Register BadRegister) → answer ≡ Ok r → answer ≡ Ok s → s ≡ r
same_register r s answer e f = cc

-- what was done
abbrev pub StepBy : {W : Type 0} → (W → Call → W → Type 0) → Task → W → Work → Configuration → ℕ → W → Type 0
StepBy allows task old (GoOn e) d more new = (d ≡ e) × (more ≡ 0) × (new ≡ old)
StepBy allows task old (GoTo to) d more new = (d ≡ record (next task.at) { place = to }) × (more ≡ 0) × (new ≡ old)
StepBy allows task old (WaitFor micros) d more new = Unit {0}
StepBy allows task old (TakeField taken) d more new =
    (register : Register) × (x : ℕ) × (d ≡ taken x) × (more ≡ 0) × (checked task.entry.region ≡ Ok register) × FieldRead allows register task.entry.mask old (Ok x) new
StepBy allows task old (StoreValue value) d more new =
    (register : Register) × (d ≡ next task.at) × (more ≡ 0) × (checked task.entry.region ≡ Ok register) × Store allows register task.entry value old (Ok tt) new
StepBy allows task old (ChangeField changed) d more new = Unit {0}
StepBy allows task old CompareField d more new = Unit {0}
StepBy {W = W} allows task old MoveBytes d more new =
    (register : Register) × (x : ℕ) × (mid : W) × (d ≡ next task.at) × (more ≡ blocks task.at.var2) × (checked task.entry.region ≡ Ok register)
    × FieldRead allows register task.entry.mask old (Ok x) mid × allows mid (copy_of task.at x (Ok tt)) new

pub step_by : {W : Type 0} (allows : W → Call → W → Type 0) (task : Task) (i : Instruction) → instruction_of task.entry.code ≡ Some i → (old : W) (d : Configuration) (more : ℕ) (new : W)
    → Step allows task old d more new → StepBy allows task old (work_of task i) d more new
step_by {W = W} allows task i code old d more new step = elim step as (λ d more new step. StepBy allows task old (work_of task i) d more new) [
  | Computes e has ↦ subst (λ (w : Work). StepBy allows task old w e 0 old) (the_work task i (GoOn e) code has) (refl, refl, refl)
  | Goes to has within ↦ subst (λ (w : Work). StepBy allows task old w (record (next task.at) { place = to }) 0 old) (the_work task i (GoTo to) code has) (refl, refl, refl)
  | Stalls micros new has h ↦ subst (λ (w : Work). StepBy allows task old w (next task.at) 0 new) (the_work task i (WaitFor micros) code has) tt
  | Takes taken register x new has region h ↦
      subst (λ (w : Work). StepBy allows task old w (taken x) 0 new) (the_work task i (TakeField taken) code has) (register, x, refl, refl, region, h)
  | Stores value register new has region h ↦
      subst (λ (w : Work). StepBy allows task old w (next task.at) 0 new) (the_work task i (StoreValue value) code has) (register, refl, refl, region, h)
  | Changes changed register x mid new has region h k ↦ subst (λ (w : Work). StepBy allows task old w (next task.at) 0 new) (the_work task i (ChangeField changed) code has) tt
  | Compares register x mid new has region h k ↦ subst (λ (w : Work). StepBy allows task old w (compared (x == task.entry.value) task.at) 0 new) (the_work task i CompareField code has) tt
  | Moves register x mid new has region h less k ↦
      subst (λ (w : Work). StepBy allows task old w (next task.at) (blocks task.at.var2) new) (the_work task i MoveBytes code has) (register, x, mid, refl, refl, region, h, k)
]

-- which of its accesses was refused
abbrev pub RefusedBy : {W : Type 0} → (W → Call → W → Type 0) → Task → W → Work → W → Type 0
RefusedBy allows task old (GoOn e) new = ⊥
RefusedBy allows task old (GoTo to) new = ⊥
RefusedBy allows task old (WaitFor micros) new = ⊥
RefusedBy allows task old (TakeField taken) new = (register : Register) × (fault : SpaceFault) × (checked task.entry.region ≡ Ok register) × FieldRead allows
    register task.entry.mask old (Err fault) new
RefusedBy allows task old (StoreValue value) new = (register : Register) × (fault : SpaceFault) × (checked task.entry.region ≡ Ok register) × Store allows register task.entry value old (Err fault) new
RefusedBy allows task old (ChangeField changed) new = Unit {0}
RefusedBy allows task old CompareField new = Unit {0}
RefusedBy allows task old MoveBytes new = (register : Register) × (fault : SpaceFault) × (checked task.entry.region ≡ Ok register) × FieldRead allows register task.entry.mask old (Err fault) new

not_read : {W : Type 0} (allows : W → Call → W → Type 0) (task : Task) (old : W) (work : Work) (register : Register) (fault : SpaceFault) (new : W) →
    reads_first work ≡ true → checked task.entry.region ≡ Ok register
    → FieldRead allows register task.entry.mask old (Err fault) new → RefusedBy allows task old work new
not_read allows task old (GoOn e) register fault new early region h = absurd (cc early)
not_read allows task old (GoTo to) register fault new early region h = absurd (cc early)
not_read allows task old (WaitFor micros) register fault new early region h = absurd (cc early)
not_read allows task old (TakeField taken) register fault new early region h = (register, fault, region, h)
not_read allows task old (StoreValue value) register fault new early region h = absurd (cc early)
not_read allows task old (ChangeField changed) register fault new early region h = tt
not_read allows task old CompareField register fault new early region h = tt
not_read allows task old MoveBytes register fault new early region h = (register, fault, region, h)

refused_by : {W : Type 0} (allows : W → Call → W → Type 0) (task : Task) (i : Instruction) → instruction_of task.entry.code ≡ Some i → (old : W) (fault : SpaceFault) (new : W)
    → Refusal allows task old fault new → RefusedBy allows task old (work_of task i) new
refused_by allows task i code old fault new refusal = elim refusal as (λ fault new refusal. RefusedBy allows task old (work_of task i) new) [
  | NotRead work register fault new has early region h ↦ subst (λ (w : Work). RefusedBy allows task old w new) (the_work task i work code has)
      (not_read allows task old work register fault new early region h)
  | NotCompared register fault mid new has region h k ↦ subst (λ (w : Work). RefusedBy allows task old w new) (the_work task i CompareField code has) tt
  | NotStored value register fault new has region h ↦ subst (λ (w : Work). RefusedBy allows task old w new) (the_work task i (StoreValue value) code has) (register, fault, region, h)
  | NotChanged changed register x fault mid new has region h k ↦ subst (λ (w : Work). RefusedBy allows task old w new) (the_work task i (ChangeField changed) code has) tt
]

-- why a MOVE_DATA stopped
pub data MoveHalt {W : Type 0} (allows : W → Call → W → Type 0) (task : Task) (paid : ℕ) (old : W) : RunStop → ℕ → W → Type 0 where
  IsUnpaid : (register : Register) (x : ℕ) (new : W) → checked task.entry.region ≡ Ok register → FieldRead allows register task.entry.mask old (Ok x) new →
      paid < blocks task.at.var2 → MoveHalt allows task paid old Budget 0 new
  IsTooLong : (stop : RunStop) (left : ℕ) (new : W) → move_limit < task.at.var2 → MoveHalt allows task paid old stop left new
  IsNotRead : (stop : RunStop) (left : ℕ) (new : W) → RefusedBy allows task old MoveBytes new → MoveHalt allows task paid old stop left new
  IsNotCopied : (stop : RunStop) (left : ℕ) (register : Register) (x : ℕ) (fault : SpaceFault) (mid new : W) → checked task.entry.region ≡ Ok register →
      FieldRead allows register task.entry.mask old (Ok x) mid
      → allows mid (copy_of task.at x (Err fault)) new → MoveHalt allows task paid old stop left new

-- why an instruction stopped, where its register is one
abbrev pub HaltBy : {W : Type 0} → (W → Call → W → Type 0) → Task → ℕ → W → Work → RunStop → ℕ → W → Type 0
HaltBy allows task paid old (GoOn e) stop left new = ⊥
HaltBy allows task paid old (GoTo to) stop left new = task.len ≤ to
HaltBy allows task paid old (WaitFor micros) stop left new = ⊥
HaltBy allows task paid old (TakeField taken) stop left new = RefusedBy allows task old (TakeField taken) new
HaltBy allows task paid old (StoreValue value) stop left new = RefusedBy allows task old (StoreValue value) new
HaltBy allows task paid old (ChangeField changed) stop left new = Unit {0}
HaltBy allows task paid old CompareField stop left new = Unit {0}
HaltBy allows task paid old MoveBytes stop left new = MoveHalt allows task paid old stop left new

halt_refused : {W : Type 0} (allows : W → Call → W → Type 0) (task : Task) (paid : ℕ) (old : W) (work : Work) (stop : RunStop) (left : ℕ) (new : W) →
    RefusedBy allows task old work new → HaltBy allows task paid old work stop left new
halt_refused allows task paid old (GoOn e) stop left new refused = refused
halt_refused allows task paid old (GoTo to) stop left new refused = absurd refused
halt_refused allows task paid old (WaitFor micros) stop left new refused = refused
halt_refused allows task paid old (TakeField taken) stop left new refused = refused
halt_refused allows task paid old (StoreValue value) stop left new refused = refused
halt_refused allows task paid old (ChangeField changed) stop left new refused = tt
halt_refused allows task paid old CompareField stop left new refused = tt
halt_refused allows task paid old MoveBytes stop left new refused = IsNotRead stop left new refused

-- its region is a register, or it uses none
abbrev pub HasRegister : Task → Work → Type 0
HasRegister task work = uses_register work ≡ true → (register : Register) × (checked task.entry.region ≡ Ok register)

no_register : (register : Register) (why : BadRegister) (answer : Result Register BadRegister) → answer ≡ Ok register → answer ≡ Err why → ⊥
no_register register why answer e f = absurd (cc)

pub halt_by : {W : Type 0} (allows : W → Call → W → Type 0) (task : Task) (i : Instruction) → instruction_of task.entry.code ≡ Some i → HasRegister task (work_of task i)
    → (paid : ℕ) (old : W) (stop : RunStop) (left : ℕ) (new : W) → Halt allows task paid old stop left new → HaltBy allows task paid old (work_of task i) stop left new
halt_by allows task i code region_is paid old stop left new halt = elim halt as (λ stop left new halt. HaltBy allows task paid old (work_of task i) stop left new) [
  | Unknown none ↦ absurd (none-some i (sym none ∙ code))
  | Unregistered work why has used region ↦
      let same = the_work task i work code has in
      let register = region_is (sym (ap uses_register same) ∙ used) in
      absurd (no_register register.0 why (checked task.entry.region) register.1 region)
  | Outside to has beyond ↦ subst (λ (w : Work). HaltBy allows task paid old w (GotoOutside task.at.place to) paid old) (the_work task i (GoTo to) code has) beyond
  | IsRefused fault new h ↦ halt_refused allows task paid old (work_of task i) (Space task.at.place fault) paid new (refused_by allows task i code old fault new h)
  | TooLong register x new has region h more ↦ subst (λ (w : Work). HaltBy allows task paid old w (MoveTooLong task.at.place task.at.var2) paid new)
      (the_work task i MoveBytes code has) (IsTooLong (MoveTooLong task.at.place task.at.var2) paid new more)
  | Unpaid register x new has region h less short ↦ subst (λ (w : Work). HaltBy allows task paid old w Budget 0 new) (the_work task i MoveBytes code has) (IsUnpaid register x new region h short)
  | NotCopied register x fault mid new has region h less enough k ↦
      subst (λ (w : Work). HaltBy allows task paid old w (Space task.at.place fault) (paid - blocks task.at.var2) new) (the_work task i MoveBytes code has)
      (IsNotCopied (Space task.at.place fault) (paid - blocks task.at.var2) register x fault mid new region h k)
]
