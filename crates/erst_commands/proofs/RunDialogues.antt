-- A run of a program as a dialogue.
use Rattle.std.proofs.Common.{◌≡◌, ℕ, zero, suc, ◌+◌, ◌-◌, ◌<◌, ◌≤◌, Bool, true, false, length, Option, Some, None, Result, Ok, Err, refl, sym, ap, subst, arith, inl, inr}
use Rattle.std.specs.Prelude.{◌==◌, nat_lt, slice_get, unwrap_or, bit_and}
use Rattle.std.proofs.lemmas.Bool.{ne_eqb}
use Rattle.std.proofs.lemmas.Bool.Decides.{nat_tests}
use Rattle.std.proofs.lemmas.Option.{slice_get_past, slice_get_cases}
use Rattle.apei_tables.specs.declared.registers.Register.{Register}
use Rattle.apei_tables.specs.declared.registers.BadRegister.{BadRegister}
use Rattle.apei_tables.specs.Check.{checked}
use Rattle.apei_tables.specs.Fields.{field, stored, merged}
use Rattle.apei_space.specs.declared.faults.SpaceFault.{SpaceFault}
use Rattle.apei_space.specs.Calls.{Call, Read, Write, Wait, Copy, ReadBytes, WriteBytes}
use Rattle.erst_entries.specs.declared.entries.Entry.{Entry}
use Rattle.erst_entries.specs.declared.instructions.Instruction.{Instruction}
use Rattle.erst_entries.specs.Instructions.{instruction_of}
use Rattle.erst_entries.specs.Programs.{Listed}
use Rattle.erst_interp.specs.declared.configurations.Configuration.{Configuration}
use Rattle.erst_interp.specs.declared.configurations.Task.{Task}
use Rattle.erst_interp.specs.declared.stops.RunStop.{RunStop}
use Rattle.erst_interp.specs.declared.stops.RunStop.TheVariants.{Register as BadRegion, UnknownInstruction, Goto as GotoOutside, MoveTooLong, Space, Budget, NoAction}
use Rattle.erst_interp.specs.Instructions.{Work, GoOn, GoTo, WaitFor, TakeField, StoreValue, ChangeField, CompareField, MoveBytes, work_of, HasWork, uses_register, reads_first}
use Rattle.erst_interp.specs.Configurations.{begin, next}
use Rattle.erst_interp.specs.Accesses.{FieldRead, Got, Refused, Store, Whole, Beside, Unread}
use Rattle.erst_interp.specs.Steps.{blocks, Waited, AtOnce, After, Step, Computes, Goes, Stalls, Takes, Stores, Changes, Compares, Moves, Refusal, NotRead}
use Rattle.erst_interp.specs.Steps.{NotCompared, NotStored, NotChanged, Halt, Unknown, Unregistered, Outside, IsRefused, TooLong, Unpaid, NotCopied}
use Rattle.erst_interp.specs.Runs.{may_be_empty, HasProgram, HasEntry, NeedsNone, task_of, Walk, Begun, Then, Run, NoProgram, Finishes, Exhausted, Halts}
use Rattle.erst_commands.proofs.Dialogues.{Dialogue, Ends, Calls, go_on, Held, IsDone, Answered, done, then}
use Rattle.erst_interp.proofs.Terms.{move_limit, copy_of, compared}

-- the answer in a call
abbrev number_in : Call → Result ℕ SpaceFault
number_in (Read at width answer) = answer
number_in call = Ok 0

abbrev pub answer_in : Call → Result (Unit {0}) SpaceFault
answer_in (Write at width value answer) = answer
answer_in (Copy from target len answer) = answer
answer_in (ReadBytes at before after answer) = answer
answer_in (WriteBytes at bytes answer) = answer
answer_in call = Ok tt

-- Fields

abbrev field_of : Register → ℕ → Result ℕ SpaceFault → Result ℕ SpaceFault
field_of register mask (Ok number) = Ok (field number register.offset mask)
field_of register mask (Err fault) = Err fault

read_field : Register → ℕ → Dialogue (Result ℕ SpaceFault)
read_field register mask = Calls (Read register.place register.access (Ok 0)) (λ call. Ends (field_of register mask (number_in call)))

write_register : Register → ℕ → Dialogue (Result (Unit {0}) SpaceFault)
write_register register value = Calls (Write register.place register.access value (Ok tt)) (λ call. Ends (answer_in call))

abbrev store_beside : Register → Entry → ℕ → Result ℕ SpaceFault → Dialogue (Result (Unit {0}) SpaceFault)
store_beside register entry value (Ok number) = write_register register (merged number value register.offset entry.mask)
store_beside register entry value (Err fault) = Ends (Err fault)

abbrev store_by : Bool → Register → Entry → ℕ → Dialogue (Result (Unit {0}) SpaceFault)
store_by true register entry value = write_register register (stored value register.offset entry.mask)
store_by false register entry value = Calls (Read register.place register.access (Ok 0)) (λ call. store_beside register entry value (number_in call))

store_field : Register → Entry → ℕ → Dialogue (Result (Unit {0}) SpaceFault)
store_field register entry value = store_by (bit_and entry.flags 1 == 0) register entry value

-- Instructions: what goes on, or stops, with the steps that are left

abbrev pub Outcome : Type 0
Outcome = Result Configuration RunStop × ℕ

module _ (task : Task) (paid : ℕ) where
  abbrev refused_by : SpaceFault → Dialogue Outcome
  refused_by fault = Ends (Err (Space task.at.place fault), paid)

  abbrev with_register : Result Register BadRegister → (Register → Dialogue Outcome) → Dialogue Outcome
  with_register (Ok register) more = more register
  with_register (Err why) more = Ends (Err (BadRegion task.at.place why), paid)

  abbrev when_read : (ℕ → Dialogue Outcome) → Result ℕ SpaceFault → Dialogue Outcome
  when_read more (Ok x) = more x
  when_read more (Err fault) = refused_by fault

  abbrev when_stored : Result (Unit {0}) SpaceFault → Dialogue Outcome
  when_stored (Ok done) = Ends (Ok (next task.at), paid)
  when_stored (Err fault) = refused_by fault

  abbrev go_to : Bool → ℕ → Dialogue Outcome
  go_to true to = Ends (Ok (record (next task.at) { place = to }), paid)
  go_to false to = Ends (Err (GotoOutside task.at.place to), paid)

  abbrev wait_again : Bool → Dialogue (Unit {0})
  wait_again true = Calls (Wait task.at.var1) (λ call. Ends tt)
  wait_again false = Ends tt

  abbrev when_copied : Result (Unit {0}) SpaceFault → Dialogue Outcome
  when_copied (Ok done) = Ends (Ok (next task.at), paid - blocks task.at.var2)
  when_copied (Err fault) = Ends (Err (Space task.at.place fault), paid - blocks task.at.var2)

  abbrev move_paid : Bool → ℕ → Dialogue Outcome
  move_paid true x = Ends (Err Budget, 0)
  move_paid false x = Calls (copy_of task.at x (Ok tt)) (λ call. when_copied (answer_in call))

  abbrev move_within : Bool → ℕ → Dialogue Outcome
  move_within true x = Ends (Err (MoveTooLong task.at.place task.at.var2), paid)
  move_within false x = move_paid (nat_lt paid (blocks task.at.var2)) x

  abbrev take_field : (ℕ → Configuration) → Register → Dialogue Outcome
  take_field taken register = go_on (read_field register task.entry.mask) (when_read (λ x. Ends (Ok (taken x), paid)))

  abbrev store_value : ℕ → Register → Dialogue Outcome
  store_value value register = go_on (store_field register task.entry value) when_stored

  abbrev change_field : (ℕ → ℕ) → Register → Dialogue Outcome
  change_field changed register = go_on (read_field register task.entry.mask) (when_read (λ x. store_value (changed x) register))

  abbrev compare_field : Register → Dialogue Outcome
  compare_field register = go_on (wait_again task.at.stalling) (λ waited. take_field (λ x. compared (x == task.entry.value) task.at) register)

  abbrev move_bytes : Register → Dialogue Outcome
  move_bytes register = go_on (read_field register task.entry.mask) (when_read (λ x. move_within (nat_lt move_limit task.at.var2) x))

  abbrev do_work : Work → Dialogue Outcome
  do_work (GoOn d) = Ends (Ok d, paid)
  do_work (GoTo to) = go_to (nat_lt to task.len) to
  do_work (WaitFor micros) = Calls (Wait micros) (λ call. Ends (Ok (next task.at), paid))
  do_work (TakeField taken) = with_register (checked task.entry.region) (take_field taken)
  do_work (StoreValue value) = with_register (checked task.entry.region) (store_value value)
  do_work (ChangeField changed) = with_register (checked task.entry.region) (change_field changed)
  do_work CompareField = with_register (checked task.entry.region) compare_field
  do_work MoveBytes = with_register (checked task.entry.region) move_bytes

  abbrev do_instruction : Option Instruction → Dialogue Outcome
  do_instruction None = Ends (Err (UnknownInstruction task.at.place task.entry.code), paid)
  do_instruction (Some instruction) = do_work (work_of task instruction)

  execute : Dialogue Outcome
  execute = do_instruction (instruction_of task.entry.code)

-- Runs. The first argument bounds how many instructions follow

abbrev went : (ℕ → Configuration → Dialogue (Result ℕ RunStop × ℕ)) → Outcome → Dialogue (Result ℕ RunStop × ℕ)
went more (Ok d, left) = more left d
went more (Err stop, left) = Ends (Err stop, left)

abbrev at_place : Listed → ℕ → Option Entry → ℕ → Configuration → (ℕ → Configuration → Dialogue (Result ℕ RunStop × ℕ)) → Dialogue (Result ℕ RunStop × ℕ)
at_place program given None left c more = Ends (Ok (unwrap_or c.result given), left)
at_place program given (Some entry) zero c more = Ends (Err Budget, 0)
at_place program given (Some entry) (suc paid) c more = go_on (execute (task_of program given entry c) paid) (went more)

abbrev run_from : Listed → ℕ → ℕ → ℕ → Configuration → Dialogue (Result ℕ RunStop × ℕ)
run_from program given zero left c = Ends (Err Budget, 0)
run_from program given (suc fuel) left c = at_place program given (slice_get program.entries c.place) left c (run_from program given fuel)

abbrev run_if : Bool → Bool → Listed → ℕ → ℕ → Dialogue (Result ℕ RunStop × ℕ)
run_if true false program given budget = Ends (Err (NoAction program.action), budget)
run_if none full program given budget = run_from program given (suc budget) budget begin

pub run_of : Listed → ℕ → ℕ → Dialogue (Result ℕ RunStop × ℕ)
run_of program given budget = run_if (length program.entries == 0) (may_be_empty program.action) program given budget

-- The relations of the interpreter are these dialogues

within_true : (a b : ℕ) → a < b → nat_lt a b ≡ true
within_true a b less = grind (arith, nat_tests)

within_false : (a b : ℕ) → b ≤ a → nat_lt a b ≡ false
within_false a b less = grind (arith, nat_tests)

abbrev ok_at : Configuration → ℕ → Outcome
ok_at d left = (Ok d, left)

ok_left : (d : Configuration) (left paid : ℕ) → left + 0 ≡ paid → ok_at d left ≡ ok_at d paid
ok_left d left paid e = let same : left ≡ paid = omega arith in ap (λ (n : ℕ). ok_at d n) same

ok_moved : (d : Configuration) (left more paid : ℕ) → left + more ≡ paid → ok_at d left ≡ ok_at d (paid - more)
ok_moved d left more paid e = let same : left ≡ paid - more = omega arith in ap (λ (n : ℕ). ok_at d n) same

can_pay : (left more paid : ℕ) → left + more ≡ paid → nat_lt paid more ≡ false
can_pay left more paid e = within_false paid more (omega arith)

module _ {W : Type 0} (allows : W → Call → W → Type 0) where
  field_held : (register : Register) (mask : ℕ) (old : W) (answer : Result ℕ SpaceFault) (new : W) → FieldRead allows register mask old answer new →
      Held allows (read_field register mask) old answer new
  unfolding read_field
  field_held register mask old answer new read = elim read as (λ answer new read. Held allows (read_field register mask) old answer new) [
    | Got number new allowed ↦ Answered _ _ old (Read register.place register.access (Ok number)) new _ new refl allowed (IsDone _ new)
    | Refused fault new allowed ↦ Answered _ _ old (Read register.place register.access (Err fault)) new _ new refl allowed (IsDone _ new)
  ]

  register_held : (register : Register) (value : ℕ) (old : W) (answer : Result (Unit {0}) SpaceFault) (new : W) →
      allows old (Write register.place register.access value answer) new → Held allows (write_register register value) old answer new
  unfolding write_register
  register_held register value old answer new allowed = Answered _ _ old (Write register.place register.access value answer) new answer new refl allowed (IsDone answer new)

  store_held : (register : Register) (entry : Entry) (value : ℕ) (old : W) (answer : Result (Unit {0}) SpaceFault) (new : W) → Store allows register entry value old answer new
      → Held allows (store_field register entry value) old answer new
  unfolding store_field
  store_held register entry value old answer new store = elim store as (λ answer new store. Held allows (store_field register entry value) old answer new) [
    | Whole answer new whole allowed ↦ subst (λ (b : Bool). Held allows (store_by b register entry value) old answer new) (sym (ap (λ (n : ℕ). n == 0) whole))
        (register_held register _ old answer new allowed)
    | Beside number mid answer new beside read allowed ↦ subst (λ (b : Bool). Held allows (store_by b register entry value) old answer new) (sym (ne_eqb (bit_and entry.flags 1) 0 beside))
        (Answered _ _ old (Read register.place register.access (Ok number)) mid answer new refl read (register_held register _ mid answer new allowed))
    | Unread fault new beside read ↦ subst (λ (b : Bool). Held allows (store_by b register entry value) old (Err fault) new) (sym (ne_eqb (bit_and entry.flags 1) 0 beside))
        (Answered _ _ old (Read register.place register.access (Err fault)) new _ new refl read (IsDone _ new))
  ]

  module _ (task : Task) (paid : ℕ) (old : W) where
    work_held : (work : Work) (outcome : Outcome) (new : W) → HasWork task work → Held allows (do_work task paid work) old outcome new → Held allows (execute task paid) old outcome new
    unfolding execute
    work_held work outcome new has held =
        subst (λ (i : Option Instruction). Held allows (do_instruction task paid i) old outcome new) (sym has.code)
        (subst (λ (w : Work). Held allows (do_work task paid w) old outcome new) (sym has.work_is) held)

    on_register : (more : Register → Dialogue Outcome) (found : Result Register BadRegister) (register : Register) (outcome : Outcome) (new : W) →
        found ≡ Ok register → Held allows (more register) old outcome new
        → Held allows (with_register task paid found more) old outcome new
    on_register more found register outcome new is held = subst (λ (r : Result Register BadRegister). Held allows (with_register task paid r more) old outcome new) (sym is) held

    wait_held : (mid : W) → Waited allows task.at old mid → Held allows (wait_again task paid task.at.stalling) old tt mid
    wait_held mid waited = elim waited as (λ mid waited. Held allows (wait_again task paid task.at.stalling) old tt mid) [
      | AtOnce first ↦ subst (λ (b : Bool). Held allows (wait_again task paid b) old tt old) (sym first) (IsDone tt old)
      | After new again allowed ↦ subst (λ (b : Bool). Held allows (wait_again task paid b) old tt new) (sym again) (Answered _ _ old (Wait task.at.var1) new tt new refl allowed (IsDone tt new))
    ]

    step_held : (d : Configuration) (more : ℕ) (new : W) → Step allows task old d more new → (left : ℕ) → left + more ≡ paid → Held allows (execute task paid) old (Ok d, left) new
    step_held d more new step = elim step as (λ d more new step. (left : ℕ) → left + more ≡ paid → Held allows (execute task paid) old (Ok d, left) new) [
      | Computes d has ↦ λ left e. work_held (GoOn d) _ old has (done _ _ old (ok_left d left paid e))
      | Goes to has within ↦ λ left e. work_held (GoTo to) _ old has
          (subst (λ (b : Bool). Held allows (go_to task paid b to) old (ok_at (record (next task.at) { place = to }) left) old)
          (sym (within_true to task.len within)) (done _ _ old (ok_left _ left paid e)))
      | Stalls micros new has allowed ↦ λ left e. work_held (WaitFor micros) _ new has (Answered _ _ old (Wait micros) new _ new refl allowed (done _ _ new (ok_left _ left paid e)))
      | Takes taken register x new has check read ↦ λ left e. work_held (TakeField taken) _ new has
          (on_register (take_field task paid taken) _ register _ new check (then _ (field_held register task.entry.mask old (Ok x) new read) (done _ _ new (ok_left _ left paid e))))
      | Stores value register new has check store ↦ λ left e. work_held (StoreValue value) _ new has
          (on_register (store_value task paid value) _ register _ new check (then _ (store_held register task.entry value old (Ok tt) new store) (done _ _ new (ok_left _ left paid e))))
      | Changes changed register x mid new has check read store ↦ λ left e. work_held (ChangeField changed) _ new has
          (on_register (change_field task paid changed) _ register _ new check (then _ (field_held register task.entry.mask old (Ok x) mid read)
          (then _ (store_held register task.entry (changed x) mid (Ok tt) new store) (done _ _ new (ok_left _ left paid e)))))
      | Compares register x mid new has check waited read ↦ λ left e. work_held CompareField _ new has
          (on_register (compare_field task paid) _ register _ new check (then _ (wait_held mid waited)
          (then _ (field_held register task.entry.mask mid (Ok x) new read) (done _ _ new (ok_left _ left paid e)))))
      | Moves register x mid new has check read within copied ↦ λ left e. work_held MoveBytes _ new has
          (on_register (move_bytes task paid) _ register _ new check (then _ (field_held register task.entry.mask old (Ok x) mid read)
          (subst (λ (b : Bool). Held allows (move_within task paid b x) mid (ok_at (next task.at) left) new) (sym (within_false move_limit task.at.var2 within))
          (subst (λ (b : Bool). Held allows (move_paid task paid b x) mid (ok_at (next task.at) left) new) (sym (can_pay left (blocks task.at.var2) paid e))
          (Answered _ _ mid (copy_of task.at x (Ok tt)) new _ new refl copied (done _ _ new (ok_moved (next task.at) left (blocks task.at.var2) paid e)))))))
    ]

    -- what is read before all else is refused
    not_read : (work : Work) (register : Register) (fault : SpaceFault) (new : W) → reads_first work ≡ true → checked task.entry.region ≡ Ok register →
        FieldRead allows register task.entry.mask old (Err fault) new
        → Held allows (do_work task paid work) old (Err (Space task.at.place fault), paid) new
    not_read (TakeField taken) register fault new reads check read =
        on_register (take_field task paid taken) _ register _ new check (then _ (field_held register task.entry.mask old (Err fault) new read) (IsDone _ new))
    not_read (ChangeField changed) register fault new reads check read =
        on_register (change_field task paid changed) _ register _ new check (then _ (field_held register task.entry.mask old (Err fault) new read) (IsDone _ new))
    not_read MoveBytes register fault new reads check read =
        on_register (move_bytes task paid) _ register _ new check (then _ (field_held register task.entry.mask old (Err fault) new read) (IsDone _ new))
    not_read work register fault new reads check read = absurd (cc)

    refused_held : (fault : SpaceFault) (new : W) → Refusal allows task old fault new → Held allows (execute task paid) old (Err (Space task.at.place fault), paid) new
    refused_held fault new refusal = elim refusal as (λ fault new refusal. Held allows (execute task paid) old (Err (Space task.at.place fault), paid) new) [
      | NotRead work register fault new has reads check read ↦ work_held work _ new has (not_read work register fault new reads check read)
      | NotCompared register fault mid new has check waited read ↦ work_held CompareField _ new has
          (on_register (compare_field task paid) _ register _ new check (then _ (wait_held mid waited) (then _ (field_held register task.entry.mask mid (Err fault) new read) (IsDone _ new))))
      | NotStored value register fault new has check store ↦ work_held (StoreValue value) _ new has
          (on_register (store_value task paid value) _ register _ new check (then _ (store_held register task.entry value old (Err fault) new store) (IsDone _ new)))
      | NotChanged changed register x fault mid new has check read store ↦ work_held (ChangeField changed) _ new has
          (on_register (change_field task paid changed) _ register _ new check (then _ (field_held register task.entry.mask old (Ok x) mid read)
          (then _ (store_held register task.entry (changed x) mid (Err fault) new store) (IsDone _ new))))
    ]

    no_register : (more : Register → Dialogue Outcome) (found : Result Register BadRegister) (why : BadRegister) → found ≡ Err why →
        Held allows (with_register task paid found more) old (Err (BadRegion task.at.place why), paid) old
    no_register more found why is = subst (λ (r : Result Register BadRegister). Held allows (with_register task paid r more) old (Err (BadRegion task.at.place why), paid) old) (sym is) (IsDone _ old)

    unregistered : (work : Work) (why : BadRegister) → uses_register work ≡ true → checked task.entry.region ≡ Err why → Held allows (do_work task paid work)
        old (Err (BadRegion task.at.place why), paid) old
    unregistered (GoOn d) why used check = absurd (cc)
    unregistered (GoTo to) why used check = absurd (cc)
    unregistered (WaitFor micros) why used check = absurd (cc)
    unregistered (TakeField taken) why used check = no_register (take_field task paid taken) _ why check
    unregistered (StoreValue value) why used check = no_register (store_value task paid value) _ why check
    unregistered (ChangeField changed) why used check = no_register (change_field task paid changed) _ why check
    unregistered CompareField why used check = no_register (compare_field task paid) _ why check
    unregistered MoveBytes why used check = no_register (move_bytes task paid) _ why check

    unknown : instruction_of task.entry.code ≡ None → Held allows (execute task paid) old (Err (UnknownInstruction task.at.place task.entry.code), paid) old
    unfolding execute
    unknown none = subst (λ (i : Option Instruction). Held allows (do_instruction task paid i) old (Err (UnknownInstruction task.at.place task.entry.code), paid) old) (sym none) (IsDone _ old)

    halt_held : (stop : RunStop) (left : ℕ) (new : W) → Halt allows task paid old stop left new → Held allows (execute task paid) old (Err stop, left) new
    halt_held stop left new halt = elim halt as (λ stop left new halt. Held allows (execute task paid) old (Err stop, left) new) [
      | Unknown none ↦ unknown none
      | Unregistered work why has used check ↦ work_held work _ old has (unregistered work why used check)
      | Outside to has beyond ↦ work_held (GoTo to) _ old has
          (subst (λ (b : Bool). Held allows (go_to task paid b to) old (Err (GotoOutside task.at.place to), paid) old) (sym (within_false to task.len beyond)) (IsDone _ old))
      | IsRefused fault new refusal ↦ refused_held fault new refusal
      | TooLong register x new has check read long ↦ work_held MoveBytes _ new has
          (on_register (move_bytes task paid) _ register _ new check (then _ (field_held register task.entry.mask old (Ok x) new read)
          (subst (λ (b : Bool). Held allows (move_within task paid b x) new (Err (MoveTooLong task.at.place task.at.var2), paid) new) (sym (within_true move_limit task.at.var2 long)) (IsDone _ new))))
      | Unpaid register x new has check read within poor ↦ work_held MoveBytes _ new has
          (on_register (move_bytes task paid) _ register _ new check (then _ (field_held register task.entry.mask old (Ok x) new read)
          (subst (λ (b : Bool). Held allows (move_within task paid b x) new (Err Budget, 0) new) (sym (within_false move_limit task.at.var2 within))
          (subst (λ (b : Bool). Held allows (move_paid task paid b x) new (Err Budget, 0) new) (sym (within_true paid (blocks task.at.var2) poor)) (IsDone _ new)))))
      | NotCopied register x fault mid new has check read within paid_for copied ↦ work_held MoveBytes _ new has
          (on_register (move_bytes task paid) _ register _ new check (then _ (field_held register task.entry.mask old (Ok x) mid read)
          (subst (λ (b : Bool). Held allows (move_within task paid b x) mid (Err (Space task.at.place fault), paid - blocks task.at.var2) new) (sym (within_false move_limit task.at.var2 within))
          (subst (λ (b : Bool). Held allows (move_paid task paid b x) mid (Err (Space task.at.place fault), paid - blocks task.at.var2) new) (sym (within_false paid (blocks task.at.var2) paid_for))
          (Answered _ _ mid (copy_of task.at x (Err fault)) new _ new refl copied (IsDone _ new))))))
    ]

  -- a run, from a place on
  module _ (program : Listed) (given : ℕ) where
    abbrev RunHeld : ℕ → Configuration → W → Result ℕ RunStop × ℕ → W → Type 0
    RunHeld left c mid outcome last = (fuel : ℕ) → left < fuel → Held allows (run_from program given fuel left c) mid outcome last

    goes_on : (fuel left : ℕ) (c : Configuration) (mid : W) (entry : Entry) (d : Configuration) (more after : ℕ) (new : W) (outcome : Result ℕ RunStop × ℕ)
        (last : W) → slice_get program.entries c.place ≡ Some entry
        → Step allows (task_of program given entry c) mid d more new → after + more + 1 ≡ left → RunHeld after d new outcome last → left < fuel →
        Held allows (run_from program given fuel left c) mid outcome last
    goes_on zero left c mid entry d more after new outcome last here step spent rest enough = absurd (omega arith)
    goes_on (suc fuel) left c mid entry d more after new outcome last here step spent rest enough =
        let paid : suc (after + more) ≡ left = omega arith in
        subst (λ (e : Option Entry). Held allows (at_place program given e left c (run_from program given fuel)) mid outcome last) (sym here)
        (subst (λ (n : ℕ). Held allows (at_place program given (Some entry) n c (run_from program given fuel)) mid outcome last) paid
        (then _ (step_held (task_of program given entry c) (after + more) mid d more new step after refl) (rest fuel (omega arith))))

    walk_held : (budget : ℕ) (first : W) (left : ℕ) (c : Configuration) (mid : W) → Walk allows program given budget first left c mid →
        (outcome : Result ℕ RunStop × ℕ) (last : W) → RunHeld left c mid outcome last → RunHeld budget begin first outcome last
    walk_held budget first left c mid walk = elim walk as (λ left c mid walk. (outcome : Result ℕ RunStop × ℕ) (last : W) → RunHeld left c mid outcome last → RunHeld budget begin first outcome last) [
      | Begun ↦ λ outcome last rest. rest
      | Then left c mid entry d more after new (walk → before) here step spent ↦ λ outcome last rest. before outcome last
          (λ fuel enough. goes_on fuel left c mid entry d more after new outcome last here step spent rest enough)
    ]

    finished : (left : ℕ) (c : Configuration) (last : W) → length program.entries ≤ c.place → RunHeld left c last (Ok (unwrap_or c.result given), left) last
    finished left c last end zero enough = absurd (omega arith)
    finished left c last end (suc fuel) enough =
        subst (λ (e : Option Entry). Held allows (at_place program given e left c (run_from program given fuel)) last (Ok (unwrap_or c.result given), left)
        last) (sym (slice_get_past program.entries c.place end)) (IsDone _ last)

    exhausted : (c : Configuration) (last : W) → c.place < length program.entries → RunHeld 0 c last (Err Budget, 0) last
    exhausted c last within zero enough = absurd (omega arith)
    exhausted c last within (suc fuel) enough = elim (slice_get_cases program.entries c.place).1 [
      | inl found ↦ subst (λ (e : Option Entry). Held allows (at_place program given e 0 c (run_from program given fuel)) last (Err Budget, 0) last) (sym found.2) (IsDone _ last)
      | inr past ↦ absurd (let beyond = past.0 in omega arith)
    ]

    halted : (paid : ℕ) (c : Configuration) (mid : W) (entry : Entry) (stop : RunStop) (left : ℕ) (last : W) → slice_get program.entries c.place ≡ Some entry →
        Halt allows (task_of program given entry c) paid mid stop left last
        → RunHeld (paid + 1) c mid (Err stop, left) last
    halted paid c mid entry stop left last here halt zero enough = absurd (omega arith)
    halted paid c mid entry stop left last here halt (suc fuel) enough =
        let one : suc paid ≡ paid + 1 = omega arith in
        subst (λ (e : Option Entry). Held allows (at_place program given e (paid + 1) c (run_from program given fuel)) mid (Err stop, left) last) (sym here)
        (subst (λ (n : ℕ). Held allows (at_place program given (Some entry) n c (run_from program given fuel)) mid (Err stop, left) last) one
        (then _ (halt_held (task_of program given entry c) paid mid stop left last halt) (IsDone _ last)))

    run_if_has : (none may : Bool) (budget : ℕ) (old : W) (outcome : Result ℕ RunStop × ℕ) (new : W) → (none ≡ true → may ≡ true) →
        Held allows (run_from program given (suc budget) budget begin) old outcome new
        → Held allows (run_if none may program given budget) old outcome new
    run_if_has true true budget old outcome new has held = held
    run_if_has true false budget old outcome new has held = let e : false ≡ true = has refl in absurd (cc)
    run_if_has false true budget old outcome new has held = held
    run_if_has false false budget old outcome new has held = held

    has_one : HasProgram program → length program.entries == 0 ≡ true → may_be_empty program.action ≡ true
    has_one has none = elim has [
      | HasEntry some ↦ absurd (grind (arith, nat_tests))
      | NeedsNone may ↦ may
    ]

    begun_held : (budget : ℕ) (first : W) (outcome : Result ℕ RunStop × ℕ) (last : W) → HasProgram program → RunHeld budget begin first outcome last →
        Held allows (run_of program given budget) first outcome last
    unfolding run_of
    begun_held budget first outcome last has held = run_if_has _ _ budget first outcome last (has_one has) (held (suc budget) (omega arith))

    none_held : (budget : ℕ) (first : W) → length program.entries ≡ 0 → may_be_empty program.action ≡ false → Held allows (run_of program given budget) first
        (Err (NoAction program.action), budget) first
    unfolding run_of
    none_held budget first none full =
        subst (λ (b : Bool). Held allows (run_if b (may_be_empty program.action) program given budget) first (Err (NoAction program.action), budget) first) (sym (ap (λ (n : ℕ). n == 0) none))
        (subst (λ (b : Bool). Held allows (run_if true b program given budget) first (Err (NoAction program.action), budget) first) (sym full) (IsDone _ first))

    pub run_held : (budget : ℕ) (first : W) (answer : Result ℕ RunStop) (left : ℕ) (last : W) → Run allows program given budget first answer left last →
        Held allows (run_of program given budget) first (answer, left) last
    run_held budget first answer left last run = elim run as (λ answer left last run. Held allows (run_of program given budget) first (answer, left) last) [
      | NoProgram none full ↦ none_held budget first none full
      | Finishes left c last has walk end ↦ begun_held budget first _ last has (walk_held budget first left c last walk _ last (finished left c last end))
      | Exhausted c last has walk within ↦ begun_held budget first _ last has (walk_held budget first 0 c last walk _ last (exhausted c last within))
      | Halts paid c mid entry stop left last has walk here halt ↦
          begun_held budget first _ last has (walk_held budget first (paid + 1) c mid walk _ last (halted paid c mid entry stop left last here halt))
    ]
