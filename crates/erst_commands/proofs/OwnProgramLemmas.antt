-- The programs of the machine's own table run straight through.
use Rattle.std.proofs.Common.{◌≡◌, ℕ, zero, suc, ◌+◌, ◌-◌, ◌*◌, ◌/◌, ◌%◌, ◌^◌, ◌<◌, ◌≤◌, true, [], ◌∷◌, length, Some, Result, Ok, Err, refl, sym, ap, subst, ◌∙◌, arith}
use Rattle.std.specs.Prelude.{bit_and, unwrap_or, ◌==◌, if◌then◌else◌}
use Rattle.std.proofs.lemmas.Nat.{and_mask}
use Rattle.apei_tables.specs.Fields.{field, stored}
use Rattle.apei_space.specs.declared.faults.SpaceFault.{SpaceFault}
use Rattle.erst_entries.specs.declared.actions.Action.{Action}
use Rattle.erst_entries.specs.declared.actions.Action.TheVariants.{BeginWriteOperation, BeginReadOperation, BeginClearOperation, EndOperation, SetRecordOffset}
use Rattle.erst_entries.specs.declared.actions.Action.TheVariants.{ExecuteOperation, CheckBusyStatus, GetCommandStatus, GetRecordIdentifier}
use Rattle.erst_entries.specs.declared.actions.Action.TheVariants.{SetRecordIdentifier, GetRecordCount, BeginDummyWriteOperation}
use Rattle.erst_entries.specs.declared.entries.Entry.{Entry}
use Rattle.erst_entries.specs.declared.instructions.Instruction.TheVariants.{ReadRegister, ReadRegisterValue, WriteRegister, WriteRegisterValue}
use Rattle.erst_entries.specs.Actions.{code_of}
use Rattle.erst_entries.specs.Programs.{Listed, entries_of, program_of}
use Rattle.erst_interp.specs.declared.configurations.Configuration.{Configuration}
use Rattle.erst_interp.specs.declared.stops.RunStop.{RunStop}
use Rattle.erst_interp.specs.declared.stops.RunStop.TheVariants.{Budget}
use Rattle.erst_interp.specs.Configurations.{begin, next}
use Rattle.erst_interp.specs.Runs.{Run}
use Rattle.erst_interp.specs.Straight.{IsStraight, TakesOnly, StoresOnly, Does, Serves, AreStraight, NoEntry, OneEntry, DoFirst, RanStraight, Through, OutOfSteps}
use Rattle.erst_client.specs.Steps.{steps_of}
use Rattle.erst_machine.specs.MachineState.{MachineState}
use Rattle.erst_machine.specs.Allowed.{Allows, ActsOn}
use Rattle.erst_machine.specs.OwnTables.{own_entries, act, give, is_one, answer}
use Rattle.erst_commands.specs.OwnPrograms.{with_value, takes_value, tells_value, given_to, answer_of, OwnRun, IsMade, StopsAtOnce, StopsBefore, StopsBehind, OwnProgramsRun}
use Rattle.erst_machine.proofs.Words.{action_at, value_at}

-- straight programs over the machine
abbrev pub StraightRuns : Type 0 → Type 0
StraightRuns tells = (program : Listed) (straight : AreStraight (Allows tells) program.entries) (given budget : ℕ) (first : MachineState) (result : Result ℕ RunStop) (left : ℕ) (last : MachineState)
    → 0 < length program.entries → Run (Allows tells) program given budget first result left last → RanStraight (Allows tells) program straight given budget first result left last

-- Entries

abbrev acts : (action : Action) → IsStraight (act action)
acts action = StoresOnly WriteRegisterValue (λ task. task.entry.value) action_at refl (λ task is. refl) refl refl

abbrev gives : (action : Action) → IsStraight (give action)
gives action = StoresOnly WriteRegister (λ task. task.given) value_at refl (λ task is. refl) refl refl

abbrev asks_one : (action : Action) → IsStraight (is_one action)
asks_one action =
    TakesOnly ReadRegisterValue (λ task x. record (next task.at) { result = Some (if x == task.entry.value then 1 else 0) }) value_at refl (λ task is. refl) (λ task x. refl) refl

abbrev answers : (action : Action) (mask : ℕ) → IsStraight (answer action mask)
answers action mask = TakesOnly ReadRegister (λ task x. record (next task.at) { result = Some x }) value_at refl (λ task is. refl) (λ task x. refl) refl

no_fault : {T : Type 0} (x : T) (fault : SpaceFault) → Err fault ≡ Ok x → ⊥
no_fault x fault e = absurd (cc)

serves_act : (tells : Type 0) (action : Action) → Serves (Allows tells) (act action) (acts action)
serves_act tells action = λ w v number fault h. no_fault tt fault h.0

serves_give : (tells : Type 0) (action : Action) → Serves (Allows tells) (give action) (gives action)
serves_give tells action = λ w v number fault h. no_fault tt fault h.0

serves_one : (tells : Type 0) (action : Action) → Serves (Allows tells) (is_one action) (asks_one action)
serves_one tells action = λ w v fault h. no_fault w.device.value fault h.0

serves_answer : (tells : Type 0) (action : Action) (mask : ℕ) → Serves (Allows tells) (answer action mask) (answers action mask)
serves_answer tells action mask = λ w v fault h. no_fault w.device.value fault h.0

-- Numbers

low_all : (n : ℕ) → bit_and n (2 ^ 64 - 1) * 2 ^ 0 % 2 ^ 64 ≡ n % 2 ^ 64
low_all n = ap (λ (x : ℕ). x * 2 ^ 0 % 2 ^ 64) (and_mask n 64) ∙ (omega arith)

whole : (n : ℕ) → n / 2 ^ 0 ≡ n
whole n = omega arith

low_bits : (n k : ℕ) → bit_and (n / 2 ^ 0) (2 ^ k - 1) ≡ n % 2 ^ k
low_bits n k = and_mask (n / 2 ^ 0) k ∙ ap (λ (x : ℕ). x % 2 ^ k) (whole n)

same_number : (x y : ℕ) → ◌≡◌ {A = Result ℕ SpaceFault} (Ok x) (Ok y) → x ≡ y
same_number x y e = cc

-- Programs of one entry

abbrev one_entry : Action → Listed
one_entry action = record { action = code_of action; entries = act action ∷ [] }

abbrev one_straight : (tells : Type 0) (action : Action) → AreStraight (Allows tells) (act action ∷ [])
one_straight tells action = OneEntry (act action) [] (acts action) (serves_act tells action) NoEntry

module _ (tells : Type 0) (law : StraightRuns tells) (action : Action) (given : ℕ) (first : MachineState) where
  out_of_one : (budget : ℕ) (c : Configuration) (last : MachineState) → DoFirst (Allows tells) (one_entry action) given (act action ∷ [])
      (one_straight tells action) budget begin first c last → budget < 1
      → OwnRun tells action given budget first (Err Budget) 0 last
  out_of_one zero c last does short = subst (λ (w : MachineState). OwnRun tells action given 0 first (Err Budget) 0 w) (sym does.1) (StopsAtOnce refl)
  out_of_one (suc n) c last does short = absurd (omega arith)

  one_run : (budget : ℕ) (result : Result ℕ RunStop) (left : ℕ) (last : MachineState) → first ≡ given_to action given first → ((value : ℕ) → given ≡ answer_of action given value)
      → 1 ≡ steps_of own_entries action → stored (code_of action) 0 (2 ^ 32 - 1) % 2 ^ 32 ≡ code_of action → program_of (code_of action) own_entries ≡ one_entry action
      → Run (Allows tells) (program_of (code_of action) own_entries) given budget first result left last → OwnRun tells action given budget first result left last
  one_run budget result left last same says one code is run =
      elim (law (one_entry action) (one_straight tells action) given budget first result left last (omega arith)
      (subst (λ (p : Listed). Run (Allows tells) p given budget first result left last) is run))
      as (λ result left last ran. OwnRun tells action given budget first result left last) [
        | Through c left last does spent ↦
            let mid = does.0 in
            let acted : ActsOn tells first (code_of action) last =
            subst (λ (w : MachineState). ActsOn tells first (code_of action) w) (sym does.1.1.1.1) (subst (λ (n : ℕ). ActsOn tells first n does.1.0) code does.1.1.0.1.1) in
            let none : given ≡ unwrap_or c.result given = ap (λ (d : Configuration). unwrap_or d.result given) (sym (does.1.1.1.0 ∙ does.1.1.0.0)) in
            let tells_given : answer_of action given last.device.value ≡ unwrap_or c.result given = sym (says last.device.value) ∙ none in
            subst (λ (n : ℕ). OwnRun tells action given budget first (Ok n) left last) tells_given
            (IsMade left last (subst (λ (w : MachineState). ActsOn tells w (code_of action) last) same acted) (ap (λ (n : ℕ). left + n) (sym one) ∙ spent))
        | OutOfSteps c last does short ↦ out_of_one budget c last does short
      ]

-- Programs that give a value first

abbrev give_entries : Action → Listed
give_entries action = record { action = code_of action; entries = give action ∷ act action ∷ [] }

abbrev give_straight : (tells : Type 0) (action : Action) → AreStraight (Allows tells) (give action ∷ act action ∷ [])
give_straight tells action =
    OneEntry (give action) (act action ∷ []) (gives action) (serves_give tells action) (OneEntry (act action) [] (acts action) (serves_act tells action) NoEntry)

module _ (tells : Type 0) (law : StraightRuns tells) (action : Action) (given : ℕ) (first : MachineState) (takes : takes_value action ≡ true)
    (given_is : with_value (given % 2 ^ 64) first ≡ given_to action given first) where
  out_of_give : (budget : ℕ) (c : Configuration) (last : MachineState) → DoFirst (Allows tells) (give_entries action) given (give action ∷ act action ∷ [])
      (give_straight tells action) budget begin first c last
      → budget < 2 → OwnRun tells action given budget first (Err Budget) 0 last
  out_of_give zero c last does short = subst (λ (w : MachineState). OwnRun tells action given 0 first (Err Budget) 0 w) (sym does.1) (StopsAtOnce refl)
  out_of_give (suc zero) c last does short =
      let there : given_to action given first ≡ last =
      sym given_is ∙ ap (λ (n : ℕ). with_value n first) (sym (low_all given)) ∙ sym (does.1.1.1.1 ∙ does.1.1.0.1.1) in
      subst (λ (w : MachineState). OwnRun tells action given 1 first (Err Budget) 0 w) there (StopsBefore refl takes)
  out_of_give (suc (suc n)) c last does short = absurd (omega arith)

  give_run : (budget : ℕ) (result : Result ℕ RunStop) (left : ℕ) (last : MachineState) → ((value : ℕ) → given ≡ answer_of action given value)
      → 2 ≡ steps_of own_entries action → stored (code_of action) 0 (2 ^ 32 - 1) % 2 ^ 32 ≡ code_of action → program_of (code_of action) own_entries ≡ give_entries action
      → Run (Allows tells) (program_of (code_of action) own_entries) given budget first result left last → OwnRun tells action given budget first result left last
  give_run budget result left last says two code is run =
      elim (law (give_entries action) (give_straight tells action) given budget first result left last (omega arith)
      (subst (λ (p : Listed). Run (Allows tells) p given budget first result left last) is run))
      as (λ result left last ran. OwnRun tells action given budget first result left last) [
        | Through c left last does spent ↦
            let between = does.1.0 in
            let gave : between ≡ given_to action given first = does.1.1.0.1.1 ∙ ap (λ (n : ℕ). with_value n first) (low_all given) ∙ given_is in
            let behind = does.1.1.1 in
            let acted : ActsOn tells (given_to action given first) (code_of action) last =
            subst (λ (w : MachineState). ActsOn tells w (code_of action) last) gave
            (subst (λ (w : MachineState). ActsOn tells between (code_of action) w) (sym behind.1.1.1.1) (subst (λ (n : ℕ). ActsOn tells between n behind.1.0) code behind.1.1.0.1.1)) in
            let none : given ≡ unwrap_or c.result given =
            ap (λ (d : Configuration). unwrap_or d.result given) (sym (behind.1.1.1.0 ∙ behind.1.1.0.0 ∙ ap next does.1.1.0.0)) in
            subst (λ (n : ℕ). OwnRun tells action given budget first (Ok n) left last) (sym (says last.device.value) ∙ none)
            (IsMade left last acted (ap (λ (n : ℕ). left + n) (sym two) ∙ spent))
        | OutOfSteps c last does short ↦ out_of_give budget c last does short
      ]

-- Programs that read VALUE behind the action

abbrev tell_entries : Action → Entry → Listed
tell_entries action reader = record { action = code_of action; entries = act action ∷ reader ∷ [] }

abbrev tell_straight : (tells : Type 0) (action : Action) (reader : Entry) (straight : IsStraight reader) → Serves (Allows tells) reader straight →
    AreStraight (Allows tells) (act action ∷ reader ∷ [])
tell_straight tells action reader straight serves = OneEntry (act action) (reader ∷ []) (acts action) (serves_act tells action) (OneEntry reader [] straight serves NoEntry)

-- a reader answers what VALUE says
abbrev Reads : (tells : Type 0) (action : Action) (given : ℕ) (reader : Entry) → IsStraight reader → Type 0
Reads tells action given reader straight =
    (c d : Configuration) (w v : MachineState) → Does (Allows tells) (tell_entries action reader) given reader straight c w d v →
    (v ≡ w) × (answer_of action given w.device.value ≡ unwrap_or d.result given)

module _ (tells : Type 0) (law : StraightRuns tells) (action : Action) (given : ℕ) (first : MachineState) (reader : Entry) (straight : IsStraight reader)
    (serves : Serves (Allows tells) reader straight)
    (told : tells_value action ≡ true) (code : stored (code_of action) 0 (2 ^ 32 - 1) % 2 ^ 32 ≡ code_of action) where
  out_of_tell : (budget : ℕ) (c : Configuration) (last : MachineState)
      → DoFirst (Allows tells) (tell_entries action reader) given (act action ∷ reader ∷ []) (tell_straight tells action reader straight serves) budget begin first c last → budget < 2
      → OwnRun tells action given budget first (Err Budget) 0 last
  out_of_tell zero c last does short = subst (λ (w : MachineState). OwnRun tells action given 0 first (Err Budget) 0 w) (sym does.1) (StopsAtOnce refl)
  out_of_tell (suc zero) c last does short =
      StopsBehind last refl told (subst (λ (w : MachineState). ActsOn tells first (code_of action) w) (sym does.1.1.1.1) (subst (λ (n : ℕ). ActsOn tells first n does.1.0) code does.1.1.0.1.1))
  out_of_tell (suc (suc n)) c last does short = absurd (omega arith)

  tell_run : (budget : ℕ) (result : Result ℕ RunStop) (left : ℕ) (last : MachineState) → first ≡ given_to action given first → Reads tells action given reader straight
      → 2 ≡ steps_of own_entries action → program_of (code_of action) own_entries ≡ tell_entries action reader
      → Run (Allows tells) (program_of (code_of action) own_entries) given budget first result left last → OwnRun tells action given budget first result left last
  tell_run budget result left last same reads two is run =
      elim (law (tell_entries action reader) (tell_straight tells action reader straight serves) given budget first result left last (omega arith)
      (subst (λ (p : Listed). Run (Allows tells) p given budget first result left last) is run))
      as (λ result left last ran. OwnRun tells action given budget first result left last) [
        | Through c left last does spent ↦
            let between = does.1.0 in
            let behind = does.1.1.1 in
            let read = reads does.0 behind.0 between behind.1.0 behind.1.1.0 in
            let there : between ≡ last = sym (behind.1.1.1.1 ∙ read.0) in
            let acted : ActsOn tells first (code_of action) last =
            subst (λ (w : MachineState). ActsOn tells first (code_of action) w) there (subst (λ (n : ℕ). ActsOn tells first n between) code does.1.1.0.1.1) in
            let shown : answer_of action given last.device.value ≡ unwrap_or c.result given =
            ap (λ (w : MachineState). answer_of action given w.device.value) (sym there) ∙ read.1 ∙ ap (λ (d : Configuration). unwrap_or d.result given) (sym behind.1.1.1.0) in
            subst (λ (n : ℕ). OwnRun tells action given budget first (Ok n) left last) shown
            (IsMade left last (subst (λ (w : MachineState). ActsOn tells w (code_of action) last) same acted) (ap (λ (n : ℕ). left + n) (sym two) ∙ spent))
        | OutOfSteps c last does short ↦ out_of_tell budget c last does short
      ]

-- the low bits of VALUE
reads_bits : (tells : Type 0) (action : Action) (given k : ℕ) → ((value : ℕ) → answer_of action given value ≡ value % 2 ^ k) →
    Reads tells action given (answer action (2 ^ k - 1)) (answers action (2 ^ k - 1))
reads_bits tells action given k says c d w v does = (
  does.1.1.1,
  says w.device.value ∙ sym (low_bits w.device.value k) ∙ ap (λ (n : ℕ). field n 0 (2 ^ k - 1)) (sym (same_number does.0 w.device.value does.1.1.0))
      ∙ ap (λ (e : Configuration). unwrap_or e.result given) (sym does.1.0),
)

-- whether VALUE is 1
reads_one : (tells : Type 0) (action : Action) (given : ℕ) → ((value : ℕ) → answer_of action given value ≡ if value % 2 ^ 64 == 1 then 1 else 0) →
    Reads tells action given (is_one action) (asks_one action)
reads_one tells action given says c d w v does = (
  does.1.1.1,
  says w.device.value ∙ ap (λ (n : ℕ). if n == 1 then 1 else 0) (sym (low_bits w.device.value 64)) ∙ ap (λ (n : ℕ). if field n 0 (2 ^ 64 - 1) ==
      1 then 1 else 0) (sym (same_number does.0 w.device.value does.1.1.0))
      ∙ ap (λ (e : Configuration). unwrap_or e.result given) (sym does.1.0),
)

tell_bits : (tells : Type 0) → StraightRuns tells → (action : Action) (given : ℕ) (first : MachineState) (k : ℕ) → tells_value action ≡ true →
    stored (code_of action) 0 (2 ^ 32 - 1) % 2 ^ 32 ≡ code_of action
    → (budget : ℕ) (result : Result ℕ RunStop) (left : ℕ) (last : MachineState) → first ≡ given_to action given first → ((value : ℕ) → answer_of action given value ≡ value % 2 ^ k)
    → 2 ≡ steps_of own_entries action → program_of (code_of action) own_entries ≡ tell_entries action (answer action (2 ^ k - 1))
    → Run (Allows tells) (program_of (code_of action) own_entries) given budget first result left last → OwnRun tells action given budget first result left last
tell_bits tells law action given first k told code budget result left last same says two is run =
    tell_run tells law action given first (answer action (2 ^ k - 1)) (answers action (2 ^ k - 1)) (serves_answer tells action (2 ^ k - 1)) told code budget
    result left last same (reads_bits tells action given k says) two is run

-- Each program

pub own_programs_run : (tells : Type 0) → StraightRuns tells → OwnProgramsRun tells
unfolding own_entries entries_of
own_programs_run tells law BeginWriteOperation given budget first result left last run = one_run tells law BeginWriteOperation given first budget result left
    last refl (λ value. refl) refl refl refl run
own_programs_run tells law BeginReadOperation given budget first result left last run = one_run tells law BeginReadOperation given first budget result left last refl (λ value. refl) refl refl refl run
own_programs_run tells law BeginClearOperation given budget first result left last run = one_run tells law BeginClearOperation given first budget result left
    last refl (λ value. refl) refl refl refl run
own_programs_run tells law BeginDummyWriteOperation given budget first result left last run = one_run tells law BeginDummyWriteOperation given first budget
    result left last refl (λ value. refl) refl refl refl run
own_programs_run tells law EndOperation given budget first result left last run = one_run tells law EndOperation given first budget result left last refl (λ value. refl) refl refl refl run
own_programs_run tells law ExecuteOperation given budget first result left last run = one_run tells law ExecuteOperation given first budget result left last refl (λ value. refl) refl refl refl run
own_programs_run tells law SetRecordOffset given budget first result left last run = give_run tells law SetRecordOffset given first refl refl budget result left last (λ value. refl) refl refl refl run
own_programs_run tells law SetRecordIdentifier given budget first result left last run = give_run tells law SetRecordIdentifier given first refl refl budget
    result left last (λ value. refl) refl refl refl run
own_programs_run tells law CheckBusyStatus given budget first result left last run =
    tell_run tells law CheckBusyStatus given first (is_one CheckBusyStatus) (asks_one CheckBusyStatus) (serves_one tells CheckBusyStatus) refl refl budget result left last refl
    (reads_one tells CheckBusyStatus given (λ value. refl)) refl refl run
own_programs_run tells law GetCommandStatus given budget first result left last run = tell_bits tells law GetCommandStatus given first 8 refl refl budget result
    left last refl (λ value. refl) refl refl run
own_programs_run tells law GetRecordCount given budget first result left last run = tell_bits tells law GetRecordCount given first 32 refl refl budget result
    left last refl (λ value. refl) refl refl run
own_programs_run tells law action given budget first result left last run = tell_bits tells law action given first 64 refl refl budget result left last refl (λ value. refl) refl refl run

-- How many steps each takes

pub steps-begin_write : steps_of own_entries BeginWriteOperation ≡ 1
unfolding own_entries entries_of
steps-begin_write = refl

pub steps-begin_read : steps_of own_entries BeginReadOperation ≡ 1
unfolding own_entries entries_of
steps-begin_read = refl

pub steps-begin_clear : steps_of own_entries BeginClearOperation ≡ 1
unfolding own_entries entries_of
steps-begin_clear = refl

pub steps-begin_dummy : steps_of own_entries BeginDummyWriteOperation ≡ 1
unfolding own_entries entries_of
steps-begin_dummy = refl

pub steps-offset : steps_of own_entries SetRecordOffset ≡ 2
unfolding own_entries entries_of
steps-offset = refl

pub steps-identifier : steps_of own_entries SetRecordIdentifier ≡ 2
unfolding own_entries entries_of
steps-identifier = refl

pub steps-execute : steps_of own_entries ExecuteOperation ≡ 1
unfolding own_entries entries_of
steps-execute = refl

pub steps-check : steps_of own_entries CheckBusyStatus ≡ 2
unfolding own_entries entries_of
steps-check = refl

pub steps-status : steps_of own_entries GetCommandStatus ≡ 2
unfolding own_entries entries_of
steps-status = refl

pub steps-next : steps_of own_entries GetRecordIdentifier ≡ 2
unfolding own_entries entries_of
steps-next = refl

pub steps-count : steps_of own_entries GetRecordCount ≡ 2
unfolding own_entries entries_of
steps-count = refl

-- A run that has enough steps

pub record IsRun (tells : Type 0) (action : Action) (given budget : ℕ) (first : MachineState) (result : Result ℕ RunStop) (left : ℕ) (last : MachineState) : Type 0 where
  pub answer : result ≡ Ok (answer_of action given last.device.value)
  pub acted : ActsOn tells (given_to action given first) (code_of action) last
  pub spent : left + steps_of own_entries action ≡ budget

pub has_steps : (tells : Type 0) (action : Action) (given budget : ℕ) (first : MachineState) (result : Result ℕ RunStop) (left : ℕ) (last : MachineState) → 2 ≤ budget
    → OwnRun tells action given budget first result left last → IsRun tells action given budget first result left last
has_steps tells action given budget first result left last enough run = elim run as (λ result left last run. IsRun tells action given budget first result left last) [
  | IsMade left last acted spent ↦ record { answer = refl; acted = acted; spent = spent }
  | StopsAtOnce none ↦ absurd (omega (arith, none, enough))
  | StopsBefore one takes ↦ absurd (omega (arith, one, enough))
  | StopsBehind last one shows acted ↦ absurd (omega (arith, one, enough))
]
