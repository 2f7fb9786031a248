-- The steps that a command needs.
use Rattle.std.proofs.Common.{◌≡◌, ℕ, ◌+◌, ◌*◌, ◌≤◌, List, Result, Ok, Err, refl, ap, subst, arith}
use Rattle.std.specs.Prelude.{max}
use Rattle.record_model.specs.RecordMap.{Command, Refusal, changes_of}
use Rattle.erst_interp.specs.declared.stops.RunStop.TheVariants.{Budget}
use Rattle.erst_client.specs.declared.errors.ClientError.{ClientError}
use Rattle.erst_client.specs.declared.errors.ClientError.TheVariants.{Hardware, Stopped, Late}
use Rattle.erst_client.specs.declared.requests.Request.{Request}
use Rattle.erst_client.specs.Sequences.{dummy_requests}
use Rattle.erst_client.specs.Steps.{steps_needed}
use Rattle.erst_machine.specs.MachineState.{MachineState, records_of}
use Rattle.erst_machine.specs.OwnTables.{own_entries}
use Rattle.erst_shadow.specs.MoveRuns.{move_steps}
use Rattle.erst_commands.specs.Causes.{GoesThrough}
use Rattle.erst_commands.specs.Changes.{IsErrorOf, OfFailed, OfNoSpace, OfNotFound, OfEmpty, ChangeCommand, IsTaken, IsRefused, IsFailed, IsStopped, DummyCommand, IsPlayed, IsCut}
use Rattle.erst_commands.specs.Reads.{ReadMade, IsRead, IsRefused as read_refused, IsFailed as read_failed, ReadCommand, Answers, StopsBehind, StopsBefore}
use Rattle.erst_commands.proofs.ReadLemmas.{needs-read}
use Rattle.erst_commands.proofs.StartLemmas.{needs-dummy}
use Rattle.erst_shadow.specs.ShadowSequences.{PaysMoves, PaysBoth, PaysPart}
use Rattle.erst_shadow.specs.ShadowCommands.{ShadowChange, ShadowDummy, ShadowRead}
use Rattle.erst_shadow.proofs.Terms.{IsCutShort}

-- An answer by which a command was not cut short

abbrev pub Ended : Result (Unit {0}) ClientError → Type 0
Ended result = (error : ClientError) → result ≡ Err error → IsCutShort error → ⊥

pub through : (result : Result (Unit {0}) ClientError) → Ended result → GoesThrough result
through result ended = record { not_stopped = λ stop e. ended (Stopped stop) e tt; in_time = λ waited e. ended (Late waited) e tt }

pub ok_ended : Ended (Ok tt)
ok_ended error e short = absurd (cc e)

equivalent : (one other : ClientError) → ◌≡◌ {A = Result (Unit {0}) ClientError} (Err one) (Err other) → IsCutShort other → IsCutShort one
equivalent one other e short = let same : other ≡ one = cc in subst (λ (x : ClientError). IsCutShort x) same short

pub error_ended : (error : ClientError) → (IsCutShort error → ⊥) → Ended (Err error)
error_ended error whole other e short = whole (equivalent error other e short)

refusal_whole : (error : ClientError) (refusal : Refusal) → IsErrorOf refusal error → IsCutShort error → ⊥
refusal_whole error refusal is = elim is as (λ refusal error is. IsCutShort error → ⊥) [
  | OfFailed ↦ λ short. short
  | OfNoSpace ↦ λ short. short
  | OfNotFound ↦ λ short. short
  | OfEmpty ↦ λ short. short
]

hardware_ended : Ended (Err Hardware)
hardware_ended = error_ended Hardware (λ short. short)

-- What was paid

-- the machine's own programs had all steps but those of the two moves
pub own_paid : (pieces budget : ℕ) (result : Result (Unit {0}) ClientError) (left own_budget own_left : ℕ) → PaysMoves pieces budget result left own_budget
    own_left → budget ≤ own_budget + 2 * move_steps pieces
own_paid pieces budget result left own_budget own_left paid = elim paid as (λ result left own_budget own_left paid. budget ≤ own_budget + 2 * move_steps pieces) [
  | PaysBoth result left own_budget same ↦ omega arith
  | PaysPart error left own_budget own_left short less more ↦ more
]

both_paid : (pieces budget : ℕ) (result : Result (Unit {0}) ClientError) (left own_budget own_left : ℕ) → Ended result → PaysMoves pieces budget result left own_budget own_left
    → (own_budget + 2 * move_steps pieces ≡ budget) × (left ≡ own_left)
both_paid pieces budget result left own_budget own_left ended paid =
    (elim paid as (λ result left own_budget own_left paid. Ended result → (own_budget + 2 * move_steps pieces ≡ budget) × (left ≡ own_left)) [
      | PaysBoth result left own_budget same ↦ λ ended. (same, refl)
      | PaysPart error left own_budget own_left short less more ↦ λ ended. absurd (ended error refl short)
    ]) ended

-- so a command that was not cut short took so many steps more
paid_more : (pieces budget : ℕ) (result : Result (Unit {0}) ClientError) (left own_budget own_left steps : ℕ) → Ended result →
    PaysMoves pieces budget result left own_budget own_left → own_left + steps ≡ own_budget
    → left + (16 * pieces + 12 + steps) ≡ budget
paid_more pieces budget result left own_budget own_left steps ended paid spent =
    let both = both_paid pieces budget result left own_budget own_left ended paid in
    let all = both.0 in
    let same = both.1 in
    omega (arith, spent, all, same)

-- A write and a clear

abbrev pub changes_in : Command → MachineState → ℕ
changes_in command state = max 1 (changes_of state.device.store.layout command (records_of state))

-- by the machine's own table, in whose terms the checks are counted
record OwnNeed (first : MachineState) (command : Command) (budget : ℕ) (result : Result (Unit {0}) ClientError) (left : ℕ) : Type 0 where
  checks : ℕ
  ended : Ended result
  spent : left + (6 + 2 * checks) ≡ budget
  few : checks ≤ changes_in command first
  taken : result ≡ Ok tt → checks ≡ changes_in command first

abbrev Needs : List Request → Type 0
Needs requests = (checks : ℕ) → steps_needed own_entries requests checks ≡ 6 + 2 * checks

own_need : (first last : MachineState) (id : ℕ) (command : Command) (requests : List Request) (budget : ℕ) (result : Result (Unit {0}) ClientError) (left : ℕ) → Needs requests
    → ChangeCommand first last id command requests budget result left → (result ≡ Err (Stopped Budget) → ⊥) → OwnNeed first command budget result left
own_need first last id command requests budget result left needs change = elim change as (λ result left change. (result ≡ Err (Stopped Budget) → ⊥) → OwnNeed first command budget result left) [
  | IsTaken pauses left taken now made spent ↦ λ goes. let same = made.checks in record {
    checks = pauses + 1;
    ended = ok_ended;
    spent = omega (arith, spent, needs (pauses + 1));
    few = omega (arith, same);
    taken = λ e. same;
  }
  | IsRefused refusal error left refused is now made spent ↦ λ goes. record {
    checks = 1;
    ended = error_ended error (refusal_whole error refusal is);
    spent = omega (arith, spent, needs 1);
    few = omega arith;
    taken = λ e. absurd (cc e);
  }
  | IsFailed pauses left usable rose either leaves few spent ↦ λ goes. record {
    checks = pauses + 1;
    ended = hardware_ended;
    spent = omega (arith, spent, needs (pauses + 1));
    few = few;
    taken = λ e. absurd (cc e);
  }
  | IsStopped pauses leaves few short ↦ λ goes. absurd (goes refl)
]

own_enough : (first last : MachineState) (id : ℕ) (command : Command) (requests : List Request) (budget : ℕ) (result : Result (Unit {0}) ClientError) (left : ℕ)
    → Needs requests → 6 + 2 * changes_in command first ≤ budget
    → ChangeCommand first last id command requests budget result left → Ended result
own_enough first last id command requests budget result left needs enough change = elim change as (λ result left change. Ended result) [
  | IsTaken pauses left taken now made spent ↦ ok_ended
  | IsRefused refusal error left refused is now made spent ↦ error_ended error (refusal_whole error refusal is)
  | IsFailed pauses left usable rose either leaves few spent ↦ hardware_ended
  | IsStopped pauses leaves few short ↦ absurd (omega (arith, short, few, enough, needs (pauses + 1)))
]

module _ (pieces : ℕ) (first last : MachineState) (id : ℕ) (command : Command) (requests : List Request) (budget : ℕ) (result : Result (Unit {0}) ClientError) (left : ℕ) (needs : Needs requests)
    (change : ShadowChange pieces first last id command requests budget result left) where
  same_changes : changes_in command change.own_first ≡ changes_in command first
  same_changes = ap (λ (m : MachineState). changes_in command m) change.first_is

  pub change_needs : GoesThrough result → (checks : ℕ) × (left + (16 * pieces + 18 + 2 * checks) ≡ budget) × (checks ≤ changes_in command first)
  change_needs goes =
      let own = own_need change.own_first change.own_last id command requests change.own_budget result change.own_left needs change.own (goes.not_stopped Budget) in
      let spent = paid_more pieces budget result left change.own_budget change.own_left (6 + 2 * own.checks) own.ended change.paid own.spent in
      (own.checks, omega (arith, spent), omega (arith, own.few, same_changes))

  pub taken_needs : result ≡ Ok tt → left + (16 * pieces + 18 + 2 * changes_in command first) ≡ budget
  taken_needs taken =
      let own = own_need change.own_first change.own_last id command requests change.own_budget result change.own_left needs change.own (λ e. absurd (cc taken)) in
      let spent = paid_more pieces budget result left change.own_budget change.own_left (6 + 2 * own.checks) own.ended change.paid own.spent in
      let exact = own.taken taken in
      omega (arith, spent, exact, same_changes)

  pub change_enough : 16 * pieces + 18 + 2 * changes_in command first ≤ budget → GoesThrough result
  change_enough enough =
      let paid = own_paid pieces budget result left change.own_budget change.own_left change.paid in
      through result (own_enough change.own_first change.own_last id command requests change.own_budget result change.own_left needs (omega (arith, enough, paid, same_changes)) change.own)

-- A dummy write

own_dummy_need : (first last : MachineState) (budget : ℕ) (result : Result (Unit {0}) ClientError) (left : ℕ) → DummyCommand first last dummy_requests budget
    result left → (result ≡ Err (Stopped Budget) → ⊥)
    → Ended result × (left + 8 ≡ budget)
own_dummy_need first last budget result left dummy = elim dummy as (λ result left dummy. (result ≡ Err (Stopped Budget) → ⊥) → Ended result × (left + 8 ≡ budget)) [
  | IsPlayed left leaves spent ↦ λ goes. (ok_ended, omega (arith, spent, needs-dummy))
  | IsCut leaves short ↦ λ goes. absurd (goes refl)
]

own_dummy_enough : (first last : MachineState) (budget : ℕ) (result : Result (Unit {0}) ClientError) (left : ℕ) → 8 ≤ budget → DummyCommand first last dummy_requests budget result left → Ended result
own_dummy_enough first last budget result left enough dummy = elim dummy as (λ result left dummy. Ended result) [
  | IsPlayed left leaves spent ↦ ok_ended
  | IsCut leaves short ↦ absurd (omega (arith, enough, short, needs-dummy))
]

module _ (pieces : ℕ) (first last : MachineState) (budget : ℕ) (result : Result (Unit {0}) ClientError) (left : ℕ) (dummy : ShadowDummy pieces first last budget result left) where
  pub dummy_needs : GoesThrough result → left + (16 * pieces + 20) ≡ budget
  dummy_needs goes =
      let own = own_dummy_need dummy.own_first dummy.own_last dummy.own_budget result dummy.own_left dummy.own (goes.not_stopped Budget) in
      let spent = paid_more pieces budget result left dummy.own_budget dummy.own_left 8 own.0 dummy.paid own.1 in
      omega (arith, spent)

  pub dummy_enough : 16 * pieces + 20 ≤ budget → GoesThrough result
  dummy_enough enough =
      let paid = own_paid pieces budget result left dummy.own_budget dummy.own_left dummy.paid in
      through result (own_dummy_enough dummy.own_first dummy.own_last dummy.own_budget result dummy.own_left (omega (arith, enough, paid)) dummy.own)

-- A read

read_made_ended : (first last : MachineState) (id : ℕ) (result : Result (Unit {0}) ClientError) → ReadMade first last id result → Ended result
read_made_ended first last id result made = elim made as (λ result made. Ended result) [
  | IsRead found body generation asked named stored fits range cursor ↦ ok_ended
  | read_refused refusal error asked refused is range cursor ↦ error_ended error (refusal_whole error refusal is)
  | read_failed leaves rose range cursor ↦ hardware_ended
]

own_read_need : (first last : MachineState) (id budget : ℕ) (result : Result (Unit {0}) ClientError) (left : ℕ) → ReadCommand first last id budget result left →
    (result ≡ Err (Stopped Budget) → ⊥) → Ended result × (left + 10 ≡ budget)
own_read_need first last id budget result left read = elim read as (λ result left read. (result ≡ Err (Stopped Budget) → ⊥) → Ended result × (left + 10 ≡ budget)) [
  | Answers result left made spent ↦ λ goes. (read_made_ended first last id result made, omega (arith, spent, needs-read id))
  | StopsBehind result made reached short ↦ λ goes. absurd (goes refl)
  | StopsBefore leaves range cursor early short ↦ λ goes. absurd (goes refl)
]

own_read_enough : (first last : MachineState) (id budget : ℕ) (result : Result (Unit {0}) ClientError) (left : ℕ) → 10 ≤ budget → ReadCommand first last id budget result left → Ended result
own_read_enough first last id budget result left enough read = elim read as (λ result left read. Ended result) [
  | Answers result left made spent ↦ read_made_ended first last id result made
  | StopsBehind result made reached short ↦ absurd (omega (arith, enough, short, needs-read id))
  | StopsBefore leaves range cursor early short ↦ absurd (omega (arith, enough, short))
]

module _ (pieces : ℕ) (first last : MachineState) (id budget : ℕ) (result : Result (Unit {0}) ClientError) (left : ℕ) (read : ShadowRead pieces first last id budget result left) where
  pub read_needs : GoesThrough result → left + (16 * pieces + 22) ≡ budget
  read_needs goes =
      let own = own_read_need read.own_first read.own_last id read.own_budget result read.own_left read.own (goes.not_stopped Budget) in
      let spent = paid_more pieces budget result left read.own_budget read.own_left 10 own.0 read.paid own.1 in
      omega (arith, spent)

  pub read_enough : 16 * pieces + 22 ≤ budget → GoesThrough result
  read_enough enough =
      let paid = own_paid pieces budget result left read.own_budget read.own_left read.paid in
      through result (own_read_enough read.own_first read.own_last id read.own_budget result read.own_left (omega (arith, enough, paid)) read.own)
