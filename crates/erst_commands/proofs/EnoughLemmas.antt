-- Steps that are enough by the machine's timings.
use Rattle.std.proofs.Common.{◌≡◌, ℕ, ◌+◌, ◌*◌, ◌/◌, ◌≤◌, max, min, List, Result, Err, arith}
use Rattle.std.proofs.Math.Nat.{mul_comm, mul-le-mul_left}
use Rattle.base_model.specs.Layout.{Layout}
use Rattle.record_model.specs.RecordMap.{Command, changes_of}
use Rattle.erst_entries.specs.declared.actions.Action.TheVariants.{CheckBusyStatus}
use Rattle.erst_interp.specs.declared.stops.RunStop.TheVariants.{Budget}
use Rattle.erst_client.specs.declared.errors.ClientError.{ClientError}
use Rattle.erst_client.specs.declared.errors.ClientError.TheVariants.{Stopped}
use Rattle.erst_client.specs.declared.requests.Request.{Request}
use Rattle.erst_client.specs.Timings.{enough_steps}
use Rattle.erst_client.specs.Steps.{steps_of, steps_needed}
use Rattle.erst_device.specs.Timings.{most_changes}
use Rattle.erst_machine.specs.MachineState.{MachineState, records_of}
use Rattle.erst_machine.specs.OwnTables.{own_entries}
use Rattle.erst_commands.specs.Attached.{own_client}
use Rattle.erst_commands.specs.Changes.{IsErrorOf, OfFailed, OfNoSpace, OfNotFound, OfEmpty, ChangeCommand, IsTaken, IsRefused, IsFailed, IsStopped}
use Rattle.erst_commands.proofs.LimitLemmas.{most-small}

-- they are those of the most changes, and 1024 more than four for each
pub enough-most : (state : MachineState) → 6 + 2 * (most_changes state.device.store.layout + 1) ≤ enough_steps (own_client state).timings
enough-most state =
    let most = most-small state.device.store.layout in
    by_number (most_changes state.device.store.layout) most
  where
    by_number : (n : ℕ) → n ≤ 2058 → 6 + 2 * (n + 1) ≤ min (1024 + 8 * (10 * n / 10 + 2)) 1048576
    by_number n few = omega arith

-- a budget for the requests of a command, and for a check behind each change and one more
abbrev pub HasSteps : Layout → ℕ → Type 0
HasSteps layout budget = 6 + 2 * (most_changes layout + 1) ≤ budget

pub has_steps : (state : MachineState) (budget : ℕ) → enough_steps (own_client state).timings ≤ budget → HasSteps state.device.store.layout budget
has_steps state budget enough = omega (arith, enough-most state, enough)

refused_no_stop : (error : ClientError) (refusal : _) → IsErrorOf refusal error → error ≡ Stopped Budget → ⊥
refused_no_stop error refusal is = elim is as (λ refusal error is. error ≡ Stopped Budget → ⊥) [
  | OfFailed ↦ λ e. absurd (cc e)
  | OfNoSpace ↦ λ e. absurd (cc e)
  | OfNotFound ↦ λ e. absurd (cc e)
  | OfEmpty ↦ λ e. absurd (cc e)
]

pub same_error : (x y : ClientError) → ◌≡◌ {A = Result (Unit {0}) ClientError} (Err x) (Err y) → x ≡ y
same_error x y e = cc

-- a command with the steps of all its changes is not stopped
pub not_stopped : (first last : MachineState) (id : ℕ) (command : Command) (requests : List Request) (budget : ℕ) (result : Result (Unit {0}) ClientError) (left : ℕ)
    → steps_needed own_entries requests (max 1 (changes_of first.device.store.layout command (records_of first))) ≤ budget → ChangeCommand first last id command
    requests budget result left → result ≡ Err (Stopped Budget) → ⊥
not_stopped first last id command requests budget result left enough made = elim made as (λ result left made. result ≡ Err (Stopped Budget) → ⊥) [
  | IsTaken pauses left taken now is spent ↦ λ e. absurd (cc e)
  | IsRefused refusal error left refused is now made spent ↦ λ e. refused_no_stop error refusal is (same_error error (Stopped Budget) e)
  | IsFailed pauses left usable rose either leaves few spent ↦ λ e. absurd (cc e)
  | IsStopped pauses leaves few short ↦ λ e.
      let more = mul-le-mul_left (steps_of own_entries CheckBusyStatus) few in
      let one = mul_comm (steps_of own_entries CheckBusyStatus) (pauses + 1) in
      let all = mul_comm (steps_of own_entries CheckBusyStatus) (max 1 (changes_of first.device.store.layout command (records_of first))) in
      absurd (omega (arith, enough, short, more, one, all))
]
