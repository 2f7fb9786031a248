-- Actions that leave the log range alone do the same whatever it holds.
use Rattle.std.proofs.Common.{◌≡◌, ◌∙◌, ℕ, ◌+◌, ◌%◌, ◌^◌, Bool, true, false, List, Option, Some, Result, Ok, Err, refl, sym, ap, subst}
use Rattle.std.specs.Prelude.{if◌then◌else◌}
use Rattle.erst_entries.specs.declared.actions.Action.{Action}
use Rattle.erst_entries.specs.declared.actions.Action.TheVariants.{ExecuteOperation, CheckBusyStatus}
use Rattle.erst_entries.specs.Actions.{code_of, action_of}
use Rattle.erst_interp.specs.declared.stops.RunStop.{RunStop}
use Rattle.erst_interp.specs.declared.stops.RunStop.TheVariants.{Budget}
use Rattle.erst_client.specs.Steps.{steps_of}
use Rattle.erst_device.specs.Actions.{Acts, Begins, Ends, SetsOffset, SetsId, Waits, Executes, NoneRuns, Steps, Shows, Tells, FindsNext, Counts, Ignores}
use Rattle.erst_device.specs.DeviceState.{DeviceState}
use Rattle.erst_device.specs.Effects.{Effect, changes_of_action}
use Rattle.erst_machine.specs.Memories.{MemoryState}
use Rattle.erst_machine.specs.MachineState.{MachineState}
use Rattle.erst_machine.specs.Allowed.{ActsOn}
use Rattle.erst_machine.specs.OwnTables.{own_entries}
use Rattle.erst_commands.specs.OwnPrograms.{with_value, takes_value, given_to, OwnRun, IsMade, StopsAtOnce, StopsBefore, StopsBehind}
use Rattle.erst_shadow.specs.ShadowMoves.{holding}

abbrev pub IsQuiet : Option Action → Type 0
IsQuiet (Some ExecuteOperation) = ⊥
IsQuiet (Some CheckBusyStatus) = ⊥
IsQuiet action = Unit {0}

quiet_acts : (tells : Type 0) (old : DeviceState) (range other : List ℕ) (action : Option Action) (new : DeviceState) (after : List ℕ) → IsQuiet action → Acts tells old range action new after
    → (after ≡ range) × Acts tells old other action new other
quiet_acts tells old range other action new after quiet acts = (elim acts as (λ action new after acts. IsQuiet action → (after ≡ range) × Acts tells old other action new other) [
  | Begins action operation is ↦ λ q. (refl, Begins action operation is)
  | Ends ↦ λ q. (refl, Ends)
  | SetsOffset still ↦ λ q. (refl, SetsOffset still)
  | SetsId still ↦ λ q. (refl, SetsId still)
  | Waits action is running ↦ λ q. (refl, Waits action is running)
  | Executes new still starts ↦ λ q. absurd q
  | NoneRuns still ↦ λ q. absurd q
  | Steps store result none busy call ↦ λ q. absurd q
  | Shows id store out result reading call ↦ λ q. absurd q
  | Tells action number told ↦ λ q. (refl, Tells action number told)
  | FindsNext store result call allowed ↦ λ q. (refl, FindsNext store result call allowed)
  | Counts store result call ↦ λ q. (refl, Counts store result call)
  | Ignores ↦ λ q. (refl, Ignores)
]) quiet

quiet_changes : (action : Option Action) (old : DeviceState) (range other : List ℕ) → IsQuiet action → changes_of_action action old range ≡ changes_of_action action old other
quiet_changes (Some ExecuteOperation) old range other quiet = absurd quiet
quiet_changes (Some CheckBusyStatus) old range other quiet = absurd quiet
quiet_changes action old range other quiet = refl

quiet_effect : (tells : Type 0) (old : DeviceState) (range other : List ℕ) (action : Option Action) (new : DeviceState) → IsQuiet action →
    Effect tells old range action new → Effect tells old other action new
quiet_effect tells old range other action new quiet effect = record {
  crash = effect.crash;
  made = effect.made;
  exact = λ told none. effect.exact told none ∙ ap (λ (n : ℕ). old.store.flash.steps + n) (quiet_changes action old range other quiet);
  few = effect.few;
  never_falls = effect.never_falls;
  equivalent = effect.equivalent;
  power = effect.power;
  status = effect.status;
  next = effect.next;
  count = effect.count;
}

-- the same in another log range and scratch memory, which it leaves as they are
pub acts_beside : (tells : Type 0) (old : MachineState) (code : ℕ) (new : MachineState) (range scratch : List ℕ) → IsQuiet (action_of code) → ActsOn tells old code new
    → (new.memory ≡ old.memory) × ActsOn tells (holding range scratch old) code (holding range scratch new)
acts_beside tells old code new range scratch quiet acted =
    let acts = quiet_acts tells old.device old.memory.range range (action_of code) new.device new.memory.range quiet acted.acts in (
      acted.memory ∙ ap (λ (r : List ℕ). record old.memory { range = r }) acts.0,
      record {
        acts = acts.1;
        effect = quiet_effect tells old.device old.memory.range range (action_of code) new.device quiet acted.effect;
        copies = acted.copies;
        range = refl;
        memory = ap (λ (m : MemoryState). record m { range = range; scratch = scratch }) acted.memory;
        handover = acted.handover;
        waited = acted.waited;
      },
    )

given_beside : (b : Bool) (n : ℕ) (w : MachineState) (range scratch : List ℕ)
    → (if b then with_value n (holding range scratch w) else holding range scratch w) ≡ holding range scratch (if b then with_value n w else w)
given_beside true n w range scratch = refl
given_beside false n w range scratch = refl

given_memory : (b : Bool) (n : ℕ) (w : MachineState) → (if b then with_value n w else w).memory ≡ w.memory
given_memory true n w = refl
given_memory false n w = refl

-- a run of such an action, in other memories and with as many steps more or fewer
pub runs_beside : (tells : Type 0) (action : Action) (given budget : ℕ) (first : MachineState) (result : Result ℕ RunStop) (left : ℕ) (last : MachineState)
    (range scratch : List ℕ) → IsQuiet (action_of (code_of action))
    → OwnRun tells action given budget first result left last
    → (last.memory ≡ first.memory) × OwnRun tells action given budget (holding range scratch first) result left (holding range scratch last)
runs_beside tells action given budget first result left last range scratch quiet run =
    elim run as (λ result left last run. (last.memory ≡ first.memory) × OwnRun tells action given budget (holding range scratch first) result left (holding range scratch last)) [
      | IsMade left last acted spent ↦
          let on = acts_beside tells (given_to action given first) (code_of action) last range scratch quiet acted in (
            on.0 ∙ given_memory (takes_value action) (given % 2 ^ 64) first,
            IsMade left (holding range scratch last) (subst (λ (w : MachineState). ActsOn tells w (code_of action) (holding range scratch last))
                (sym (given_beside (takes_value action) (given % 2 ^ 64) first range scratch)) on.1) spent,
          )
      | StopsAtOnce none ↦ (refl, StopsAtOnce none)
      | StopsBefore one takes ↦ (
        given_memory (takes_value action) (given % 2 ^ 64) first,
        subst (λ (w : MachineState). OwnRun tells action given budget (holding range scratch first) (Err Budget) 0 w)
            (given_beside (takes_value action) (given % 2 ^ 64) first range scratch) (StopsBefore one takes),
      )
      | StopsBehind last one shows acted ↦
          let on = acts_beside tells first (code_of action) last range scratch quiet acted in
          (on.0, StopsBehind (holding range scratch last) one shows on.1)
    ]

-- a run that answers, with other steps left
pub with_other_steps : (tells : Type 0) (action : Action) (given budget : ℕ) (first : MachineState) (result : Result ℕ RunStop) (left : ℕ) (last : MachineState) (answer : ℕ) → result ≡ Ok answer
    → OwnRun tells action given budget first result left last → (steps : ℕ) × (left + steps ≡ budget) × ((spare : ℕ) → OwnRun tells action given (spare + steps) first (Ok answer) spare last)
with_other_steps tells action given budget first result left last answer is run =
    (elim run as (λ result left last run. result ≡ Ok answer → (steps : ℕ) × (left + steps ≡ budget) × ((spare : ℕ) → OwnRun tells action given (spare + steps) first (Ok answer) spare last)) [
      | IsMade left last acted spent ↦ λ e. (
        steps_of own_entries action,
        spent,
        λ spare. subst (λ (r : Result ℕ RunStop). OwnRun tells action given (spare + steps_of own_entries action) first r spare last) e (IsMade spare last acted refl),
      )
      | StopsAtOnce none ↦ λ e. absurd (cc e)
      | StopsBefore one takes ↦ λ e. absurd (cc e)
      | StopsBehind last one shows acted ↦ λ e. absurd (cc e)
    ]) is
