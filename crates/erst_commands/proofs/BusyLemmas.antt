-- What a device has begun ends, whatever its flash answers: so it is busy only so often.
use Rattle.std.proofs.Common.{◌≡◌, ◌⊎◌, ℕ, zero, suc, ◌+◌, ◌*◌, ◌≤◌, ◌<◌, Bool, true, false, cond, List, length, Option, Some, None, Result, Ok, Err, refl, sym, ap, subst, ◌∙◌, arith, inl, inr}
use Rattle.std.specs.Prelude.{nat_eq, nat_lt, max}
use Rattle.std.proofs.lemmas.Bool.{cond-true, cond-false, eq-eqb, ne_eqb, ltb-false}
use Rattle.std.proofs.lemmas.Option.{same_Some}
use Rattle.base_model.specs.Bytes.{part, number_at}
use Rattle.base_model.proofs.BytesLemmas.{length-part}
use Rattle.base_model.specs.Layout.{Layout, room_of, reach_of}
use Rattle.record_model.specs.Records.{is_reserved}
use Rattle.record_store.specs.Store.{StoreView, Pending, Idle, Writing, Clearing, pending_after, changes_before_gate, changes_in_all, IsBusy}
use Rattle.record_store.specs.declared.errors.StoreError.{StoreError}
use Rattle.erst_entries.specs.declared.actions.Action.TheVariants.{CheckBusyStatus}
use Rattle.erst_interp.specs.declared.stops.RunStop.{RunStop}
use Rattle.erst_interp.specs.declared.stops.RunStop.TheVariants.{Budget}
use Rattle.erst_client.specs.declared.errors.ClientError.{ClientError}
use Rattle.erst_client.specs.Requests.{Performs}
use Rattle.erst_client.specs.Sequences.{Pauses, Untimed, Timed, TooOften, Busy, NotYet, Again, Waits, IsIdle, IsStopped, IsLate}
use Rattle.erst_device.specs.Drafts.{draft_at}
use Rattle.erst_device.specs.Timings.{most_changes}
use Rattle.erst_device.specs.StoreCalls.{Stepped, StartedWrite, StartedClear}
use Rattle.erst_device.specs.DeviceState.{DeviceState, IsStill}
use Rattle.erst_device.specs.Starts.{Starts, NoneBegun, WritesDummy, NoDraft, Writes, LookFails, FindsNone, Misses, GoesBeyond, Finds, NoneToClear, Clears, named}
use Rattle.erst_device.specs.Actions.{stepped}
use Rattle.erst_machine.specs.MachineState.{MachineState}
use Rattle.erst_machine.specs.Allowed.{Allows, ActsOn}
use Rattle.erst_machine.specs.OwnTables.{own_entries}
use Rattle.erst_commands.specs.OwnPrograms.{answer_of, IsMade, StopsAtOnce, StopsBefore, StopsBehind, OwnProgramsRun}
use Rattle.erst_commands.proofs.ActionCases.{checks_still, checks_busy, checks_reading}
use Rattle.erst_commands.proofs.OwnProgramLemmas.{steps-check}
use Rattle.erst_commands.proofs.LimitLemmas.{changes-most}
use Rattle.erst_commands.proofs.StartLemmas.{idle_after}
use Rattle.erst_commands.proofs.ReadLemmas.{value_shown}
use Rattle.erst_commands.proofs.WayLemmas.{pause_late}
use Rattle.erst_commands.proofs.SharedLemmas.{idle_busy, same_number, no_stop, no_answer}

-- so many changes end what is pending
abbrev pub IsBounded : ℕ → Layout → Pending → Type 0
IsBounded zero layout pending = pending ≡ Idle
IsBounded (suc n) layout pending = IsBounded n layout (pending_after layout pending)

bounded_write : (layout : Layout) (id : ℕ) (bytes slots : List ℕ) (replaces : Bool) (left made : ℕ) → made + suc left ≡ changes_in_all layout bytes replaces →
    IsBounded (suc left) layout (Writing id bytes slots replaces made)
bounded_write layout id bytes slots replaces zero made sum =
    cond-true {A = Pending} (nat_eq (made + 1) (changes_in_all layout bytes replaces)) Idle (Writing id bytes slots replaces (made + 1))
    (eq-eqb (made + 1) (changes_in_all layout bytes replaces) (omega (arith, sum)))
bounded_write layout id bytes slots replaces (suc left) made sum =
    subst (λ (p : Pending). IsBounded (suc left) layout p)
    (sym (cond-false {A = Pending} (nat_eq (made + 1) (changes_in_all layout bytes replaces)) Idle (Writing id bytes slots replaces (made + 1))
    (ne_eqb (made + 1) (changes_in_all layout bytes replaces) (λ e. absurd (omega (arith, sum, e))))))
    (bounded_write layout id bytes slots replaces left (made + 1) (omega (arith, sum)))

some_and_few : (layout : Layout) (bytes : List ℕ) (replaces : Bool) → (changes_before_gate layout bytes < changes_in_all layout bytes replaces) ×
    (changes_in_all layout bytes replaces ≤ changes_before_gate layout bytes + 2)
some_and_few layout bytes true = (omega arith, omega arith)
some_and_few layout bytes false = (omega arith, omega arith)

bounded_whole : (layout : Layout) (id : ℕ) (bytes slots : List ℕ) (replaces : Bool) (n : ℕ) → n ≡ changes_in_all layout bytes replaces → IsBounded n layout (Writing id bytes slots replaces 0)
bounded_whole layout id bytes slots replaces zero is = let some = some_and_few layout bytes replaces in absurd (omega (arith, is, some.0))
bounded_whole layout id bytes slots replaces (suc left) is = bounded_write layout id bytes slots replaces left 0 (omega (arith, is))

-- a device in which a read runs, or what is pending ends after so many changes
pub record IsFinite (layout : Layout) (n : ℕ) (device : DeviceState) : Type 0 where
  pub layout_is : device.store.layout ≡ layout
  pub runs : ((device.reading ≡ None) × IsBounded n layout device.store.pending) ⊎ ((id : ℕ) × (device.reading ≡ Some id))

-- A start

pub record StartsFinite (layout : Layout) (device : DeviceState) : Type 0 where
  pub n : ℕ
  pub few : n ≤ most_changes layout
  pub finite : IsFinite layout n device

draft_tests : (a b c d : Bool) (x y size id : ℕ) → cond {A = Option (ℕ × ℕ)} a None (cond b None (cond c None (cond d None (Some (x, y))))) ≡ Some (size, id) → (c ≡ false) × (x ≡ size)
draft_tests true b c d x y size id h = absurd (cc h)
draft_tests false true c d x y size id h = absurd (cc h)
draft_tests false false true d x y size id h = absurd (cc h)
draft_tests false false false true x y size id h = absurd (cc h)
draft_tests false false false false x y size id h = (refl, ap (λ (p : ℕ × ℕ). p.0) (same_Some _ _ h))

draft_within : (offset : ℕ) (range : List ℕ) (size id : ℕ) → draft_at offset range ≡ Some (size, id) → offset + size ≤ length range
draft_within offset range size id is =
    let tests = draft_tests (nat_lt (length range) (offset + 128)) (nat_lt (number_at range (offset + 20) 4) 128) (nat_lt (length range) (offset + number_at range (offset + 20) 4))
    (is_reserved (number_at range (offset + 96) 8)) (number_at range (offset + 20) 4) (number_at range (offset + 96) 8) size id is in
    let within = ltb-false (length range) (offset + number_at range (offset + 20) 4) tests.0 in
    omega (arith, within, tests.1)

module _ (tells : Type 0) (old : DeviceState) (range : List ℕ) (still : IsStill old) (long : length range ≡ reach_of (room_of old.store.layout)) where
  quiet : (new : DeviceState) → new.store.layout ≡ old.store.layout → new.reading ≡ None → new.store.pending ≡ Idle → StartsFinite old.store.layout new
  quiet new layout none idle = record { n = 0; few = omega arith; finite = record { layout_is = layout; runs = inl (none, idle) } }

  write_finite : (size id : ℕ) (store : StoreView) (result : Result (Unit {0}) StoreError) (new : DeviceState) → draft_at old.offset range ≡ Some (size, id) →
      StartedWrite tells old.store store id (part range old.offset size) result
      → new.store ≡ store → new.reading ≡ None → StartsFinite old.store.layout new
  write_finite size id store (Ok done) new draft call there none =
      let layout = old.store.layout in
      let bytes = part range old.offset size in
      let pending = call.pending in
      let slots = pending.0 in
      let replaces = pending.1.0 in
      let within = draft_within old.offset range size id draft in
      let size_is : length bytes ≡ size = length-part range old.offset size within in
      let most = changes-most layout (length bytes) (omega (arith, size_is, within, long)) in
      let few = some_and_few layout bytes replaces in
      record {
        n = changes_in_all layout bytes replaces;
        few = omega (arith, few.1, most);
        finite = record {
          layout_is = ap (λ (s : StoreView). s.layout) there ∙ call.leaves.equivalent.layout;
          runs = inl (
            none,
            subst (λ (p : Pending). IsBounded (changes_in_all layout bytes replaces) layout p) (sym (ap (λ (s : StoreView). s.pending) there ∙ pending.1.1))
                (bounded_whole layout id bytes slots replaces (changes_in_all layout bytes replaces) refl),
          );
        };
      }
  write_finite size id store (Err error) new draft call there none =
      quiet new (ap (λ (s : StoreView). s.layout) there ∙ call.leaves.equivalent.layout) none (ap (λ (s : StoreView). s.pending) there ∙ idle_after store error call.leaves.doubt)

  clear_finite : (store : StoreView) (result : Result (Unit {0}) StoreError) (new : DeviceState) → StartedClear tells old.store store old.id result →
      new.store ≡ store → new.reading ≡ None → StartsFinite old.store.layout new
  clear_finite store (Ok done) new call there none = record {
    n = 1;
    few = omega arith;
    finite = record {
      layout_is = ap (λ (s : StoreView). s.layout) there ∙ call.leaves.equivalent.layout;
      runs = inl (none, ap (pending_after old.store.layout) (ap (λ (s : StoreView). s.pending) there ∙ call.pending));
    };
  }
  clear_finite store (Err error) new call there none =
      quiet new (ap (λ (s : StoreView). s.layout) there ∙ call.leaves.equivalent.layout) none (ap (λ (s : StoreView). s.pending) there ∙ idle_after store error call.leaves.doubt)

  pub starts_finite : (new : DeviceState) → Starts tells old range new → StartsFinite old.store.layout new
  starts_finite new starts = elim starts as (λ new starts. StartsFinite old.store.layout new) [
    | NoneBegun none ↦ quiet _ refl still.no_read still.no_change
    | WritesDummy begun ↦ quiet _ refl still.no_read still.no_change
    | NoDraft begun none ↦ quiet _ refl still.no_read still.no_change
    | Writes size id store result begun draft call ↦ write_finite size id store result _ draft call refl still.no_read
    | LookFails store error begun looks ↦ quiet _ looks.leaves.equivalent.layout still.no_read looks.leaves.idle
    | FindsNone store begun looks ↦ quiet _ looks.leaves.equivalent.layout still.no_read looks.leaves.idle
    | Misses store least begun looks none ↦ quiet _ looks.leaves.equivalent.layout still.no_read looks.leaves.idle
    | GoesBeyond store least size begun looks long beyond ↦ quiet _ looks.leaves.equivalent.layout still.no_read looks.leaves.idle
    | Finds store least size begun looks long fits ↦ record { n = 0; few = omega arith; finite = record { layout_is = looks.leaves.equivalent.layout; runs = inr (named old.id least, refl) } }
    | NoneToClear begun reserved ↦ quiet _ refl still.no_read still.no_change
    | Clears store result begun usable call ↦ clear_finite store result _ call refl still.no_read
  ]

-- One check

-- it answers that nothing runs, or goes on with one change less
data HasGone (layout : Layout) (n : ℕ) (new : DeviceState) : Type 0 where
  IsDone : new.value ≡ 0 → HasGone layout n new
  GoesOn : (more : ℕ) → n ≡ suc (suc more) → IsFinite layout (suc more) new → new.value ≡ 1 → HasGone layout n new

module _ (layout : Layout) (old : DeviceState) (layout_is : old.store.layout ≡ layout) (none : old.reading ≡ None) where
  further : (n : ℕ) (store : StoreView) → old.store.pending ≡ Idle ⊎ IsBusy old.store.pending → IsBusy old.store.pending → IsBounded n layout old.store.pending
      → store.layout ≡ layout → store.pending ≡ pending_after old.store.layout old.store.pending
      → (store.pending ≡ Idle → ⊥) → HasGone layout n (stepped (Ok false) store old)
  further zero store which busy bounded equivalent pending goes = absurd (idle_busy old.store.pending bounded busy)
  further (suc n) store which busy bounded equivalent pending goes =
      rest n (subst (λ (p : Pending). IsBounded n layout p) (sym (pending ∙ ap (λ (l : Layout). pending_after l old.store.pending) layout_is)) bounded)
    where
      rest : (m : ℕ) → IsBounded m layout store.pending → HasGone layout (suc m) (stepped (Ok false) store old)
      rest zero idle = absurd (goes idle)
      rest (suc more) left = GoesOn more refl (record { layout_is = equivalent; runs = inl (none, left) }) refl

  by_result : (tells : Type 0) (n : ℕ) (store : StoreView) (result : Result Bool StoreError) → IsBusy old.store.pending → IsBounded n layout old.store.pending →
      Stepped tells old.store store result → HasGone layout n (stepped result store old)
  by_result tells n store (Ok true) busy bounded step = IsDone refl
  by_result tells n store (Ok false) busy bounded step =
      further n store (inr busy) busy bounded (step.equivalent.layout ∙ layout_is) step.stepped.1 (goes_on step.stepped.2)
    where
      goes_on : (false ≡ true) ⊎ ((false ≡ false) × (store.pending ≡ Idle → ⊥)) → store.pending ≡ Idle → ⊥
      goes_on (inl e) = absurd (cc e)
      goes_on (inr both) = both.1
  by_result tells n store (Err error) busy bounded step = IsDone refl

check_gone : (tells : Type 0) (layout : Layout) (n : ℕ) (w last : MachineState) → IsFinite layout n w.device → ActsOn tells w 0x6 last → HasGone layout n last.device
check_gone tells layout n w last finite acted = elim finite.runs [
  | inl both ↦ by_pending both.0 both.1 w.device.store.pending refl
  | inr reads ↦
      let made = checks_reading tells w.device w.memory.range last.device last.memory.range reads.0 reads.1 acted.acts in
      IsDone (ap (λ (d : DeviceState). d.value) made.new_is ∙ value_shown reads.0 made.result made.store w.device)
]
  where
    by_busy : w.device.reading ≡ None → IsBounded n layout w.device.store.pending → IsBusy w.device.store.pending → HasGone layout n last.device
    by_busy none bounded busy =
        let made = checks_busy tells w.device w.memory.range last.device last.memory.range busy none acted.acts in
        subst (λ (d : DeviceState). HasGone layout n d) (sym made.new_is) (by_result layout w.device finite.layout_is none tells n made.store made.result busy bounded made.step)

    by_pending : w.device.reading ≡ None → IsBounded n layout w.device.store.pending → (pending : Pending) → w.device.store.pending ≡ pending → HasGone layout n last.device
    by_pending none bounded Idle is =
        let made = checks_still tells w.device w.memory.range last.device last.memory.range (record { no_read = none; no_change = is }) acted.acts in
        IsDone (ap (λ (d : DeviceState). d.value) made.new_is)
    by_pending none bounded (Writing id bytes slots replaces changes) is = by_busy none bounded (subst (λ (p : Pending). IsBusy p) (sym is) tt)
    by_pending none bounded (Clearing id) is = by_busy none bounded (subst (λ (p : Pending). IsBusy p) (sym is) tt)

-- the client waits no longer than what runs does
pub record WaitsThrough (n budget : ℕ) (result : Result (Unit {0}) ClientError) (left : ℕ) : Type 0 where
  pub well : result ≡ Ok tt
  pub enough : budget ≤ left + 2 * max 1 n

module _ (tells : Type 0) (own : OwnProgramsRun tells) (layout : Layout) where
  data Checked (n budget : ℕ) : Result ℕ RunStop → ℕ → MachineState → Type 0 where
    ChecksDone : (left : ℕ) (last : MachineState) → left + 2 ≡ budget → Checked n budget (Ok 0) left last
    ChecksOn : (more left : ℕ) (last : MachineState) → n ≡ suc (suc more) → IsFinite layout (suc more) last.device → left + 2 ≡ budget → Checked n budget (Ok 1) left last
    ChecksNot : (last : MachineState) → budget < 2 → Checked n budget (Err Budget) 0 last

  check : (n : ℕ) (w : MachineState) → IsFinite layout n w.device → (budget : ℕ) (result : Result ℕ RunStop) (left : ℕ) (last : MachineState) →
      Performs (Allows tells) own_entries CheckBusyStatus 0 budget w result left last
      → Checked n budget result left last
  check n w finite budget result left last run = elim (own CheckBusyStatus 0 budget w result left last run) as (λ result left last made. Checked n budget result left last) [
    | IsMade left last acted spent ↦ answered left last (ap (λ (k : ℕ). left + k) (sym steps-check) ∙ spent) (check_gone tells layout n w last finite acted)
    | StopsAtOnce none ↦ ChecksNot w (omega (arith, none))
    | StopsBefore few took ↦ absurd (cc)
    | StopsBehind last few shows acted ↦ ChecksNot last (omega (arith, few))
  ]
    where
      answered : (left : ℕ) (last : MachineState) → left + 2 ≡ budget → HasGone layout n last.device → Checked n budget (Ok (answer_of CheckBusyStatus 0 last.device.value)) left last
      answered left last spent gone = elim gone [
        | IsDone value ↦ subst (λ (v : ℕ). Checked n budget (Ok (answer_of CheckBusyStatus 0 v)) left last) (sym value) (ChecksDone left last spent)
        | GoesOn more is finite value ↦ subst (λ (v : ℕ). Checked n budget (Ok (answer_of CheckBusyStatus 0 v)) left last) (sym value) (ChecksOn more left last is finite spent)
      ]

  -- The checks so far

  record SoFar (n budget busy left : ℕ) (w : MachineState) : Type 0 where
    rest : ℕ
    finite : IsFinite layout rest w.device
    sum : busy + rest ≡ n
    some : (busy ≡ 0) ⊎ (1 ≤ rest)
    spent : left + 2 * busy ≡ budget

  pause_device : (timings : Option (ℕ × ℕ)) (busy : ℕ) (old : MachineState) (result : Result (Unit {0}) ClientError) (new : MachineState) →
      Pauses (Allows tells) timings busy old result new → new.device ≡ old.device
  pause_device timings busy old result new pauses = elim pauses as (λ result new pauses. new.device ≡ old.device) [
    | Untimed none ↦ refl
    | Timed known new some early waited ↦ ap (λ (m : MachineState). m.device) waited
    | TooOften known some late ↦ refl
  ]

  so_far : (timings : Option (ℕ × ℕ)) (n : ℕ) (w : MachineState) → IsFinite layout n w.device → (budget busy left : ℕ) (mid : MachineState) →
      Busy (Allows tells) own_entries timings budget w busy left mid → SoFar n budget busy left mid
  so_far timings n w finite budget busy left mid NotYet = record { rest = n; finite = finite; sum = omega arith; some = inl refl; spent = omega arith }
  so_far timings n w finite budget busy left mid (Again before asked from answer behind next new earlier run more pause) =
      let is = so_far timings n w finite budget before asked from earlier in
      further_on before asked answer behind next new is.rest is.sum is.spent more (pause_device timings (suc before) next (Ok tt) new pause)
      (check is.rest from is.finite asked (Ok answer) behind next run)
    where
      further_on : (before asked answer behind : ℕ) (next new : MachineState) (rest : ℕ) → before + rest ≡ n → asked + 2 * before ≡ budget → (answer ≡ 0 → ⊥) → new.device ≡ next.device
          → Checked rest asked (Ok answer) behind next → SoFar n budget (suc before) behind new
      further_on before asked answer behind next new rest sum spent more same checked =
          (elim checked as (λ result behind next checked. result ≡ Ok answer → new.device ≡ next.device → SoFar n budget (suc before) behind new) [
            | ChecksDone left last took ↦ λ e there. absurd (more (sym (same_number 0 answer e)))
            | ChecksOn fewer left last is finite took ↦ λ e there. record {
              rest = suc fewer;
              finite = subst (λ (d : DeviceState). IsFinite layout (suc fewer) d) (sym there) finite;
              sum = omega (arith, sum, is);
              some = inr (omega arith);
              spent = omega (arith, took, spent);
            }
            | ChecksNot last short ↦ λ e there. absurd (no_stop answer Budget e)
          ]) refl same

  -- How they end

  ok_spent : (n budget : ℕ) (result : Result ℕ RunStop) (left : ℕ) (last : MachineState) (answer : ℕ) → result ≡ Ok answer → Checked n budget result left last → left + 2 ≡ budget
  ok_spent n budget result left last answer is checked = (elim checked as (λ result left last checked. result ≡ Ok answer → left + 2 ≡ budget) [
    | ChecksDone left last took ↦ λ e. took
    | ChecksOn more left last is_n finite took ↦ λ e. took
    | ChecksNot last short ↦ λ e. absurd (no_stop answer Budget e)
  ]) is

  err_short : (n budget : ℕ) (result : Result ℕ RunStop) (left : ℕ) (last : MachineState) (stop : RunStop) → result ≡ Err stop → Checked n budget result left last → budget < 2
  err_short n budget result left last stop is checked = (elim checked as (λ result left last checked. result ≡ Err stop → budget < 2) [
    | ChecksDone left last took ↦ λ e. absurd (no_answer 0 stop e)
    | ChecksOn more left last is_n finite took ↦ λ e. absurd (no_answer 1 stop e)
    | ChecksNot last short ↦ λ e. short
  ]) is

  on_more : (n budget : ℕ) (result : Result ℕ RunStop) (left : ℕ) (last : MachineState) (answer : ℕ) → result ≡ Ok answer → (answer ≡ 0 → ⊥) → Checked n budget result left last → 2 ≤ n
  on_more n budget result left last answer is more checked = (elim checked as (λ result left last checked. result ≡ Ok answer → 2 ≤ n) [
    | ChecksDone left last took ↦ λ e. absurd (more (sym (same_number 0 answer e)))
    | ChecksOn fewer left last is_n finite took ↦ λ e. omega (arith, is_n)
    | ChecksNot last short ↦ λ e. absurd (no_stop answer Budget e)
  ]) is

  within_most : (busy rest n : ℕ) → busy + rest ≡ n → (busy ≡ 0) ⊎ (1 ≤ rest) → busy + 1 ≤ max 1 n
  within_most busy rest n sum (inl none) = omega (arith, none)
  within_most busy rest n sum (inr some) = omega (arith, sum, some)

  pub waits_through : (known : ℕ × ℕ) (n : ℕ) (w : MachineState) → IsFinite layout n w.device → 10 * n ≤ known.0 → (budget : ℕ) → 2 * max 1 n ≤ budget →
      (result : Result (Unit {0}) ClientError) (left : ℕ) (last : MachineState)
      → Waits (Allows tells) own_entries (Some known) budget w result left last → WaitsThrough n budget result left
  waits_through known n w finite early budget enough result left last waits = elim waits as (λ result left last waits. WaitsThrough n budget result left) [
    | IsIdle busy asked mid left last earlier run ↦
        let is = so_far (Some known) n w finite budget busy asked mid earlier in
        let took = ok_spent is.rest asked (Ok 0) left last 0 refl (check is.rest mid is.finite asked (Ok 0) left last run) in
        let most = within_most busy is.rest n is.sum is.some in
        record { well = refl; enough = omega (arith, is.spent, took, most) }
    | IsStopped busy asked mid stop left last earlier run ↦
        let is = so_far (Some known) n w finite budget busy asked mid earlier in
        let short = err_short is.rest asked (Err stop) left last stop refl (check is.rest mid is.finite asked (Err stop) left last run) in
        let most = within_most busy is.rest n is.sum is.some in
        absurd (omega (arith, is.spent, short, most, enough))
    | IsLate busy asked mid answer behind next error last earlier run more pause ↦
        let is = so_far (Some known) n w finite budget busy asked mid earlier in
        let two = on_more is.rest asked (Ok answer) behind next answer refl more (check is.rest mid is.finite asked (Ok answer) behind next run) in
        let late = pause_late tells known (suc busy) next (Err error) last error refl pause in
        absurd (omega (arith, is.sum, two, late, early))
  ]
