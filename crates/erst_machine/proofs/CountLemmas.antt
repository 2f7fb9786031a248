-- A store has few records, and a count of them tells how many.
use Rattle.std.proofs.Common.{◌≡◌, ℕ, zero, suc, ◌≤◌, List, Option, Some, None, Result, Ok, Err, Bool, true, false, refl, sym, ap, subst, ◌∙◌, arith}
use Rattle.std.proofs.lemmas.Option.{none-some}
use Rattle.std.specs.FinMap.{len}
use Rattle.record_model.specs.Records.{Entry, entry_at, selected, stored_in, is_first, count_below, one_if}
use Rattle.record_model.proofs.FirstLemmas.{first_count}
use Rattle.record_store.specs.Store.{StoreView, Pending, stored, IsReady}
use Rattle.record_store.specs.declared.errors.StoreError.{StoreError}
use Rattle.record_store.specs.declared.errors.StoreError.TheVariants.{NoSpace, LastGeneration, NotFound, Empty, Flash, Small}
use Rattle.erst_entries.specs.declared.actions.Action.{Action}
use Rattle.erst_entries.specs.declared.actions.Action.TheVariants.{GetRecordCount}
use Rattle.erst_device.specs.StoreCalls.{Counted}
use Rattle.erst_device.specs.DeviceState.{DeviceState, records, given_up}
use Rattle.erst_device.specs.Actions.{Acts, Begins, Ends, SetsOffset, SetsId, Waits, Executes, NoneRuns, Steps, Shows, Tells, FindsNext, Counts, Ignores, told_by, begun_by, waits, counted}
use Rattle.record_store.proofs.Words.{doubt_after}

one_few : (b : Bool) → one_if b ≤ 1
one_few true = omega arith
one_few false = omega arith

count_few : (holds : ℕ → Bool) (n : ℕ) → count_below holds n ≤ n
unfolding count_below
count_few holds zero = omega arith
count_few holds (suc n) = let before : count_below holds n ≤ n = count_few holds n in let here : one_if (holds n) ≤ 1 = one_few (holds n) in omega arith

selected_few : (entry : ℕ → Option Entry) (n : ℕ) → len (selected entry n) ≤ n
selected_few entry n = subst (λ (k : ℕ). k ≤ n) (first_count entry n) (count_few (is_first entry n) n)

pub few_records : (store : StoreView) → len (stored store) ≤ 1024
unfolding stored_in
few_records store =
    let few : len (selected (entry_at store.layout.slot_size store.layout.slots store.flash.told.image) store.layout.slots) ≤ store.layout.slots =
    selected_few (entry_at store.layout.slot_size store.layout.slots store.flash.told.image) store.layout.slots in
    let many : store.layout.slots ≤ 1024 = store.layout.many_slots in
    omega arith

-- A count

record Tally (tells : Type 0) (old new : DeviceState) : Type 0 where
  pub store : StoreView
  pub result : Result ℕ StoreError
  pub counts : Counted tells (given_up old).store store result
  pub new_is : new ≡ counted result store (given_up old)

abbrev IfCounts : Type 0 → Option Action → DeviceState → DeviceState → Type 0
IfCounts tells (Some GetRecordCount) old new = Tally tells old new
IfCounts tells action old new = Unit {0}

-- an action that begins, waits or tells is another one
by_begin : {O : Type 0} (tells : Type 0) (action : Action) (operation : O) (begun : Option O) (old new : DeviceState) → (action ≡ GetRecordCount → begun ≡ None) → begun ≡ Some operation
    → IfCounts tells (Some action) old new
by_begin tells GetRecordCount operation begun old new none is = absurd (none-some operation (sym (none refl) ∙ is))
by_begin tells action operation begun old new none is = tt

by_wait : (tells : Type 0) (action : Action) (old new : DeviceState) → waits action ≡ true → IfCounts tells (Some action) old new
by_wait tells GetRecordCount old new waiting = absurd (cc)
by_wait tells action old new waiting = tt

counts_by : (tells : Type 0) (old : DeviceState) (range : List ℕ) (action : Option Action) (new : DeviceState) (after : List ℕ) → Acts tells old range action new after → IfCounts tells action old new
counts_by tells old range action new after acts = elim acts as (λ action new after acts. IfCounts tells action old new) [
  | Begins act operation by ↦ by_begin tells act operation (begun_by act) old _ (λ is. ap begun_by is) by
  | Ends ↦ tt
  | SetsOffset still ↦ tt
  | SetsId still ↦ tt
  | Waits act waiting runs ↦ by_wait tells act old _ waiting
  | Executes new still starts ↦ tt
  | NoneRuns still ↦ tt
  | Steps store result none busy step ↦ tt
  | Shows id store out result reading read ↦ tt
  | Tells act number told ↦ by_begin tells act number (told_by act old.status old.store.layout) old _ (λ is. ap (λ (a : Action). told_by a old.status old.store.layout) is) told
  | FindsNext store result look allowed ↦ tt
  | Counts store result count ↦ record { store = store; result = result; counts = count; new_is = refl }
  | Ignores ↦ tt
]

value_by : (tells : Type 0) (old store : StoreView) (state new : DeviceState) (result : Result ℕ StoreError) → old.in_doubt ≡ false → Counted tells old store result → tells
    → new ≡ counted result store state → new.value ≡ len (stored old)
value_by tells old store state new (Ok n) certain counts told is = ap (λ (d : DeviceState). d.value) is ∙ counts.answer told
value_by tells old store state new (Err (NoSpace free)) certain counts told is = absurd (counts.still certain)
value_by tells old store state new (Err (LastGeneration id)) certain counts told is = absurd (counts.still certain)
value_by tells old store state new (Err NotFound) certain counts told is = absurd (let e = counts.error in cc)
value_by tells old store state new (Err Empty) certain counts told is = absurd (counts.still certain)
value_by tells old store state new (Err Flash) certain counts told is = absurd (counts.still certain)
value_by tells old store state new (Err (Small need)) certain counts told is = absurd (counts.still certain)

pub told_count : (tells : Type 0) (old new : DeviceState) (range after : List ℕ) (action : Option Action) → action ≡ Some GetRecordCount → IsReady old.store
    → Acts tells old range action new after → tells → new.value ≡ len (records old)
told_count tells old new range after action is ready acts told =
    let tally : Tally tells old new = counts_by tells old range (Some GetRecordCount) new after (subst (λ (a : Option Action). Acts tells old range a new after) is acts) in
    let certain : doubt_after old.store.pending old.store.in_doubt ≡ false = ap (λ (p : Pending). doubt_after p old.store.in_doubt) ready.idle ∙ ready.certain in
    value_by tells (given_up old).store tally.store (given_up old) new tally.result certain tally.counts told tally.new_is
