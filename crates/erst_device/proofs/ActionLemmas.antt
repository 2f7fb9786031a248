-- From what the store answers to the cases of the actions.
use Rattle.std.proofs.Common.{◌≡◌, ℕ, ◌+◌, ◌-◌, ◌^◌, ◌<◌, ◌≤◌, Bool, true, false, List, [], ◌++◌, length, take, drop, length-drop, Option, Some, None, Result}
use Rattle.std.proofs.Common.{Ok, Err, refl, sym, ap, subst, ◌∙◌, arith}
use Rattle.std.specs.Prelude.{nat_lt, if◌then◌else◌}
use Rattle.std.specs.FinMap.{get}
use Rattle.std.proofs.lemmas.Bool.{ltb-true, ltb-false}
use Rattle.std.proofs.lemmas.List.{take_rest, drop_all, append-nil}
use Rattle.base_model.specs.Bytes.{part}
use Rattle.base_model.specs.Layout.{Layout, room_of, reach_of}
use Rattle.base_model.proofs.CrashLemmas.{Leaves-exit}
use Rattle.record_model.specs.Records.{Stored, is_reserved, parts_of}
use Rattle.record_model.specs.RecordMap.{NotFound, Empty}
use Rattle.record_model.proofs.RefusalLemmas.{read_taken}
use Rattle.record_model.proofs.SizeLemmas.{len_some}
use Rattle.record_store.specs.Store.{StoreView, stored, records_of, IsBusy, DividesAlike, KeepsMap}
use Rattle.record_store.specs.Answers.{AnswersRead, FailsByFlash, ReadsExactly}
use Rattle.record_store.specs.Calls.{OnlyLooks}
use Rattle.record_store.specs.declared.errors.StoreError.{StoreError}
use Rattle.record_store.specs.declared.errors.StoreError.TheVariants as errors
use Rattle.erst_entries.specs.declared.actions.Action.{Action}
use Rattle.erst_entries.specs.declared.actions.Action.TheVariants.{EndOperation, CheckBusyStatus, GetRecordIdentifier, GetRecordCount}
use Rattle.erst_device.specs.declared.registers.Registers.{Registers}
use Rattle.erst_device.specs.declared.registers.Operation.{Operation}
use Rattle.erst_device.specs.declared.registers.Operation.TheVariants as operations
use Rattle.erst_device.specs.declared.registers.Running.{Running}
use Rattle.erst_device.specs.declared.registers.Running.TheVariants.{Nothing, Reading, Changing}
use Rattle.erst_device.specs.declared.status.CommandStatus.{CommandStatus}
use Rattle.erst_device.specs.declared.status.CommandStatus.TheVariants.{Success, Failed, RecordStoreEmpty, RecordNotFound}
use Rattle.erst_device.specs.Statuses.{status_of}
use Rattle.erst_device.specs.StoreCalls.{Stepped, ReadOut, FoundNext, Counted}
use Rattle.erst_device.specs.DeviceState.{DeviceState, IsStill, IsRunning, Reads, Changes, given_up}
use Rattle.erst_device.specs.Starts.{Starts, HasLength, FindsNone, Misses, GoesBeyond, Finds, named}
use Rattle.erst_device.specs.Actions.{Acts, Begins, Ends, Steps, Shows, Tells, FindsNext, Counts, begun_by, told_by, found, counted, shown}
use Rattle.erst_device.specs.Registers.{reading_of, is_nothing, seen, IsReading, Runs, started}
use Rattle.erst_device.proofs.Words.{IsAllowed}

-- What runs

nothing_runs : (running : Running) → is_nothing running ≡ true → running ≡ Nothing
nothing_runs Nothing is = refl
nothing_runs (Reading id) is = absurd (cc)
nothing_runs Changing is = absurd (cc)

pub still_nothing : (registers : Registers) → is_nothing registers.running ≡ true → registers.running ≡ Nothing
still_nothing registers is = nothing_runs registers.running is

pub still_of : (tells : Type 0) (registers : Registers) (store : StoreView) → Runs tells registers.running registers.offset store → registers.running ≡ Nothing → IsStill (seen registers store)
still_of tells registers store runs is = record {
  no_read = ap reading_of is;
  no_change = subst (λ (w : Running). Runs tells w registers.offset store) is runs;
}

running_of : (tells : Type 0) (registers : Registers) (running : Running) (store : StoreView) → Runs tells running registers.offset store →
    registers.running ≡ running → is_nothing running ≡ false → IsRunning (seen registers store)
running_of tells registers Nothing store runs is some = absurd (cc)
running_of tells registers (Reading id) store runs is some = Reads id (ap reading_of is)
running_of tells registers Changing store runs is some = Changes runs

pub runs_of : (tells : Type 0) (registers : Registers) (store : StoreView) → Runs tells registers.running registers.offset store → is_nothing registers.running
    ≡ false → IsRunning (seen registers store)
runs_of tells registers store runs some = running_of tells registers registers.running store runs refl some

-- the action that a code names
pub of_action : (tells : Type 0) (old new : DeviceState) (range after : List ℕ) (action known : Action) → action ≡ known → Acts tells old range (Some known) new
    after → Acts tells old range (Some action) new after
of_action tells old new range after action known is acts = subst (λ (a : Action). Acts tells old range (Some a) new after) (sym is) acts

-- an action that tells a number and does nothing else
pub tells_number : (tells : Type 0) (old : DeviceState) (range : List ℕ) (action known : Action) (number : ℕ) → action ≡ known → told_by known old.status old.store.layout ≡ Some number
    → Acts tells old range (Some action) (record old { value = number }) range
tells_number tells old range action known number is told =
    of_action tells old (record old { value = number }) range range action known is (Tells known number told)

-- Actions that abandon an execution

pub begins_from : (tells : Type 0) (old mid : DeviceState) (action : Action) (operation : Operation) (range : List ℕ) → mid ≡ given_up old → begun_by action ≡ Some operation
    → Acts tells old range (Some action) (record mid { operation = Some operation; offset = 0; id = 0; status = Success }) range
begins_from tells old mid action operation range is by =
    subst (λ (s : DeviceState). Acts tells old range (Some action) (record s { operation = Some operation; offset = 0; id = 0; status = Success }) range) (sym is) (Begins action operation by)

pub ends_from : (tells : Type 0) (old mid : DeviceState) (range : List ℕ) → mid ≡ given_up old → Acts tells old range (Some EndOperation) (record mid { operation = None }) range
ends_from tells old mid range is = subst (λ (s : DeviceState). Acts tells old range (Some EndOperation) (record s { operation = None }) range) (sym is) Ends

pub finds_from : (tells : Type 0) (old mid : DeviceState) (store : StoreView) (result : Result (Option ℕ) StoreError) (range : List ℕ) → mid ≡ given_up old
    → FoundNext tells mid.store store mid.cursor result → IsAllowed result → Acts tells old range (Some GetRecordIdentifier) (found result store mid) range
finds_from tells old mid store result range is next allowed =
    subst (λ (s : DeviceState). FoundNext tells s.store store s.cursor result → Acts tells old range (Some GetRecordIdentifier) (found result store s) range) (sym is)
    (λ h. FindsNext store result h allowed) next

pub finds_some : (tells : Type 0) (old mid : DeviceState) (store : StoreView) (found_id : Option ℕ) (id number : ℕ) (range : List ℕ) → mid ≡ given_up old → found_id ≡ Some id → number ≡ id
    → (is_reserved number ≡ false) × (number < 2 ^ 64) → FoundNext tells mid.store store mid.cursor (Ok found_id) →
    Acts tells old range (Some GetRecordIdentifier) (record mid { value = number; cursor = number; store = store }) range
finds_some tells old mid store found_id id number range is some same allowed next =
    let named_one : found_id ≡ Some number = some ∙ ap (λ (n : ℕ). Some n) (sym same) in
    finds_from tells old mid store (Ok (Some number)) range is (subst (λ (o : Option ℕ). FoundNext tells mid.store store mid.cursor (Ok o)) named_one next) allowed

pub finds_none : (tells : Type 0) (old mid : DeviceState) (store : StoreView) (found_id : Option ℕ) (range : List ℕ) → mid ≡ given_up old → found_id ≡ None
    → FoundNext tells mid.store store mid.cursor (Ok found_id) → Acts tells old range (Some GetRecordIdentifier) (record mid { value = 2 ^ 64 - 1; cursor = 0; store = store }) range
finds_none tells old mid store found_id range is none next =
    finds_from tells old mid store (Ok None) range is (subst (λ (o : Option ℕ). FoundNext tells mid.store store mid.cursor (Ok o)) none next) tt

pub counts_from : (tells : Type 0) (old mid : DeviceState) (store : StoreView) (result : Result ℕ StoreError) (range : List ℕ) → mid ≡ given_up old
    → Counted tells mid.store store result → Acts tells old range (Some GetRecordCount) (counted result store mid) range
counts_from tells old mid store result range is count =
    subst (λ (s : DeviceState). Counted tells s.store store result → Acts tells old range (Some GetRecordCount) (counted result store s) range) (sym is)
    (λ h. Counts store result h) count

-- Starts

-- the registers after a start of which this runs
pub started_is : (registers : Registers) (running : Running) (store : StoreView) → registers.running ≡ Nothing
    → started (Ok running) (seen registers store) ≡ seen (record registers { status = Success; running = running }) store
started_is registers Nothing store is = ap (λ (w : Running). record (seen registers store) { status = Success; reading = reading_of w }) is
started_is registers (Reading id) store is = refl
started_is registers Changing store is = ap (λ (w : Running). record (seen registers store) { status = Success; reading = reading_of w }) is

pub wrote_part : (range : List ℕ) (at size : ℕ) → take (at + size - at) (drop at range) ≡ part range at size
unfolding part
wrote_part range at size = ap (λ (n : ℕ). take n (drop at range)) (let e : at + size - at ≡ size = omega arith in e)

pub kept_map : (old new : StoreView) → KeepsMap old new → DividesAlike old new → stored new ≡ stored old
kept_map old new kept equivalent =
    ap (λ (layout : Layout). records_of layout new.flash.told.image) equivalent.layout
    ∙ Leaves-exit old.flash.told new.flash.told (λ image. records_of old.layout image ≡ stored old) kept

-- a start that the store refuses
pub refused_by : (tells : Type 0) (old left : DeviceState) (range : List ℕ) (result : Result Running CommandStatus) (status : CommandStatus)
    (error : StoreError) → result ≡ Err status → status ≡ status_of error
    → Starts tells old range (record left { status = status_of error }) → Starts tells old range (started result left)
refused_by tells old left range result status error is status_is starts =
    subst (λ (r : Result Running CommandStatus). Starts tells old range (started r left)) (sym is)
    (subst (λ (s : CommandStatus). Starts tells old range (record left { status = s })) (sym status_is) starts)

pub finds_nothing : (tells : Type 0) (old : DeviceState) (range : List ℕ) (store : StoreView) (found_id : Option ℕ) → old.operation ≡ Some operations.Read
    → FoundNext tells old.store store 0 (Ok found_id) → found_id ≡ None → Starts tells old range (record old { status = RecordStoreEmpty; store = store })
finds_nothing tells old range store found_id reads next none = FindsNone store reads (subst (λ (o : Option ℕ). FoundNext tells old.store store 0 (Ok o)) none next)

-- the least identifier is known, and then the record that is named
pub record LooksBehind (tells : Type 0) (old : DeviceState) (mid last : StoreView) (least : ℕ) : Type 0 where
  pub reads : old.operation ≡ Some operations.Read
  pub next : FoundNext tells old.store mid 0 (Ok (Some least))
  pub same : last ≡ mid

pub looks_behind : (tells : Type 0) (old : DeviceState) (mid last : StoreView) (found_id : Option ℕ) (least : ℕ) → old.operation ≡ Some operations.Read →
    FoundNext tells old.store mid 0 (Ok found_id) → found_id ≡ Some least → last ≡ mid
    → LooksBehind tells old mid last least
looks_behind tells old mid last found_id least reads next some same = record { reads = reads; next = subst (λ (o : Option ℕ). FoundNext tells old.store mid 0 (Ok o)) some next; same = same }

map_behind : (tells : Type 0) (old : DeviceState) (mid last : StoreView) (least : ℕ) → LooksBehind tells old mid last least → tells → stored mid ≡ stored old.store
map_behind tells old mid last least looks told = let n = looks.next in let leaves = n.leaves in kept_map old.store mid (leaves.kept told) leaves.equivalent

pub misses_from : (tells : Type 0) (old : DeviceState) (range : List ℕ) (mid last : StoreView) (least : ℕ) → LooksBehind tells old mid last least →
    (tells → get (stored mid) (named old.id least) ≡ None)
    → Starts tells old range (record old { status = RecordNotFound; cursor = 0; store = last })
misses_from tells old range mid last least looks none =
    subst (λ (s : StoreView). Starts tells old range (record old { status = RecordNotFound; cursor = 0; store = s })) (sym looks.same)
    (Misses mid least looks.reads looks.next (λ told. subst (λ (m : Stored). get m (named old.id least) ≡ None) (map_behind tells old mid last least looks told) (none told)))

pub beyond_from : (tells : Type 0) (old : DeviceState) (range : List ℕ) (mid last : StoreView) (least size reach : ℕ) → LooksBehind tells old mid last least →
    (tells → HasLength (stored mid) (named old.id least) size)
    → length range ≡ reach → nat_lt reach (old.offset + size) ≡ true → Starts tells old range (record old { status = Failed; store = last })
beyond_from tells old range mid last least size reach looks held long beyond =
    subst (λ (s : StoreView). Starts tells old range (record old { status = Failed; store = s })) (sym looks.same)
    (GoesBeyond mid least size looks.reads looks.next (λ told. subst (λ (m : Stored). HasLength m (named old.id least) size) (map_behind tells old mid last least looks told) (held told))
    (let over : reach < old.offset + size = ltb-true reach (old.offset + size) beyond in omega arith))

pub within_from : (tells : Type 0) (old : DeviceState) (range : List ℕ) (mid last : StoreView) (least id size reach : ℕ) → LooksBehind tells old mid last least
    → id ≡ named old.id least → (tells → HasLength (stored mid) (named old.id least) size)
    → length range ≡ reach → nat_lt reach (old.offset + size) ≡ false → Starts tells old range (record old { status = Success; reading = Some id; store = last })
within_from tells old range mid last least id size reach looks is held long within =
    subst (λ (s : StoreView). Starts tells old range (record old { status = Success; reading = Some id; store = s })) (sym looks.same)
    (subst (λ (n : ℕ). Starts tells old range (record old { status = Success; reading = Some n; store = mid })) (sym is)
    (Finds mid least size looks.reads looks.next (λ told. subst (λ (m : Stored). HasLength m (named old.id least) size) (map_behind tells old mid last least looks told) (held told))
    (let under : old.offset + size ≤ reach = ltb-false reach (old.offset + size) within in omega arith)))

-- Steps

-- no read runs while a change does
changing_reads : (tells : Type 0) (registers : Registers) (old : StoreView) (range : List ℕ) (target : Option ℕ → DeviceState) → registers.running ≡ Changing
    → Acts tells (record (seen registers old) { reading = None }) range (Some CheckBusyStatus) (target None) range
    → Acts tells (seen registers old) range (Some CheckBusyStatus) (target (reading_of registers.running)) range
changing_reads tells registers old range target changing acts =
    subst (λ (o : Option ℕ). Acts tells (record (seen registers old) { reading = o }) range (Some CheckBusyStatus) (target o) range) (sym (ap reading_of changing)) acts

stepped_from : (tells : Type 0) (state : DeviceState) (store : StoreView) (last answer : Bool) (range : List ℕ) → state.reading ≡ None →
    IsBusy state.store.pending → last ≡ answer → Stepped tells state.store store (Ok last)
    → Acts tells state range (Some CheckBusyStatus) (record state { value = (if answer then 0 else 1); store = store }) range
stepped_from tells state store last answer range none busy is stepped =
    subst (λ (b : Bool). Acts tells state range (Some CheckBusyStatus) (record state { value = (if b then 0 else 1); store = store }) range) is (Steps store (Ok last) none busy stepped)

pub steps_on : (tells : Type 0) (registers : Registers) (old store : StoreView) (last : Bool) (range : List ℕ) → registers.running ≡ Changing →
    IsBusy old.pending → last ≡ false → Stepped tells old store (Ok last)
    → Acts tells (seen registers old) range (Some CheckBusyStatus) (record (seen registers old) { value = 1; store = store }) range
steps_on tells registers old store last range changing busy is stepped =
    changing_reads tells registers old range (λ o. record (seen registers old) { value = 1; reading = o; store = store }) changing
    (stepped_from tells (record (seen registers old) { reading = None }) store last false range refl busy is stepped)

pub steps_last : (tells : Type 0) (registers : Registers) (old store : StoreView) (last : Bool) (range : List ℕ) → registers.running ≡ Changing →
    IsBusy old.pending → last ≡ true → Stepped tells old store (Ok last)
    → Acts tells (seen registers old) range (Some CheckBusyStatus) (record (seen registers old) { value = 0; reading = None; store = store }) range
steps_last tells registers old store last range changing busy is stepped =
    changing_reads tells registers old range (λ o. record (seen registers old) { value = 0; reading = None; store = store }) changing
    (stepped_from tells (record (seen registers old) { reading = None }) store last true range refl busy is stepped)

pub steps_failed : (tells : Type 0) (registers : Registers) (old store : StoreView) (error : StoreError) (status : CommandStatus) (range : List ℕ) →
    registers.running ≡ Changing → IsBusy old.pending → status ≡ status_of error
    → Stepped tells old store (Err error) → Acts tells (seen registers old) range (Some CheckBusyStatus)
    (record (seen registers old) { value = 0; status = status; reading = None; store = store }) range
steps_failed tells registers old store error status range changing busy is stepped =
    subst (λ (s : CommandStatus). Acts tells (seen registers old) range (Some CheckBusyStatus) (record (seen registers old) { value = 0; status = s; reading = None; store = store }) range) (sym is)
    (changing_reads tells registers old range (λ o. record (seen registers old) { value = 0; status = status_of error; reading = None; store = store }) changing
    (Steps store (Err error) refl busy stepped))

-- a part of the range from a place on, as the code borrows it
pub shows_from : (tells : Type 0) (old : DeviceState) (store : StoreView) (id : ℕ) (range out : List ℕ) (result : Result ℕ StoreError) → old.reading ≡ Some id
    → ReadOut tells old.store store id (take (length range - old.offset) (drop old.offset range)) out result
    → Acts tells old range (Some CheckBusyStatus) (shown id result store old) (take old.offset range ++ (out ++ drop (length range - old.offset) (drop old.offset range)))
shows_from tells old store id range out result runs read =
    let rest : take (length range - old.offset) (drop old.offset range) ≡ drop old.offset range = take_rest range old.offset in
    let none : drop (length range - old.offset) (drop old.offset range) ≡ [] = drop_all (length range - old.offset) (drop old.offset range) (rw length-drop (omega arith)) in
    subst (λ (xs : List ℕ). Acts tells old range (Some CheckBusyStatus) (shown id result store old) (take old.offset range ++ xs)) (sym (ap (λ (ys : List ℕ). out ++ ys) none ∙ append-nil out))
    (Shows id store out result runs (subst (λ (xs : List ℕ). ReadOut tells old.store store id xs out result) rest read))

pub shows_failed : (tells : Type 0) (old : DeviceState) (store : StoreView) (id : ℕ) (range out : List ℕ) (error : StoreError) (status : CommandStatus) → old.reading ≡ Some id
    → ReadOut tells old.store store id (take (length range - old.offset) (drop old.offset range)) out (Err error) → status ≡ status_of error
    → Acts tells old range (Some CheckBusyStatus) (record old { value = 0; status = status; reading = None; store = store })
    (take old.offset range ++ (out ++ drop (length range - old.offset) (drop old.offset range)))
shows_failed tells old store id range out error status runs read is =
    subst (λ (s : CommandStatus). Acts tells old range (Some CheckBusyStatus) (record old { value = 0; status = s; reading = None; store = store })
    (take old.offset range ++ (out ++ drop (length range - old.offset) (drop old.offset range)))) (sym is)
    (shows_from tells old store id range out (Err error) runs read)

unfoldable first_of : Option (List ℕ × ℕ) → List ℕ
first_of None = []
first_of (Some pair) = pair.0

some_first : (x y : List ℕ) (m n : ℕ) → ◌≡◌ {A = Option (List ℕ × ℕ)} (Some (x, m)) (Some (y, n)) → x ≡ y
unfolding first_of
some_first x y m n same = ap first_of same

-- the record of a read that runs is stored, and is not longer than the bytes that it is read to: so only a fault can end it
pub reads_or_fails : (store : StoreView) (id offset : ℕ) (before after : List ℕ) (result : Result ℕ StoreError) → is_reserved id ≡ false
    → ((size : ℕ) × HasLength (stored store) id size × (offset + size ≤ reach_of (room_of store.layout)))
    → length before ≡ reach_of (room_of store.layout) - offset → AnswersRead store id before after result → FailsByFlash result
reads_or_fails store id offset before after (Ok size) usable held long answer = tt
reads_or_fails store id offset before after (Err (errors.NoSpace free)) usable held long answer = absurd answer
reads_or_fails store id offset before after (Err (errors.LastGeneration other)) usable held long answer = absurd answer
reads_or_fails store id offset before after (Err errors.NotFound) usable held long answer =
    let l = held.1 in
    let taken = read_taken store.layout id (stored store) (l.body, l.generation) (let some = len_some (stored store) id (l.body, l.generation) l.here in omega arith) usable l.here in
    let clash : Some NotFound ≡ None = sym answer.0 ∙ taken in absurd (cc)
reads_or_fails store id offset before after (Err errors.Empty) usable held long answer =
    let l = held.1 in
    let taken = read_taken store.layout id (stored store) (l.body, l.generation) (let some = len_some (stored store) id (l.body, l.generation) l.here in omega arith) usable l.here in
    let clash : Some Empty ≡ None = sym answer.0 ∙ taken in absurd (cc)
reads_or_fails store id offset before after (Err errors.Flash) usable held long answer = refl
reads_or_fails store id offset before after (Err (errors.Small need)) usable held long answer =
    let l = held.1 in
    let a = answer.0 in
    let same = sym l.here ∙ a.1.1 in
    let bodies : l.body ≡ a.0 = some_first l.body a.0 l.generation a.1.0 same in
    let needs : need ≡ length a.0 = a.2 in
    let lengths : length l.body ≡ length a.0 = ap length bodies in
    let fits = held.2 in
    let short : length before < need = answer.1 in
    let size_is = l.size_is in
    absurd (omega arith)

-- the part of the range that a read is given
borrowed_len : (range : List ℕ) (offset reach : ℕ) → length range ≡ reach → length (take (length range - offset) (drop offset range)) ≡ reach - offset
borrowed_len range offset reach long =
    let rest : take (length range - offset) (drop offset range) ≡ drop offset range = take_rest range offset in
    ap length rest ∙ length-drop offset range ∙ ap (λ (n : ℕ). n - offset) long

pub read_out : (tells : Type 0) (store new : StoreView) (record_id id offset : ℕ) (range after : List ℕ) (result : Result ℕ StoreError) → record_id ≡ id → IsReading tells id offset store
    → length range ≡ reach_of (room_of store.layout) → (tells → AnswersRead store record_id (take (length range - offset) (drop offset range)) after result)
    → (store.in_doubt ≡ false → ReadsExactly tells (λ size. parts_of (room_of store.layout) size) store new result) → OnlyLooks tells store new result
    → ReadOut tells store new id (take (length range - offset) (drop offset range)) after result
read_out tells store new record_id id offset range after result same reading long answer still leaves =
    let answered = λ (told : tells). subst (λ (n : ℕ). AnswersRead store n (take (length range - offset) (drop offset range)) after result) same (answer told) in
    record {
      ready = reading.ready;
      answer = answered;
      error = λ told. reads_or_fails store id offset (take (length range - offset) (drop offset range)) after result reading.usable (reading.held told)
          (borrowed_len range offset (reach_of (room_of store.layout)) long) (answered told);
      still = still;
      leaves = leaves;
    }
