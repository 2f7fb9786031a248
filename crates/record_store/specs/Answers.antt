-- What each answer of a store says.
use Rattle.std.specs.Prelude.{◌≡◌, ℕ, ◌+◌, ◌*◌, ◌<◌, ◌≤◌, ◌⊎◌, nat_lt, if◌then◌else◌, Bool, true, false, is_some, List, ◌++◌, length, drop, Some, None, Result, Ok, Err}
use Rattle.std.specs.FinMap.{get}
use Rattle.base_model.specs.Faults.{Rose}
use Rattle.flash_model.specs.declared.geometry.Geometry.{Geometry}
use Rattle.base_model.specs.Flash.{FlashState, StaysPowered, raised, next_count}
use Rattle.base_model.specs.Layout.{Layout, room_of}
use Rattle.record_model.specs.Records.{second_copies, parts_in}
use Rattle.record_model.specs.RecordMap.{Write, Clear, Read, Failed, NoSpace as no_space, NotFound as not_found, Empty as empty, LAST_GENERATION, refusal_of, after}
use Rattle.record_slots.specs.Slots.{Fits}
use Rattle.record_slots.specs.declared.scanning.ScanError.{ScanError}
use Rattle.record_slots.specs.declared.scanning.ScanError.TheVariants.{Size, Flash as flash_failed, Memory}
use Rattle.record_store.specs.Store.{StoreView, Pending, Idle, Writing, Clearing, stored, slots_for, changes_before_gate, map_after, pending_after, IsInDoubt}
use Rattle.record_store.specs.declared.errors.StoreError.{StoreError}
use Rattle.record_store.specs.declared.errors.StoreError.TheVariants.{NoSpace, LastGeneration, NotFound, Empty, Flash, Small}

-- what holds of a call that answered a fault, and of one that answered anything else
abbrev pub ByFault : {T : Type 0} → Result T StoreError → (fault other : Type 0) → Type 0
ByFault (Ok done) fault other = other
ByFault (Err (NoSpace free)) fault other = other
ByFault (Err (LastGeneration id)) fault other = other
ByFault (Err NotFound) fault other = other
ByFault (Err Empty) fault other = other
ByFault (Err Flash) fault other = fault
ByFault (Err (Small need)) fault other = other

-- a fault is answered only where the flash's count of faults rose, and every other answer leaves it
abbrev pub HasFaultsOf : {T : Type 0} → ℕ → ℕ → Result T StoreError → Type 0
HasFaultsOf before after result = ByFault result ((before ≤ after) × Rose before after) (after ≡ before)

-- an error of a write: exactly by the map, which it leaves
abbrev pub RefusesWrite : StoreView → StoreView → ℕ → List ℕ → StoreError → Type 0
RefusesWrite old new id bytes (NoSpace free) =
    (refusal_of old.layout (Write id bytes) (stored old) ≡ Some no_space)
    × (free + parts_in (room_of old.layout) (stored old) ≡ old.layout.slots) × (stored new ≡ stored old)
RefusesWrite old new id bytes (LastGeneration found) =
    (refusal_of old.layout (Write id bytes) (stored old) ≡ Some Failed) × (found ≡ id)
    × ((body : List ℕ) × (get (stored old) id ≡ Some (body, LAST_GENERATION))) × (stored new ≡ stored old)
RefusesWrite old new id bytes NotFound = ⊥
RefusesWrite old new id bytes Empty = ⊥
RefusesWrite old new id bytes Flash = Unit {0}
RefusesWrite old new id bytes (Small need) = ⊥

-- an error of a clear
abbrev pub RefusesClear : StoreView → StoreView → ℕ → StoreError → Type 0
RefusesClear old new id (NoSpace free) = ⊥
RefusesClear old new id (LastGeneration found) = ⊥
RefusesClear old new id NotFound = (refusal_of old.layout (Clear id) (stored old) ≡ Some not_found) × (stored new ≡ stored old)
RefusesClear old new id Empty = ⊥
RefusesClear old new id Flash = Unit {0}
RefusesClear old new id (Small need) = ⊥

-- the answer of a whole write or clear: Ok exactly where the map takes it
abbrev pub AnswersWrite : StoreView → StoreView → ℕ → List ℕ → Result (Unit {0}) StoreError → Type 0
AnswersWrite old new id bytes (Ok done) =
    (refusal_of old.layout (Write id bytes) (stored old) ≡ None) × (stored new ≡ after old.layout (Write id bytes) (stored old))
AnswersWrite old new id bytes (Err error) = RefusesWrite old new id bytes error

abbrev pub AnswersClear : StoreView → StoreView → ℕ → Result (Unit {0}) StoreError → Type 0
AnswersClear old new id (Ok done) =
    (refusal_of old.layout (Clear id) (stored old) ≡ None) × (stored new ≡ after old.layout (Clear id) (stored old))
AnswersClear old new id (Err error) = RefusesClear old new id error

-- the answer of a start: what is pending is the whole command, and the map is as it was
abbrev pub StartsWrite : StoreView → StoreView → ℕ → List ℕ → Result (Unit {0}) StoreError → Type 0
StartsWrite old new id bytes (Ok done) =
    (refusal_of old.layout (Write id bytes) (stored old) ≡ None)
    × (new.pending ≡ Writing id bytes (slots_for new (length bytes)) (is_some (get (stored old) id)) 0)
StartsWrite old new id bytes (Err error) = RefusesWrite old new id bytes error

abbrev pub StartsClear : StoreView → StoreView → ℕ → Result (Unit {0}) StoreError → Type 0
StartsClear old new id (Ok done) =
    (refusal_of old.layout (Clear id) (stored old) ≡ None) × (new.pending ≡ Clearing id)
StartsClear old new id (Err error) = RefusesClear old new id error

-- one change was made: the map and what is pending are those after it, and true is answered at the last one. One that the
-- flash failed leaves the map as before it or as after it, and nothing pending
abbrev pub IsStep : StoreView → StoreView → Result Bool StoreError → Type 0
IsStep old new (Ok last) = stored new ≡ map_after old.layout old.pending (stored old)
IsStep old new (Err Flash) = (stored new ≡ stored old) ⊎ (stored new ≡ map_after old.layout old.pending (stored old))
IsStep old new (Err (NoSpace free)) = ⊥
IsStep old new (Err (LastGeneration id)) = ⊥
IsStep old new (Err NotFound) = ⊥
IsStep old new (Err Empty) = ⊥
IsStep old new (Err (Small need)) = ⊥

abbrev pub HasStepped : StoreView → StoreView → Result Bool StoreError → Type 0
HasStepped old new (Ok last) =
    (new.in_doubt ≡ false) × (new.pending ≡ pending_after old.layout old.pending) × ((last ≡ true) ⊎ (last ≡ false × (new.pending ≡ Idle → ⊥)))
    × (last ≡ true → new.pending ≡ Idle)
HasStepped old new (Err error) = IsInDoubt new

-- the answers of the calls that only look
abbrev pub AnswersRead : StoreView → ℕ → List ℕ → List ℕ → Result ℕ StoreError → Type 0
AnswersRead old id before now (Ok size) =
    (body : List ℕ) × ((generation : ℕ) × (get (stored old) id ≡ Some (body, generation)))
    × (size ≡ length body) × (now ≡ body ++ drop size before)
AnswersRead old id before now (Err Empty) = (refusal_of old.layout (Read id) (stored old) ≡ Some empty) × (now ≡ before)
AnswersRead old id before now (Err NotFound) = (refusal_of old.layout (Read id) (stored old) ≡ Some not_found) × (now ≡ before)
AnswersRead old id before now (Err (Small need)) =
    ((body : List ℕ) × ((generation : ℕ) × (get (stored old) id ≡ Some (body, generation))) × (need ≡ length body))
    × (length before < need) × (now ≡ before)
AnswersRead old id before now (Err Flash) = now ≡ before
AnswersRead old id before now (Err (NoSpace free)) = ⊥
AnswersRead old id before now (Err (LastGeneration found)) = ⊥

abbrev pub AnswersLength : StoreView → ℕ → Result ℕ StoreError → Type 0
AnswersLength old id (Ok size) = (body : List ℕ) × ((generation : ℕ) × (get (stored old) id ≡ Some (body, generation))) × (size ≡ length body)
AnswersLength old id (Err NotFound) = get (stored old) id ≡ None
AnswersLength old id (Err Flash) = Unit {0}
AnswersLength old id (Err Empty) = ⊥
AnswersLength old id (Err (Small need)) = ⊥
AnswersLength old id (Err (NoSpace free)) = ⊥
AnswersLength old id (Err (LastGeneration found)) = ⊥

-- a fault is the only error of some calls
abbrev pub FailsByFlash : {T : Type 0} → Result T StoreError → Type 0
FailsByFlash (Ok done) = Unit {0}
FailsByFlash (Err error) = error ≡ Flash

-- why a flash is refused, with what it was and what is handed back
abbrev pub RefusesFlash : Geometry → FlashState → FlashState → ScanError → Type 0
RefusesFlash geometry old back (Size found sector) =
    (Fits geometry old → ⊥) × (found ≡ old.size) × (sector ≡ old.sector_size) × (back ≡ old)
RefusesFlash geometry old back flash_failed = Fits geometry old × (old.faults ≤ back.faults) × Rose old.faults back.faults
RefusesFlash geometry old back Memory = Fits geometry old × (back ≡ old)

-- A call ends at its first fault: nothing is asked of the flash behind it, so that the fault is the only one. Up to there power stays. The flash is not
-- restarted, and no call found it without power that had it at the start
pub record EndsAtFault {T : Type 0} (old new : FlashState) (result : Result T StoreError) : Type 0 where
  pub once : ByFault result (new.faults ≡ next_count old.faults) (Unit {0})
  pub lit : StaysPowered old new
  pub same_power : ByFault result (Unit {0}) (new.powered ≡ old.powered)
  pub later : ByFault result (Unit {0}) (old.steps ≤ new.steps)

-- a flash was at most read
pub record OnlyReadsFlash (tells : Type 0) (old new : FlashState) : Type 0 where
  pub told : tells → new.told ≡ old.told
  pub steps : new.steps ≡ old.steps
  pub power : new.powered ≡ old.powered

-- a store that knows its records answers by as many reads of its flash as this, and every refusal by itself
abbrev pub ReadsExactly : {T : Type 0} → Type 0 → (T → ℕ) → StoreView → StoreView → Result T StoreError → Type 0
ReadsExactly tells count old new (Ok done) = OnlyReadsFlash tells old.flash new.flash × (new.flash.reads ≡ raised (count done) old.flash.reads)
ReadsExactly tells count old new (Err (NoSpace free)) = new ≡ old
ReadsExactly tells count old new (Err (LastGeneration id)) = new ≡ old
ReadsExactly tells count old new (Err NotFound) = new ≡ old
ReadsExactly tells count old new (Err Empty) = new ≡ old
ReadsExactly tells count old new (Err Flash) = OnlyReadsFlash tells old.flash new.flash
ReadsExactly tells count old new (Err (Small need)) = new ≡ old

-- a store that knows its records answers by itself: what holds where it is done is `done`, and a refusal leaves it as it was
abbrev pub AnswersByItself : {T : Type 0} → (done : Type 0) → StoreView → StoreView → Result T StoreError → Type 0
AnswersByItself done old new (Ok answer) = done
AnswersByItself done old new (Err NotFound) = new ≡ old
AnswersByItself done old new (Err error) = ⊥

-- the upright slots of a store's flash that are not the first slot of their identifier's record
abbrev pub copies_in : StoreView → ℕ
copies_in store = second_copies store.layout.slot_size store.layout.slots store.flash.told.image

-- those that a store in doubt ends before all else; one that knows its records has none to end
abbrev pub copies_of : StoreView → ℕ
copies_of store = if store.in_doubt then copies_in store else 0

-- those were ended, by one change each, and no other change was made
abbrev pub EndsCopies : {T : Type 0} → StoreView → StoreView → Result T StoreError → Type 0
EndsCopies old new result = ByFault result (Unit {0}) (new.flash.steps ≡ old.flash.steps + copies_of old)

-- the count of reads of a store's flash once the store knows its records: one in doubt reads head and tail mark of each slot
abbrev pub reads_to_know : StoreView → ℕ
reads_to_know store = if store.in_doubt then raised (2 * store.layout.slots) store.flash.reads else store.flash.reads

-- the flash was read so often, and so many times more where the call is done
abbrev pub TakesReads : {T : Type 0} → (T → ℕ → ℕ) → StoreView → StoreView → Result T StoreError → Type 0
TakesReads more old new (Ok done) = new.flash.reads ≡ more done (reads_to_know old)
TakesReads more old new (Err (NoSpace free)) = new.flash.reads ≡ reads_to_know old
TakesReads more old new (Err (LastGeneration id)) = new.flash.reads ≡ reads_to_know old
TakesReads more old new (Err NotFound) = new.flash.reads ≡ reads_to_know old
TakesReads more old new (Err Empty) = new.flash.reads ≡ reads_to_know old
TakesReads more old new (Err Flash) = Unit {0}
TakesReads more old new (Err (Small need)) = new.flash.reads ≡ reads_to_know old

-- those that stand while a write is pending: one, once its gate is open and the older record is not yet killed
abbrev pub copies_pending : Layout → Pending → ℕ
copies_pending layout Idle = 0
copies_pending layout (Writing id bytes slots replaces made) = if nat_lt (changes_before_gate layout bytes) made then 1 else 0
copies_pending layout (Clearing id) = 0

-- a fault
abbrev pub is_flash : StoreError → Bool
is_flash (NoSpace free) = false
is_flash (LastGeneration id) = false
is_flash NotFound = false
is_flash Empty = false
is_flash Flash = true
is_flash (Small need) = false
