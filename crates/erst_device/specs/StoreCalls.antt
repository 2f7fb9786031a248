-- What a call of the store says, all of it as one fact.
use Rattle.std.specs.Prelude.{◌≡◌, ℕ, ◌+◌, ◌*◌, ◌≤◌, Bool, true, false, List, length, Option, Result, OnOk, IfOk}
use Rattle.std.specs.FinMap.{len}
use Rattle.base_model.specs.Flash.{LosesOnlyByChange, raised}
use Rattle.base_model.specs.Layout.{room_of}
use Rattle.record_model.specs.Records.{parts_of}
use Rattle.record_model.specs.RecordMap.{IsNextAbove}
use Rattle.record_store.specs.Store.{StoreView, Clearing, stored, map_after, IsReady, DividesAlike, KeepsOrMakes, Writing}
use Rattle.record_store.specs.Answers.{HasFaultsOf, EndsAtFault, StartsWrite, StartsClear, IsStep, HasStepped, AnswersRead, FailsByFlash, ReadsExactly, AnswersByItself, TakesReads}
use Rattle.record_store.specs.Calls.{OnlyLooks, OnlyStarts}
use Rattle.record_store.specs.declared.errors.StoreError.{StoreError}

-- the start of a write of a record
pub record StartedWrite (tells : Type 0) (old new : StoreView) (id : ℕ) (bytes : List ℕ) (result : Result (Unit {0}) StoreError) : Type 0 where
  pub answer : tells → StartsWrite old new id bytes result
  pub pending : OnOk result ((slots : List ℕ) × ((replaces : Bool) × (new.pending ≡ Writing id bytes slots replaces 0)))
  pub still : old.in_doubt ≡ false → ReadsExactly tells (λ _. 2 * parts_of (room_of old.layout) (length bytes)) old new result
  pub reads : TakesReads (λ _. raised (2 * parts_of (room_of old.layout) (length bytes))) old new result
  pub leaves : OnlyStarts tells old new result

-- the start of the clearing of an identifier
pub record StartedClear (tells : Type 0) (old new : StoreView) (id : ℕ) (result : Result (Unit {0}) StoreError) : Type 0 where
  pub answer : tells → StartsClear old new id result
  pub pending : OnOk result (new.pending ≡ Clearing id)
  pub still : old.in_doubt ≡ false → AnswersByItself (new.flash ≡ old.flash) old new result
  pub reads : TakesReads (λ _ reads. reads) old new result
  pub leaves : OnlyStarts tells old new result

-- the next change of what is pending: power lost in it leaves the records from before it or those after it
pub record Stepped (tells : Type 0) (old new : StoreView) (result : Result Bool StoreError) : Type 0 where
  pub answer : tells → IsStep old new result
  pub stepped : HasStepped old new result
  pub crash : tells → KeepsOrMakes old new (map_after old.layout old.pending (stored old))
  pub one : OnOk result (new.flash.steps ≡ old.flash.steps + 1)
  pub at_most : new.flash.steps ≤ old.flash.steps + 1
  pub reads : new.flash.reads ≡ old.flash.reads
  pub error : FailsByFlash result
  pub equivalent : DividesAlike old new
  pub power : LosesOnlyByChange old.flash new.flash
  pub powered : OnOk result (new.flash.powered ≡ true)
  pub cause : HasFaultsOf old.flash.faults new.flash.faults result
  pub ends : EndsAtFault old.flash new.flash result

-- the read of a record to the start of some bytes, by a store that knows its records. The record is one of those, and is not longer than
-- the bytes: so the one error is a fault
pub record ReadOut (tells : Type 0) (old new : StoreView) (id : ℕ) (before after : List ℕ) (result : Result ℕ StoreError) : Type 0 where
  pub ready : IsReady old
  pub answer : tells → AnswersRead old id before after result
  pub error : tells → FailsByFlash result
  pub still : old.in_doubt ≡ false → ReadsExactly tells (λ size. parts_of (room_of old.layout) size) old new result
  pub leaves : OnlyLooks tells old new result

-- the look for the least identifier above a cursor
pub record FoundNext (tells : Type 0) (old new : StoreView) (cursor : ℕ) (result : Result (Option ℕ) StoreError) : Type 0 where
  pub answer : tells → IfOk result (IsNextAbove cursor (stored old))
  pub error : FailsByFlash result
  pub still : old.in_doubt ≡ false → AnswersByItself (new ≡ old) old new result
  pub reads : TakesReads (λ _ reads. reads) old new result
  pub leaves : OnlyLooks tells old new result

-- the count of the records
pub record Counted (tells : Type 0) (old new : StoreView) (result : Result ℕ StoreError) : Type 0 where
  pub answer : tells → IfOk result (λ n. n ≡ len (stored old))
  pub within : IfOk result (λ n. n ≤ old.layout.slots)
  pub error : FailsByFlash result
  pub still : old.in_doubt ≡ false → AnswersByItself (new ≡ old) old new result
  pub reads : TakesReads (λ _ reads. reads) old new result
  pub leaves : OnlyLooks tells old new result
