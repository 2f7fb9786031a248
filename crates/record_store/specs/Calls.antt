-- What each kind of call leaves of a store and of its flash, whatever it answers.
use Rattle.std.specs.Prelude.{◌≡◌, ◌+◌, ◌≤◌, true, false, Result, Err, OnOk, MatchResult}
use Rattle.base_model.specs.Flash.{LosesOnlyByChange}
use Rattle.record_model.specs.RecordMap.{Command, after, changes_of}
use Rattle.record_store.specs.Store.{StoreView, Idle, stored, KeepsMap, KeepsOrMakes, DividesAlike, IsReady, IsInDoubt}
use Rattle.record_store.specs.Answers.{ByFault, HasFaultsOf, EndsAtFault, EndsCopies, copies_of}
use Rattle.record_store.specs.declared.errors.StoreError.{StoreError}

-- A call that only looks. A store in doubt first looks at its slots again, and ends a second copy by one change: power lost
-- in it leaves the records
pub record OnlyLooks {T : Type 0} (tells : Type 0) (old new : StoreView) (result : Result T StoreError) : Type 0 where
  pub kept : tells → KeepsMap old new
  pub few : tells → new.flash.steps ≤ old.flash.steps + 1
  pub ended : tells → EndsCopies old new result
  pub at_most : tells → new.flash.steps ≤ old.flash.steps + copies_of old
  pub doubt : ByFault result (IsInDoubt new) (IsReady new)
  pub idle : new.pending ≡ Idle
  pub equivalent : DividesAlike old new
  pub power : LosesOnlyByChange old.flash new.flash
  pub cause : HasFaultsOf old.flash.faults new.flash.faults result
  pub ends : EndsAtFault old.flash new.flash result

-- the start of a write or of a clear, which looks too and makes no other change. Where it is done, what is pending is what the start says
pub record OnlyStarts (tells : Type 0) (old new : StoreView) (result : Result (Unit {0}) StoreError) : Type 0 where
  pub kept : tells → KeepsMap old new
  pub few : tells → new.flash.steps ≤ old.flash.steps + 1
  pub ended : tells → EndsCopies old new result
  pub at_most : tells → new.flash.steps ≤ old.flash.steps + copies_of old
  pub doubt : MatchResult result (λ _. new.in_doubt ≡ false) (λ error. ByFault {T = Unit {0}} (Err error) (IsInDoubt new) (IsReady new))
  pub equivalent : DividesAlike old new
  pub power : LosesOnlyByChange old.flash new.flash
  pub cause : HasFaultsOf old.flash.faults new.flash.faults result
  pub ends : EndsAtFault old.flash new.flash result

-- what a whole write or clear leaves, whatever it answers: nothing of it is pending. It ends at its first fault, and brings no
-- power back
pub record IsOver (old new : StoreView) (result : Result (Unit {0}) StoreError) : Type 0 where
  pub doubt : ByFault result (IsInDoubt new) (IsReady new)
  pub idle : new.pending ≡ Idle
  pub equivalent : DividesAlike old new
  pub power : LosesOnlyByChange old.flash new.flash
  pub powered : OnOk result (new.flash.powered ≡ true)
  pub cause : HasFaultsOf old.flash.faults new.flash.faults result
  pub ends : EndsAtFault old.flash new.flash result

-- A whole write or clear. Power lost at any step on the way leaves the records from before, or those that an Ok makes. A
-- store in doubt first ends a second copy, by one change. Where it is answered, and not by a fault, the flash took exactly the
-- changes that the map gives it beside those
pub record Changes (tells : Type 0) (old new : StoreView) (command : Command) (result : Result (Unit {0}) StoreError) : Type 0 where
  pub crash : tells → KeepsOrMakes old new (after old.layout command (stored old))
  pub steps : tells → ByFault result (Unit {0}) (new.flash.steps ≡ old.flash.steps + (copies_of old + changes_of old.layout command (stored old)))
  pub few : tells → new.flash.steps ≤ old.flash.steps + 1 + changes_of old.layout command (stored old)
  pub at_most : tells → new.flash.steps ≤ old.flash.steps + (copies_of old + changes_of old.layout command (stored old))
  pub over : IsOver old new result
