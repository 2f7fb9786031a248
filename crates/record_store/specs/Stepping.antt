-- What one change of what is pending leaves.
use Rattle.std.specs.Prelude.{◌≡◌, ◌⊎◌, Result, Ok, Err, IfOk}
use Rattle.flash_model.specs.declared.flash.FlashFailed.{FlashFailed}
use Rattle.flash_model.specs.Layouts.{layout_of}
use Rattle.base_model.specs.Flash.{FlashState, Leaves, IsOneChange, StaysPowered}
use Rattle.record_model.specs.Records.{NearlyOnlyFirstUp}
use Rattle.record_store.specs.Store.{records_of, map_after}
use Rattle.record_store.specs.Kept.{Kept, HasMade, pending_of}
use Rattle.record_store.specs.declared.work.Begun.{Begun}

-- the next change of what is pending was asked for. An Ok has made it, with these lists; power lost in it leaves the records
-- from before it or those after it; and at most one upright slot is no record's first
pub record MakesChange (tells : Type 0) (kept : Kept) (old new : FlashState) (work : Begun) (result : Result Begun FlashFailed) : Type 0 where
  pub made : IfOk result (HasMade tells kept old.told.image new.told.image work)
  pub crash : tells → Leaves old.told new.told (λ image.
      (records_of (layout_of kept.geometry) image ≡ records_of (layout_of kept.geometry) old.told.image)
      ⊎ (records_of (layout_of kept.geometry) image
      ≡ map_after (layout_of kept.geometry) (pending_of (layout_of kept.geometry) kept.buffer work) (records_of (layout_of kept.geometry) old.told.image)))
  pub spare : tells → NearlyOnlyFirstUp kept.geometry.slot_size kept.geometry.slots new.told.image
  pub change : IsOneChange old new result
  pub lit : StaysPowered old new

-- a change that leaves this pending, as an answer that tells it
abbrev pub leaving : Result (Unit {0}) FlashFailed → (next : Begun) → Result Begun FlashFailed
leaving (Ok done) next = Ok next
leaving (Err failed) next = Err failed
