-- How far the third pass of a scan has come.
use Rattle.std.specs.Prelude.{◌≡◌, ℕ, ◌+◌, ◌-◌, ◌<◌, ◌≤◌, true, Result, OnOk, OnErr}
use Rattle.base_model.specs.Faults.{HasCause}
use Rattle.base_model.specs.Flash.{FlashState, LosesOnlyByChange, StaysPowered, next_count}
use Rattle.record_model.specs.Records.{entry_at, slot_at, is_up, second_copies}
use Rattle.record_slots.specs.declared.found.Found.{Found}
use Rattle.record_slots.specs.Listed.{AreListed, HasFirst}

-- of the first n slots only those that were found are upright; the others are seen as they were
pub record IsSettled (slot_size slots n : ℕ) (old now : FlashState) (found : Found) : Type 0 where
  pub listed : AreListed (entry_at slot_size slots now.told.image) slots found.ids.items found.places.items
  pub settled : (k : ℕ) → k < n → is_up (slot_size - 64) slots (slot_at slot_size now.told.image k) ≡ true → HasFirst found.places.items k
  pub rest : (k : ℕ) → n ≤ k → slot_at slot_size now.told.image k ≡ slot_at slot_size old.told.image k

-- one change was made for each upright slot that is one no more
abbrev pub CountsCopies : ℕ → ℕ → FlashState → FlashState → Type 0
CountsCopies slot_size slots old now =
    now.steps + second_copies slot_size slots now.told.image ≡ old.steps + second_copies slot_size slots old.told.image

-- of a flash that was changed and not read: what stays, and power, which no change that was made has lost. No change comes
-- after one that failed
pub record OnlyChanges {T E : Type 0} (old new : FlashState) (result : Result T E) : Type 0 where
  pub size : new.size ≡ old.size
  pub sector_size : new.sector_size ≡ old.sector_size
  pub reads : new.reads ≡ old.reads
  pub power : LosesOnlyByChange old new
  pub same_power : OnOk result (new.powered ≡ old.powered)
  pub later : OnOk result (old.steps ≤ new.steps)
  pub lit : StaysPowered old new
  pub cause : HasCause old.faults new.faults result
  pub once : OnErr result (new.faults ≡ next_count old.faults)
