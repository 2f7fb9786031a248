-- What a scan leaves.
use Rattle.std.specs.Prelude.{◌≡◌, ℕ, ◌+◌, ◌*◌, ◌<◌, ◌≤◌, true, Result, OnOk, OnErr}
use Rattle.base_model.specs.Faults.{HasCause}
use Rattle.base_model.specs.Flash.{Told, FlashState, MayChange, Leaves, LosesOnlyByChange, StaysPowered, raised, next_count}
use Rattle.record_model.specs.Records.{entry_at, stored_in, OnlyFirstUp, NearlyOnlyFirstUp, second_copies}
use Rattle.record_slots.specs.declared.found.Found.{Found}
use Rattle.record_slots.specs.Listed.{AreListed, free_slots, first_records}

-- power lost on the way leaves the records of the image at the start
abbrev pub KeepsRecords : ℕ → ℕ → Told → Told → Type 0
KeepsRecords slot_size slots old new =
    Leaves old new (λ image. stored_in slot_size slots image ≡ stored_in slot_size slots old.image)

-- where at most one upright slot was not the first slot of its identifier's record, power lost on the way leaves at most one
abbrev pub StaysNearly : ℕ → ℕ → Told → Told → Type 0
StaysNearly slot_size slots old new =
    Leaves old new (λ image. NearlyOnlyFirstUp slot_size slots old.image → NearlyOnlyFirstUp slot_size slots image)

-- from one told flash to another by kills of slots below n, each of a greater slot than the one before. One that failed, or that power
-- cut, may have left any byte in its place
pub data KillsBelow (slot_size : ℕ) (first : Told) : ℕ → Told → Type 0 where
  NoKill : (n : ℕ) → KillsBelow slot_size first n first
  Kill : (slot n : ℕ) (before last : Told) → KillsBelow slot_size first slot before → slot < n → MayChange (slot * slot_size + 1) 1 before last
      → KillsBelow slot_size first n last

-- no more changes were made than there were upright slots that are not the first slot of their identifier's record
abbrev pub ChangesFew : ℕ → ℕ → FlashState → FlashState → Type 0
ChangesFew slot_size slots old new = new.steps ≤ old.steps + second_copies slot_size slots old.told.image

-- what was found are the records of the old image with their places, which are those of the new one too; there only first
-- slots of records are upright, and each slot that is not upright any more took one change. The free slots are those of the
-- new image, and so those of the old one in which no first record stands
pub record IsRecovered (slot_size slots : ℕ) (old new : FlashState) (found : Found) : Type 0 where
  pub before : AreListed (entry_at slot_size slots old.told.image) slots found.ids.items found.places.items
  pub after : AreListed (entry_at slot_size slots new.told.image) slots found.ids.items found.places.items
  pub only : OnlyFirstUp slot_size slots new.told.image
  pub free : found.free.items ≡ free_slots (entry_at slot_size slots new.told.image) slots
  pub free_before : found.free.items ≡ free_slots (first_records (entry_at slot_size slots old.told.image) slots) slots
  pub steps : new.steps ≡ old.steps + second_copies slot_size slots old.told.image

-- of a flash that was scanned the size and the size of its sectors stay, head and tail mark of each slot are read once,
-- power is lost only by a change and not brought back, no call found the flash without it that had it at the start, and a
-- failure has its cause, one fault, after which the flash is left alone
pub record KeepsShape {T E : Type 0} (slots : ℕ) (old new : FlashState) (result : Result T E) : Type 0 where
  pub size : new.size ≡ old.size
  pub sector_size : new.sector_size ≡ old.sector_size
  pub reads : old.reads ≤ new.reads
  pub later : OnOk result (old.steps ≤ new.steps)
  pub counted : OnOk result (new.reads ≡ raised (2 * slots) old.reads)
  pub power : LosesOnlyByChange old new
  pub powered : OnOk result (new.powered ≡ true)
  pub lit : StaysPowered old new
  pub cause : HasCause old.faults new.faults result
  pub once : OnErr result (new.faults ≡ next_count old.faults)
