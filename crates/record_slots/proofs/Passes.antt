-- How far each pass of a scan has come.
use Rattle.std.proofs.Common.{◌≡◌, ℕ, ◌-◌, ◌*◌, ◌<◌, ◌≤◌, Bool, true, List, length, vec_len}
use Rattle.std.specs.Prelude.{vec_capacity, not}
use Rattle.std.specs.List.{list_any}
use Rattle.std.specs.VecDeque.{deque_len, deque_capacity}
use Rattle.base_model.specs.Flash.{FlashState, StaysPowered, raised}
use Rattle.record_model.specs.Records.{entry_at, slot_at}
use Rattle.record_slots.specs.declared.found.Found.{Found}
use Rattle.record_slots.specs.declared.found.Look.{Look}
use Rattle.record_slots.specs.Listed.{AreListed, IsIndex, list_below, takes}
use Rattle.record_slots.specs.Looks.{AreSeen, AreMarked}
use Rattle.record_slots.specs.Recovered.{KeepsRecords, StaysNearly, KillsBelow}
use Rattle.record_slots.specs.Settling.{IsSettled, CountsCopies}

-- the first n slots were looked at, and nothing was changed
pub record HasLooked (tells : Type 0) (slot_size n first_room now_room : ℕ) (looks : List Look) (old now : FlashState) : Type 0 where
  pub long : length looks ≡ n
  pub capacity : now_room ≡ first_room
  pub told : tells → now.told ≡ old.told
  pub flash_size : now.size ≡ old.size
  pub sector_size : now.sector_size ≡ old.sector_size
  pub steps : now.steps ≡ old.steps
  pub power : now.powered ≡ old.powered
  pub reads : old.reads ≤ now.reads
  pub unread : n ≡ 0 → now.reads ≡ old.reads
  pub counted : 0 < n → now.reads ≡ raised (2 * n) old.reads
  pub powered : 0 < n → now.powered ≡ true
  pub lit : StaysPowered old now
  pub faults : now.faults ≡ old.faults
  pub seen : tells → AreSeen (slot_at slot_size old.told.image) n looks

-- the records of the first n slots were listed
pub record HasListed (slots slot_size n : ℕ) (first found : Found) : Type 0 where
  pub index : IsIndex slots slot_size found.ids.items found.places.items
  pub few : vec_len found.ids ≤ n
  pub ids : vec_capacity found.ids ≡ vec_capacity first.ids
  pub places : vec_capacity found.places ≡ vec_capacity first.places
  pub free : found.free ≡ first.free
  pub looks : found.looks ≡ first.looks
  pub listed : (image : List ℕ) → length image ≡ slot_size * slots → AreSeen (slot_at slot_size image) slots first.looks.items
      → AreListed (entry_at slot_size slots image) n found.ids.items found.places.items

-- the first n slots were settled, and the records kept
pub record HasSettled (tells : Type 0) (slots slot_size n : ℕ) (found : Found) (old now : FlashState) : Type 0 where
  pub flash_size : now.size ≡ old.size
  pub sector_size : now.sector_size ≡ old.sector_size
  pub reads : now.reads ≡ old.reads
  pub power : now.powered ≡ old.powered
  pub lit : StaysPowered old now
  pub later : old.steps ≤ now.steps
  pub faults : now.faults ≡ old.faults
  pub crash : tells → KeepsRecords slot_size slots old.told now.told
  pub nearly : tells → StaysNearly slot_size slots old.told now.told
  pub order : tells → KillsBelow slot_size old.told n now.told
  pub counted : tells → CountsCopies slot_size slots old now
  pub settled : tells → IsSettled slot_size slots n old now found

-- the marks that pass a test were set
pub record HasMarked (n : ℕ) (test : ℕ → Bool) (marks : List Bool) : Type 0 where
  pub long : length marks ≡ 1024
  pub marked : AreMarked n test marks

-- the free ones of the first n slots were listed
pub record HasFreed (slot_size n : ℕ) (first found : Found) : Type 0 where
  pub ids : found.ids ≡ first.ids
  pub places : found.places ≡ first.places
  pub looks : found.looks ≡ first.looks
  pub capacity : deque_capacity found.free ≡ deque_capacity first.free
  pub few : deque_len found.free ≤ n
  pub free : found.free.items ≡ list_below (λ slot. not (list_any (λ place. takes (slot_size - 64) place slot) first.places.items)) n
