-- What a scan finds is a list that a store can keep.
use Rattle.std.proofs.Common.{◌≡◌, ℕ, ◌≤◌, length, arith}
use Rattle.std.specs.Prelude.{vec_capacity}
use Rattle.std.specs.VecDeque.{deque_capacity}
use Rattle.base_model.specs.Flash.{FlashState}
use Rattle.base_model.specs.Layout.{Layout}
use Rattle.record_slots.specs.declared.found.Found.{Found}
use Rattle.record_slots.specs.Listed.{AreSlots, IsIndex}
use Rattle.record_slots.specs.Recovered.{IsRecovered}
use Rattle.record_slots.specs.Rooms.{HasRoom, SameRoom}
use Rattle.record_store.specs.Index.{IsListing}
use Rattle.record_store.specs.Kept.{KnowsSlots}

-- in the memory of an earlier scan
pub IsListing-rescanned : (slots size : ℕ) (old new : Found) → IsIndex slots size new.ids.items new.places.items → AreSlots slots new.free.items
    → length new.ids.items ≤ slots → SameRoom old new → HasRoom slots old → IsListing slots size new
IsListing-rescanned slots size old new index free few same room = record {
  index = index;
  free = free;
  few = few;
  room = record {
    ids = let was : slots ≤ vec_capacity old.ids = room.ids in let equal : vec_capacity new.ids ≡ vec_capacity old.ids = same.ids in omega arith;
    places = let was : slots ≤ vec_capacity old.places = room.places in let equal : vec_capacity new.places ≡ vec_capacity old.places = same.places in omega arith;
    free = let was : slots ≤ deque_capacity old.free = room.free in let equal : deque_capacity new.free ≡ deque_capacity old.free = same.free in omega arith;
    looks = let was : slots ≤ vec_capacity old.looks = room.looks in let equal : vec_capacity new.looks ≡ vec_capacity old.looks = same.looks in omega arith;
  };
}

-- the lists are those of the flash that the scan left
pub KnowsSlots-recovered : (layout : Layout) (old new : FlashState) (found : Found) → IsRecovered layout.slot_size layout.slots old new found → KnowsSlots layout new.told.image found
KnowsSlots-recovered layout old new found is = record { list = record { listed = is.after; free = is.free }; only = is.only }
