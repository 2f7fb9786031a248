-- The blocks of a handover, over a map that says where their window lies.
use Rattle.std.specs.Prelude.{◌≡◌, ℕ, ◌+◌, ◌≤◌, List, Vec, Option, Some, None, option_to_list, IfSome, [], ◌∷◌, ◌++◌, length, map, All, vec_len, vec_capacity}
use Rattle.std.specs.VecDeque.{deque_len, deque_capacity}
use Rattle.std.specs.declared.alloc.Global.{Global}
use Rattle.ghes_ack.specs.declared.window.BlockWindow.{BlockWindow}
use Rattle.ghes_ack.specs.declared.window_blocks.Blocks.{Blocks}

-- how many blocks are at work apart from the one taken last
abbrev pub count_of : Option (Vec ℕ Global) → ℕ
count_of None = 0
count_of (Some block) = 1

abbrev pub bytes_of : Option (Vec ℕ Global) → Option (List ℕ)
bytes_of None = None
bytes_of (Some block) = Some block.items

-- a buffer takes the longest block
abbrev pub IsWide : ℕ → Vec ℕ Global → Type 0
IsWide len v = len ≤ vec_capacity v

-- 66 places, so many of them in hand: for blocks that wait, of which there are at most 64, for the one at work and for the
-- one taken last, each with room for the longest block
pub record HasRoom {M : Type 0} (window_of : M → BlockWindow) (in_hand : ℕ) (b : Blocks M) : Type 0 where
  pub places : deque_len b.waiting + count_of b.at_work + vec_len b.spare + in_hand ≡ 65
  pub few : deque_len b.waiting ≤ 64
  pub counted : length b.waiting.items ≡ deque_len b.waiting
  pub queue : 64 ≤ deque_capacity b.waiting
  pub stack : 65 ≤ vec_capacity b.spare
  pub waiting_room : All (IsWide (window_of b.map).len) b.waiting.items
  pub work_room : IfSome b.at_work (IsWide (window_of b.map).len)
  pub spare_room : All (IsWide (window_of b.map).len) b.spare.items
  pub last_room : IsWide (window_of b.map).len b.last

-- right after a start
pub record IsEmpty {M : Type 0} (b : Blocks M) : Type 0 where
  pub waiting : b.waiting.items ≡ []
  pub at_work : b.at_work ≡ None
  pub filled : b.filled ≡ 0
  pub copied : b.copied ≡ 0
  pub last : b.last.items ≡ []

-- the block at work, if any, and those that wait, while the firmware holds the block
abbrev pub held_of : {M : Type 0} → Blocks M → List (List ℕ)
held_of b = option_to_list (bytes_of b.at_work) ++ map (λ v. v.items) b.waiting.items

-- all but the blocks that are not published is as before
pub record SameButHeld {M : Type 0} (old new : Blocks M) : Type 0 where
  pub map : new.map ≡ old.map
  pub filled : new.filled ≡ old.filled
  pub copied : new.copied ≡ old.copied
  pub last : new.last ≡ old.last

-- there was no block
pub record HoldsNone {M : Type 0} (window_of : M → BlockWindow) (old new : Blocks M) : Type 0 where
  pub held : held_of old ≡ []
  pub at_work : new.at_work ≡ None
  pub waiting : new.waiting.items ≡ []
  pub same : SameButHeld old new
  pub room : HasRoom window_of 0 new

-- the oldest block is in hand
pub record TakesOut {M : Type 0} (window_of : M → BlockWindow) (old new : Blocks M) (block : Vec ℕ Global) : Type 0 where
  pub held : held_of old ≡ block.items ∷ map (λ v. v.items) new.waiting.items
  pub at_work : new.at_work ≡ None
  pub same : SameButHeld old new
  pub wide : IsWide (window_of old.map).len block
  pub room : HasRoom window_of 1 new

-- one block more waits
pub record Adds {M : Type 0} (window_of : M → BlockWindow) (old new : Blocks M) (block : List ℕ) : Type 0 where
  pub waiting : map (λ v. v.items) new.waiting.items ≡ map (λ v. v.items) old.waiting.items ++ block ∷ []
  pub at_work : new.at_work ≡ old.at_work
  pub same : SameButHeld old new
  pub room : HasRoom window_of 0 new
