-- The buffers of a source's blocks.
use Rattle.std.specs.Prelude.{◌≡◌, ℕ, ◌+◌, ◌≤◌, List, Vec, length, map, All, vec_len, vec_capacity}
use Rattle.std.specs.VecDeque.{deque_len, deque_capacity}
use Rattle.std.specs.declared.collections.VecDeque.{VecDeque}
use Rattle.std.specs.declared.alloc.Global.{Global}
use Rattle.ghes_port.specs.declared.maps.SourceMap.{SourceMap}
use Rattle.ghes_port.specs.declared.stages.Stage.{Stage}
use Rattle.ghes_port.specs.Machine.{SourceState}

abbrev pub IsWide : ℕ → Vec ℕ Global → Type 0
IsWide len buffer = len ≤ vec_capacity buffer

-- a buffer for each place, with room for the longest block: those of the blocks, and those to spare
pub record HasRoom (len places : ℕ) (queue : VecDeque (Vec ℕ Global) Global) (spare : Vec (Vec ℕ Global) Global) : Type 0 where
  pub count : deque_len queue + vec_len spare ≡ places
  pub counted : length queue.items ≡ deque_len queue
  pub few : places ≤ 65536
  pub short : len ≤ 65536
  pub queue_room : places ≤ deque_capacity queue
  pub spare_room : places ≤ vec_capacity spare
  pub queue_wide : All (IsWide len) queue.items
  pub spare_wide : All (IsWide len) spare.items

abbrev pub blocks_of : VecDeque (Vec ℕ Global) Global → List (List ℕ)
blocks_of queue = map (λ buffer. buffer.items) queue.items

abbrev pub state_of : ℕ → SourceMap → Stage → VecDeque (Vec ℕ Global) Global → ℕ → SourceState
state_of id map stage queue places = record { id = id; map = map; stage = stage; queue = blocks_of queue; places = places }
