-- What holds of each source: where it lies, and that it is where its blocks let it be.
use Rattle.std.specs.Prelude.{◌≡◌, ℕ, ◌+◌, ◌^◌, ◌<◌, ◌≤◌, List, [], ◌∷◌, length, All, Option, Some, None}
use Rattle.apei_tables.specs.Access.{bits}
use Rattle.ghes_port.specs.declared.maps.SourceMap.{SourceMap}
use Rattle.ghes_port.specs.declared.maps.AckRegister.{AckRegister}
use Rattle.ghes_port.specs.declared.stages.Stage.{Stage}
use Rattle.ghes_port.specs.declared.stages.Stage.TheVariants.{Hide, TellAddress, ReadFirst, SetAck, Fill, ReadAck, ClearAck, Show, Notify, Await}
use Rattle.ghes_port.specs.Machine.{SourceState, IsGood, piece_at, address_number}

-- an acknowledgement has a bit to set, and sets none outside the register's access
abbrev pub HasBits : Option AckRegister → Type 0
HasBits None = Unit {0}
HasBits (Some ack) = (0 < ack.set) × (ack.set < 2 ^ bits ack.access)

-- the window has room for a block's head and ends below 2 ^ 64, and its address fits its register
pub record IsPlaced (map : SourceMap) : Type 0 where
  pub head : 20 ≤ map.len
  pub block : map.block + map.len < 2 ^ 64
  pub offset : map.address.offset < 64
  pub address : address_number map < 2 ^ bits map.address.access
  pub ack : HasBits map.ack

-- the piece begins in the oldest block
abbrev pub IsWithin : ℕ → List (List ℕ) → Type 0
IsWithin piece [] = piece ≡ 0
IsWithin piece (block ∷ rest) = piece_at piece < length block

abbrev pub HasBlock : List (List ℕ) → Type 0
HasBlock [] = ⊥
HasBlock (block ∷ rest) = Unit {0}

abbrev pub HasAck : Option AckRegister → Type 0
HasAck None = ⊥
HasAck (Some ack) = Unit {0}

abbrev pub IsReached : SourceMap → List (List ℕ) → Stage → Type 0
IsReached map queue Hide = Unit {0}
IsReached map queue TellAddress = Unit {0}
IsReached map queue ReadFirst = HasAck map.ack
IsReached map queue (SetAck read) = HasAck map.ack
IsReached map queue (Fill piece) = IsWithin piece queue
IsReached map queue ReadAck = HasAck map.ack × HasBlock queue
IsReached map queue (ClearAck read) = HasAck map.ack × HasBlock queue
IsReached map queue Show = HasBlock queue
IsReached map queue Notify = HasBlock queue
IsReached map queue Await = HasBlock queue

pub record IsSource (s : SourceState) : Type 0 where
  pub placed : IsPlaced s.map
  pub good : All (IsGood s.map.len) s.queue
  pub reached : IsReached s.map s.queue s.stage

-- a stage in which no block is filled or waited for
abbrev pub IsPassing : Stage → Type 0
IsPassing (Fill piece) = ⊥
IsPassing Await = ⊥
IsPassing _ = Unit {0}
