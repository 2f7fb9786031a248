-- The two sides and the blocks of a handover, and what they are together.
use Rattle.std.specs.Prelude.{◌≡◌, ℕ, ◌*◌, ◌<◌, ◌≤◌, List, Vec, Option, Some, None, ◌^◌, length, map}
use Rattle.std.specs.declared.alloc.Global.{Global}
use Rattle.apei_space.specs.RamState.{RamState}
use Rattle.ghes_ack.specs.declared.events.Side.{Side}
use Rattle.ghes_ack.specs.declared.events.Event.{Event}
use Rattle.ghes_ack.specs.Elsewhere.{SameWhere, IsOffBlock}
use Rattle.ghes_ack.specs.declared.ends.Ends.{Ends}
use Rattle.ghes_ack.specs.declared.ends.FirmwareEnd.{FirmwareEnd}
use Rattle.ghes_ack.specs.declared.ends.FirmwareEnd.TheVariants.{Writes, Waits}
use Rattle.ghes_ack.specs.declared.ends.ReaderEnd.{ReaderEnd}
use Rattle.ghes_ack.specs.declared.ends.ReaderEnd.TheVariants.{Looks, Reads, Acknowledges}
use Rattle.ghes_ack.specs.declared.window_blocks.Blocks.{Blocks}
use Rattle.ghes_ack.specs.WindowQueues.{bytes_of, HasRoom}
use Rattle.ghes_ack.specs.Machine.{Machine, Situation, Filling, Published, Reading, Cleared, Acknowledged}
use Rattle.ghes_ack.specs.Maps.{HasAckBits, window, memory_after, AreLeft, window_of}
use Rattle.ghes_ack.specs.Handovers.{HandoverOver, HandoverState, WithMemory, StandsFor, IsTurned, AreTurned}
use Rattle.ghes_ack.specs.declared.maps.HandoverMap.{HandoverMap}

-- while the firmware waits and the reader looks, there is a block at work until it is acknowledged
abbrev pub waiting_at : ReaderEnd → Option (Vec ℕ Global) → Situation
waiting_at (Looks look) work = elim work [ None ↦ Acknowledged | Some block ↦ Published ]
waiting_at (Reads read) work = Reading
waiting_at (Acknowledges end) work = Cleared

-- the situation of two sides and the block at work
abbrev pub situation_of : FirmwareEnd → ReaderEnd → Option (Vec ℕ Global) → Situation
situation_of (Writes write) reader work = Filling
situation_of (Waits wait) reader work = waiting_at reader work

-- the block at work: once it is copied whole it is the one taken last
abbrev pub in_work : Situation → Option (Vec ℕ Global) → Vec ℕ Global → Option (List ℕ)
in_work Filling work last = bytes_of work
in_work Published work last = bytes_of work
in_work Reading None last = Some last.items
in_work Reading (Some block) last = Some block.items
in_work Cleared None last = Some last.items
in_work Cleared (Some block) last = Some block.items
in_work Acknowledged work last = bytes_of work

-- what the blocks are in a situation
abbrev pub state_of : {M : Type 0} → Situation → Blocks M → HandoverOver M
state_of situation b = record {
  map = b.map;
  situation = situation;
  waiting = map (λ v. v.items) b.waiting.items;
  at_work = in_work situation b.at_work b.last;
  filled = b.filled;
  copied = b.copied;
  last = b.last.items;
}

abbrev pub handover_of : {M : Type 0} → Ends → Blocks M → HandoverOver M
handover_of ends b = state_of (situation_of ends.firmware ends.reader b.at_work) b

-- a published block is at work until its last piece is copied
abbrev pub IsCopiedSoFar : ℕ → Option (Vec ℕ Global) → Vec ℕ Global → Type 0
IsCopiedSoFar copied None last = length last.items ≤ 64 * copied
IsCopiedSoFar copied (Some block) last = 64 * copied < length block.items

-- where the reader is, as far as its block goes
abbrev pub IsFar : ReaderEnd → Blocks HandoverMap → Type 0
IsFar (Looks look) b = Unit {0}
IsFar (Reads read) b = IsCopiedSoFar b.copied b.at_work b.last
IsFar (Acknowledges end) b = b.at_work ≡ None

-- while the firmware may write the block, the reader looks for one: never are both at the block
abbrev pub AreApart : FirmwareEnd → ReaderEnd → Type 0
AreApart (Writes write) (Looks look) = Unit {0}
AreApart (Writes write) (Reads read) = ⊥
AreApart (Writes write) (Acknowledges end) = ⊥
AreApart (Waits wait) reader = Unit {0}

-- the sides and the blocks belong together
pub record IsConsistent (ends : Ends) (b : Blocks HandoverMap) : Type 0 where
  pub bits : HasAckBits b.map
  pub short : b.map.len < 2 ^ 32
  pub room : HasRoom window_of 0 b
  pub apart : AreApart ends.firmware ends.reader
  pub far : IsFar ends.reader b

-- the two sides are always there between two calls
abbrev pub view_of : {M : Type 0} → Option Ends → Blocks M → HandoverOver M
view_of ends b = state_of (elim ends [ None ↦ Filling | Some both ↦ situation_of both.firmware both.reader b.at_work ]) b

abbrev pub AreConsistent : Option Ends → Blocks HandoverMap → Type 0
AreConsistent None b = ⊥
AreConsistent (Some ends) b = IsConsistent ends b

-- a turn, for each state that it stood for, and what it leaves of the memory
pub record Turns (side : Side) (event : Event) (old new : WithMemory HandoverState) (m : Machine) : Type 0 where
  pub turned : IsTurned side event new.state new.memory m
  pub map : new.state.map ≡ old.state.map
  pub memory_is : new.memory ≡ memory_after old.state.map event old.memory (window old.state.map new.memory)

-- turns of a side, one after another
pub record MakesTurns (side : Side) (events : List Event) (old new : WithMemory HandoverState) (m : Machine) : Type 0 where
  pub turned : AreTurned side (length events) events new.state new.memory m
  pub map : new.state.map ≡ old.state.map
  pub left : AreLeft old.state.map events old.memory new.memory
  pub elsewhere : SameWhere (IsOffBlock old.state.map) old.memory new.memory

-- it stands for some state: this is its memory, which only it wrote
abbrev pub Stands : HandoverState → RamState → Type 0
Stands h ram = (m : Machine) × StandsFor h ram m
