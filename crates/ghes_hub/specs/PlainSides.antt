-- The two sides and the blocks of a plain handover, and what they are together.
use Rattle.std.specs.Prelude.{◌≡◌, ℕ, ◌+◌, ◌*◌, ◌<◌, ◌≤◌, ◌^◌, List, [], ◌∷◌, length, take, All, Option, Some, None, IfSome, map}
use Rattle.base_model.specs.Bytes.{spelled}
use Rattle.apei_space.specs.RamState.{RamState}
use Rattle.ghes_ack.specs.declared.events.Side.{Side}
use Rattle.ghes_ack.specs.declared.events.Side.TheVariants.{Firmware, Reader}
use Rattle.ghes_ack.specs.declared.events.Event.{Event}
use Rattle.ghes_ack.specs.declared.events.Event.TheVariants.{Idle, Fill, Publish, Free, Wait, Nothing, Found, Copied, Took, Clear}
use Rattle.ghes_ack.specs.Machine.{Machine, Situation, Filling, Published, Reading, Cleared, Acknowledged, Fits, with_piece, with_status}
use Rattle.ghes_ack.specs.OwnTurns.{firmware_at, reader_at}
use Rattle.ghes_ack.specs.Sides.{IsCopiedSoFar, AreApart, situation_of, state_of}
use Rattle.ghes_ack.specs.declared.window_blocks.Blocks.{Blocks}
use Rattle.ghes_ack.specs.WindowQueues.{HasRoom, count_of, held_of}
use Rattle.ghes_ack.specs.Pieces.{read_over}
use Rattle.ghes_ack.specs.Handovers.{WithMemory, kept, over}
use Rattle.ghes_hub.specs.declared.plain.map.PlainMap.{PlainMap}
use Rattle.ghes_ack.specs.declared.ends.Ends.{Ends}
use Rattle.ghes_ack.specs.declared.ends.FirmwareEnd.{FirmwareEnd}
use Rattle.ghes_ack.specs.declared.ends.FirmwareEnd.TheVariants.{Writes, Waits}
use Rattle.ghes_ack.specs.declared.ends.ReaderEnd.{ReaderEnd}
use Rattle.ghes_ack.specs.declared.ends.ReaderEnd.TheVariants.{Looks, Reads, Acknowledges}
use Rattle.ghes_hub.specs.Kinds.{ByStatus, turned_by}
use Rattle.ghes_ack.specs.Windows.{block_bytes, HasAddressed, block_status, with_block}
use Rattle.ghes_hub.specs.Plain.{PlainState, PlainStands}

-- the block at work in each situation
abbrev pub IsUnderWay : Situation → Blocks PlainMap → Type 0
IsUnderWay Filling b = Unit {0}
IsUnderWay Published b = count_of b.at_work ≡ 1
IsUnderWay Reading b = IsCopiedSoFar b.copied b.at_work b.last
IsUnderWay Cleared b = ⊥
IsUnderWay Acknowledged b = b.at_work ≡ None

-- the blocks are as they must be in a situation
pub record IsSound (situation : Situation) (b : Blocks PlainMap) : Type 0 where
  pub short : b.map.window.len < 2 ^ 32
  pub room : HasRoom (λ map. map.window) 0 b
  pub under_way : IsUnderWay situation b

-- the sides and the blocks belong together
pub record IsConsistent (ends : Ends) (b : Blocks PlainMap) : Type 0 where
  pub apart : AreApart ends.firmware ends.reader
  pub sound : IsSound (situation_of ends.firmware ends.reader b.at_work) b

-- the two sides are always there between two calls
abbrev pub AreConsistent : Option Ends → Blocks PlainMap → Type 0
AreConsistent None b = ⊥
AreConsistent (Some ends) b = IsConsistent ends b

-- a turn, from a state of the machine: the machine's event, and afterwards it stands for the machine's next state; of the memory
-- the block's window alone is another
pub record Turns (side : Side) (event : Event) (old new : WithMemory PlainState) (m : Machine) : Type 0 where
  pub event_is : event ≡ (turned_by ByStatus side m).0
  pub stands : PlainStands new.state new.memory (turned_by ByStatus side m).1
  pub map : new.state.map ≡ old.state.map
  pub memory_is : new.memory ≡ with_block old.state.map.window old.memory (block_bytes old.state.map.window new.memory)

-- the firmware can make a turn: each block at work or waiting fits into the block's window
abbrev pub FirmwareIsAble : FirmwareEnd → Blocks PlainMap → RamState → Type 0
FirmwareIsAble (Writes write) b ram = IsSound Filling b × HasAddressed b.map.status b.map.window ram × All (Fits b.map.window.len) (held_of b)
FirmwareIsAble (Waits wait) b ram = HasAddressed b.map.status b.map.window ram

-- a turn of a firmware that waits: the block is its own again exactly where the block status is 0
abbrev pub FindsClear : PlainMap → RamState → Event → FirmwareEnd → Type 0
FindsClear map ram event (Writes write) = (block_status map.window ram ≡ 0) × (event ≡ Free)
FindsClear map ram event (Waits wait) = (0 < block_status map.window ram) × (event ≡ Wait)

-- a turn of a firmware that may write the block: there is none, it writes the next piece, or it publishes one all of whose pieces are written
pub data FirmwareMakes (old : PlainState) (ram : RamState) (event : Event) (new : PlainState) (memory : RamState) : Type 0 where
  Idles : kept old ≡ [] → event ≡ Idle → new ≡ old → memory ≡ ram → FirmwareMakes old ram event new memory
  Fills : (block : List ℕ) (rest : List (List ℕ)) → kept old ≡ block ∷ rest → 64 * old.filled < length block → event ≡ Fill →
      new ≡ record old { waiting = rest; at_work = Some block; filled = old.filled + 1 } →
      memory ≡ with_block old.map.window ram (with_piece (block_bytes old.map.window ram) block old.filled) → FirmwareMakes old ram event new memory
  Publishes : (block : List ℕ) (rest : List (List ℕ)) → kept old ≡ block ∷ rest → length block ≤ 64 * old.filled → event ≡ Publish →
      new ≡ record old { waiting = rest; at_work = Some block; filled = 0; situation = Published } →
      memory ≡ with_block old.map.window ram (with_status (block_bytes old.map.window ram) (take 4 block)) → FirmwareMakes old ram event new memory

-- a turn of the firmware, whatever the reader does
abbrev pub FirmwareTurns : FirmwareEnd → WithMemory (Blocks PlainMap) → Event → FirmwareEnd → WithMemory (Blocks PlainMap) → Type 0
FirmwareTurns (Writes write) old event end new =
    IsSound (firmware_at end) new.state
    × FirmwareMakes (state_of Filling old.state) old.memory event (state_of (firmware_at end) new.state) new.memory
FirmwareTurns (Waits wait) old event end new =
    FindsClear old.state.map old.memory event end × (new.state ≡ old.state) × (new.memory ≡ old.memory)

-- the reader can make a turn
abbrev pub ReaderIsAble : ReaderEnd → Blocks PlainMap → RamState → Type 0
ReaderIsAble (Looks look) b ram = HasAddressed b.map.status b.map.window ram
ReaderIsAble (Reads read) b ram =
    IsSound Reading b × HasAddressed b.map.status b.map.window ram × IfSome b.at_work (λ block. length block.items ≤ b.map.window.len)
ReaderIsAble (Acknowledges end) b ram = ⊥

-- a turn of a reader that looks for a block: there is one exactly where the block status isn't 0, and none of its pieces is copied
abbrev pub FindsBlock : Blocks PlainMap → RamState → Event → ReaderEnd → Blocks PlainMap → Type 0
FindsBlock old ram event (Looks look) new = (block_status old.map.window ram ≡ 0) × (event ≡ Nothing) × (new ≡ old)
FindsBlock old ram event (Reads read) new = (0 < block_status old.map.window ram) × (event ≡ Found) × (new ≡ record old { copied = 0 })
FindsBlock old ram event (Acknowledges end) new = ⊥

-- the block at work with the window's next piece in its place
abbrev pub with_next_piece : PlainState → RamState → List ℕ → List ℕ
with_next_piece old ram block = read_over (block_bytes old.map.window ram) block old.copied 1

-- a turn of a reader that may read the block: it copies the next piece, the last one too, or it clears the block status once it has them all
pub data ReaderMakes (old : PlainState) (ram : RamState) (event : Event) (new : PlainState) (memory : RamState) : Type 0 where
  Copies : (block : List ℕ) → old.at_work ≡ Some block → 64 * (old.copied + 1) < length block → event ≡ Copied →
      new ≡ record old { at_work = Some (with_next_piece old ram block); copied = old.copied + 1 } → memory ≡ ram → ReaderMakes old ram event new memory
  Takes : (block : List ℕ) → old.at_work ≡ Some block → 64 * old.copied < length block → length block ≤ 64 * (old.copied + 1) → event ≡ Took →
      new ≡ record old { at_work = Some (with_next_piece old ram block); copied = old.copied + 1; last = with_next_piece old ram block } →
      memory ≡ ram → ReaderMakes old ram event new memory
  Clears : (block : List ℕ) → old.at_work ≡ Some block → length block ≤ 64 * old.copied → event ≡ Clear →
      new ≡ record old { situation = Acknowledged; at_work = None } → memory ≡ with_block old.map.window ram (with_status (block_bytes old.map.window ram) (spelled 4 0)) →
      ReaderMakes old ram event new memory

-- a turn of the reader, whatever the firmware does
abbrev pub ReaderTurns : ReaderEnd → WithMemory (Blocks PlainMap) → Event → ReaderEnd → WithMemory (Blocks PlainMap) → Type 0
ReaderTurns (Looks look) old event end new =
    FindsBlock old.state old.memory event end new.state × (new.memory ≡ old.memory)
ReaderTurns (Reads read) old event end new =
    IsSound (reader_at end) new.state
    × ReaderMakes (state_of Reading old.state) old.memory event (state_of (reader_at end) new.state) new.memory
ReaderTurns (Acknowledges acknowledge) old event end new = ⊥

-- a side can make a turn: of the other side nothing is known
abbrev pub SideIsAble : Side → Ends → Blocks PlainMap → RamState → Type 0
SideIsAble Firmware ends b ram = FirmwareIsAble ends.firmware b ram
SideIsAble Reader ends b ram = ReaderIsAble ends.reader b ram

-- a turn of a side by its own end, the blocks and the memory. The other side stays where it is
abbrev pub SideTurns : Side → Ends → WithMemory (Blocks PlainMap) → Event → Ends → WithMemory (Blocks PlainMap) → Type 0
SideTurns Firmware ends old event next new = FirmwareTurns ends.firmware old event next.firmware new × (next.reader ≡ ends.reader)
SideTurns Reader ends old event next new = ReaderTurns ends.reader old event next.reader new × (next.firmware ≡ ends.firmware)
