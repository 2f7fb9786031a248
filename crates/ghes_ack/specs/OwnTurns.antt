-- The turns of one side, by its own end of the handover, the blocks and the memory alone: nothing here knows the other side.
use Rattle.std.specs.Prelude.{◌≡◌, ℕ, suc, ◌+◌, ◌*◌, ◌<◌, ◌≤◌, ◌^◌, List, [], ◌∷◌, ◌++◌, length, take, replicate, All, Some}
use Rattle.base_model.specs.Bytes.{spelled, number_at}
use Rattle.ghes_ack.specs.Pieces.{read_over as pieces_over}
use Rattle.apei_space.specs.RamState.{RamState}
use Rattle.ghes_ack.specs.declared.maps.HandoverMap.{HandoverMap}
use Rattle.ghes_ack.specs.declared.events.Side.{Side}
use Rattle.ghes_ack.specs.declared.events.Side.TheVariants.{Firmware, Reader}
use Rattle.ghes_ack.specs.declared.events.Event.{Event}
use Rattle.ghes_ack.specs.declared.events.Event.TheVariants.{Idle, Fill, Publish, Free, Wait, Nothing, Found, Copied, Took, Clear, Ack}
use Rattle.ghes_ack.specs.declared.ends.Ends.{Ends}
use Rattle.ghes_ack.specs.declared.ends.FirmwareEnd.{FirmwareEnd}
use Rattle.ghes_ack.specs.declared.ends.FirmwareEnd.TheVariants.{Writes, Waits}
use Rattle.ghes_ack.specs.declared.ends.ReaderEnd.{ReaderEnd}
use Rattle.ghes_ack.specs.declared.ends.ReaderEnd.TheVariants.{Looks, Reads, Acknowledges}
use Rattle.ghes_ack.specs.WindowQueues.{held_of, HasRoom}
use Rattle.ghes_ack.specs.Machine.{Situation, Filling, Published, Reading, Cleared, Acknowledged, Fits, with_pieces, with_status}
use Rattle.ghes_ack.specs.Maps.{HasAckBits, HasWindows, IsSet, IsClear, ack_read, window, with_window, with_ack, with_clear, acknowledged, window_of}
use Rattle.ghes_ack.specs.Handovers.{HandoverState, WithMemory, kept}
use Rattle.ghes_ack.specs.Sides.{IsFar, state_of}
use Rattle.ghes_ack.specs.declared.window_blocks.Blocks.{Blocks}

-- a side can make turns: the memory has the windows, and each block at work or waiting fits into the block's
pub record IsAble (b : Blocks HandoverMap) (ram : RamState) : Type 0 where
  pub windows : HasWindows b.map ram
  pub short : b.map.len < 2 ^ 32
  pub room : HasRoom window_of 0 b
  pub fits : All (Fits b.map.len) (held_of b)

-- some turns, for which there are places
pub record IsCount (made places : ℕ) : Type 0 where
  pub some : 0 < made
  pub few : made ≤ places

-- the situation that the firmware's end leaves, from one in which it wrote
abbrev pub firmware_at : FirmwareEnd → Situation
firmware_at (Writes write) = Filling
firmware_at (Waits wait) = Published

-- turns of a firmware that may write the block: there is none, it writes the next pieces, or it publishes one that is written
pub data FirmwareMakes (old : HandoverState) (ram : RamState) (events : List Event) (new : HandoverState) (memory : RamState) : Type 0 where
  Idles : kept old ≡ [] → events ≡ Idle ∷ [] → new ≡ old → memory ≡ ram → FirmwareMakes old ram events new memory
  Fills : (count : ℕ) (block : List ℕ) (rest : List (List ℕ)) → kept old ≡ block ∷ rest → 64 * (old.filled + count) < length block →
      events ≡ replicate (suc count) Fill → new ≡ record old { waiting = rest; at_work = Some block; filled = old.filled + suc count } →
      memory ≡ with_window old.map ram (with_pieces (window old.map ram) block old.filled (suc count)) → FirmwareMakes old ram events new memory
  Publishes : (block : List ℕ) (rest : List (List ℕ)) → kept old ≡ block ∷ rest → length block ≤ 64 * old.filled →
      events ≡ Publish ∷ [] → new ≡ record old { waiting = rest; at_work = Some block; filled = 0; situation = Published } →
      memory ≡ with_window old.map (with_ack old.map ram (with_clear old.map (ack_read old.map ram))) (with_status (window old.map ram) (take 4 block)) →
      IsClear old.map memory → FirmwareMakes old ram events new memory

-- a turn of a firmware that waits: the block is its own again exactly where the acknowledge bits are set
abbrev pub FindsAck : HandoverMap → RamState → List Event → FirmwareEnd → Type 0
FindsAck map ram events (Writes write) = IsSet map ram × (events ≡ Free ∷ [])
FindsAck map ram events (Waits wait) = (¬ IsSet map ram) × (events ≡ Wait ∷ [])

abbrev pub FirmwareRuns : FirmwareEnd → WithMemory (Blocks HandoverMap) → List Event → FirmwareEnd → WithMemory (Blocks HandoverMap) → Type 0
FirmwareRuns (Writes write) old events end new =
    FirmwareMakes (state_of Filling old.state) old.memory events (state_of (firmware_at end) new.state) new.memory
FirmwareRuns (Waits wait) old events end new =
    FindsAck old.state.map old.memory events end × (new.state ≡ old.state) × (new.memory ≡ old.memory)

-- the situation that the reader's end leaves, from one in which it read
abbrev pub reader_at : ReaderEnd → Situation
reader_at (Looks look) = Acknowledged
reader_at (Reads read) = Reading
reader_at (Acknowledges end) = Cleared

-- turns of a reader that may read the block: it copies the next pieces, the last of them too, or it clears the block status once it has them all
pub data ReaderMakes (old : HandoverState) (ram : RamState) (events : List Event) (new : HandoverState) (memory : RamState) : Type 0 where
  Copies : (count : ℕ) (block : List ℕ) → old.at_work ≡ Some block → 64 * (old.copied + count) < length block → events ≡ replicate count Copied →
      new ≡ record old { at_work = Some (pieces_over (window old.map ram) block old.copied count); copied = old.copied + count } →
      memory ≡ ram → ReaderMakes old ram events new memory
  Takes : (count : ℕ) (block : List ℕ) → old.at_work ≡ Some block → 64 * (old.copied + count) < length block → length block ≤ 64 * (old.copied + suc count) →
      events ≡ replicate count Copied ++ Took ∷ [] →
      new ≡ record old {
        at_work = Some (pieces_over (window old.map ram) block old.copied (suc count));
        copied = old.copied + suc count;
        last = pieces_over (window old.map ram) block old.copied (suc count);
      } → memory ≡ ram → ReaderMakes old ram events new memory
  Clears : (block : List ℕ) → old.at_work ≡ Some block → length block ≤ 64 * old.copied → events ≡ Clear ∷ [] → new ≡ record old { situation = Cleared } →
      memory ≡ with_window old.map ram (with_status (window old.map ram) (spelled 4 0)) → ReaderMakes old ram events new memory

-- a turn of a reader that looks for a block: there is one exactly where the block status isn't 0, and none of its pieces is copied
abbrev pub FindsBlock : Blocks HandoverMap → RamState → List Event → ReaderEnd → Blocks HandoverMap → Type 0
FindsBlock old ram events (Looks look) new = (number_at (window old.map ram) 0 4 ≡ 0) × (events ≡ Nothing ∷ []) × (new ≡ old)
FindsBlock old ram events (Reads read) new = (0 < number_at (window old.map ram) 0 4) × (events ≡ Found ∷ []) × (new ≡ record old { copied = 0 })
FindsBlock old ram events (Acknowledges end) new = ⊥

-- a reader that has acknowledged looks for the next block
abbrev pub LooksAgain : ReaderEnd → Type 0
LooksAgain (Looks look) = Unit {0}
LooksAgain (Reads read) = ⊥
LooksAgain (Acknowledges end) = ⊥

-- a reader that read goes on with its block
abbrev pub GoesOn : ReaderEnd → ReaderEnd → Blocks HandoverMap → Type 0
GoesOn (Looks look) end new = Unit {0}
GoesOn (Reads read) end new = IsFar end new
GoesOn (Acknowledges acknowledge) end new = Unit {0}

abbrev pub ReaderRuns : ReaderEnd → WithMemory (Blocks HandoverMap) → List Event → ReaderEnd → WithMemory (Blocks HandoverMap) → Type 0
ReaderRuns (Looks look) old events end new = FindsBlock old.state old.memory events end new.state × (new.memory ≡ old.memory)
ReaderRuns (Reads read) old events end new =
    ReaderMakes (state_of Reading old.state) old.memory events (state_of (reader_at end) new.state) new.memory
ReaderRuns (Acknowledges acknowledge) old events end new =
    let map = old.state.map in
    LooksAgain end × (events ≡ Ack ∷ []) × (new.state ≡ old.state)
    × (new.memory ≡ with_ack map old.memory (acknowledged map (ack_read map old.memory))) × (HasAckBits map → IsSet map new.memory)

-- a side can make turns: of the other side nothing is known
abbrev pub SideIsAble : Side → Ends → Blocks HandoverMap → RamState → Type 0
SideIsAble Firmware ends b ram = IsAble b ram
SideIsAble Reader ends b ram = IsAble b ram × IsFar ends.reader b

-- turns of a side by its own end, the blocks and the memory. The other side stays where it is
abbrev pub SideRuns : Side → Ends → WithMemory (Blocks HandoverMap) → List Event → Ends → WithMemory (Blocks HandoverMap) → Type 0
SideRuns Firmware ends old events next new = FirmwareRuns ends.firmware old events next.firmware new × (next.reader ≡ ends.reader)
SideRuns Reader ends old events next new =
    ReaderRuns ends.reader old events next.reader new × GoesOn ends.reader next.reader new.state × (next.firmware ≡ ends.firmware)
