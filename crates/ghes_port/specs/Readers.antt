-- A source whose accesses are made on a memory, and a guest that keeps to the reader's side.
use Rattle.std.specs.Prelude.{◌≡◌, ◌⊎◌, ℕ, ◌+◌, ◌/◌, ◌^◌, ◌<◌, ◌≤◌, ◌==◌, if◌then◌else◌, List, [], ◌∷◌, ◌++◌, length, take, Option, Some, None, Ok, bit_and, bit_or}
use Rattle.base_model.specs.Bytes.{little, spelled}
use Rattle.ghes_block.specs.Reading.{checked}
use Rattle.ghes_port.specs.declared.maps.SourceMap.{SourceMap}
use Rattle.ghes_port.specs.declared.maps.AckRegister.{AckRegister}
use Rattle.ghes_port.specs.declared.stages.Stage.{Stage}
use Rattle.ghes_port.specs.declared.stages.Stage.TheVariants.{Hide, TellAddress, Await}
use Rattle.ghes_port.specs.declared.stages.Unacknowledged.{Unacknowledged}
use Rattle.ghes_port.specs.Places.{index_of, octets}
use Rattle.ghes_port.specs.Memories.{bytes_from, with_bytes}
use Rattle.ghes_port.specs.Machine.{SourceState, Told, Nothing, Reads, Writes, Notifies, told, after, submitted, kept, reset, IsGood}
use Rattle.ghes_port.specs.Sound.{IsSource}

-- the guest looks for a block; it copies one, of which it has these bytes; it has still to acknowledge one; it has read the
-- acknowledge register, to write it
pub data Reader : Type 0 where
  Looks : Reader
  Copies : List ℕ → Reader
  Owes : Reader
  Answers : ℕ → Reader

-- the source, the memory, the guest, the blocks that it took, those that were submitted, and how many notifications there were
pub record World : Type 0 where
  pub source : SourceState
  pub memory : ℕ → ℕ
  pub reader : Reader
  pub taken : List (List ℕ)
  pub submitted : List (List ℕ)
  pub notices : ℕ

-- what the memory is after the access that is told, what number is read by it, and how many notifications it is
abbrev pub memory_after : Told → (ℕ → ℕ) → ℕ → ℕ
memory_after Nothing memory = memory
memory_after (Reads place n) memory = memory
memory_after (Writes place bytes) memory = with_bytes memory (index_of place) bytes
memory_after Notifies memory = memory

abbrev pub IsRead : Told → (ℕ → ℕ) → ℕ → Type 0
IsRead Nothing memory value = Unit {0}
IsRead (Reads place n) memory value = value ≡ little (bytes_from memory (index_of place) n)
IsRead (Writes place bytes) memory value = Unit {0}
IsRead Notifies memory value = Unit {0}

abbrev pub notices_of : Told → ℕ
notices_of Notifies = 1
notices_of _ = 0

-- the block's address as the guest reads it from its register, and the block status at an address
abbrev pub address_in : SourceMap → (ℕ → ℕ) → ℕ
address_in map memory = little (bytes_from memory (index_of map.address.place) (octets map.address.access)) / 2 ^ map.address.offset

abbrev pub status_at : ℕ → (ℕ → ℕ) → ℕ
status_at block memory = little (bytes_from memory block 4)

-- the number in the acknowledge register, and what an acknowledgement writes
abbrev pub number_in : AckRegister → (ℕ → ℕ) → ℕ
number_in ack memory = little (bytes_from memory (index_of ack.place) (octets ack.access))

abbrev pub answered : AckRegister → ℕ → (ℕ → ℕ) → ℕ → ℕ
answered ack read memory = with_bytes memory (index_of ack.place) (spelled (octets ack.access) (bit_or (bit_and read ack.keep) ack.set))

-- after the block status is cleared the guest goes on to acknowledge, if there is a register
abbrev pub emptied : Option AckRegister → Reader
emptied None = Looks
emptied (Some ack) = Owes

-- the block status was cleared and the address told, so that a guest may look
abbrev pub IsBegun : Stage → Type 0
IsBegun Hide = ⊥
IsBegun TellAddress = ⊥
IsBegun _ = Unit {0}

-- the bytes of a source's parts are as before
abbrev pub SameAck : Option AckRegister → (ℕ → ℕ) → (ℕ → ℕ) → Type 0
SameAck None old new = Unit {0}
SameAck (Some ack) old new = bytes_from new (index_of ack.place) (octets ack.access) ≡ bytes_from old (index_of ack.place) (octets ack.access)

pub record SameParts (map : SourceMap) (old new : ℕ → ℕ) : Type 0 where
  pub address : bytes_from new (index_of map.address.place) (octets map.address.access)
      ≡ bytes_from old (index_of map.address.place) (octets map.address.access)
  pub block : (at n : ℕ) → map.block ≤ at → at + n ≤ map.block + map.len → bytes_from new at n ≡ bytes_from old at n
  pub ack : SameAck map.ack old new

-- one thing that happens: a block is submitted; the next access is made; the guest reads the address and the block status there; it
-- copies any number of the window's next bytes; it finds a whole block in what it has, takes it and clears the block status; it reads
-- the acknowledge register; it writes it; somebody writes elsewhere
pub data Happens (old new : World) : Type 0 where
  Submits : (block : List ℕ) → IsGood old.source.map.len block
      → new ≡ record old { source = submitted old.source block; submitted = old.submitted ++ block ∷ [] } → Happens old new
  Accesses : (value : ℕ) → IsRead (told old.source) old.memory value
      → new ≡ record old {
        source = after old.source value;
        memory = memory_after (told old.source) old.memory;
        notices = old.notices + notices_of (told old.source);
      } → Happens old new
  GuestLooks : IsBegun old.source.stage → old.reader ≡ Looks
      → new ≡ record old { reader = if status_at (address_in old.source.map old.memory) old.memory == 0 then Looks else Copies [] } → Happens old new
  GuestCopies : (copied : List ℕ) (n : ℕ) → old.reader ≡ Copies copied → length copied + n ≤ old.source.map.len
      → new ≡ record old { reader = Copies (copied ++ bytes_from old.memory (address_in old.source.map old.memory + length copied) n) } → Happens old new
  GuestTakes : (copied : List ℕ) (size : ℕ) → old.reader ≡ Copies copied → checked copied ≡ Ok size
      → new ≡ record old {
        reader = emptied old.source.map.ack;
        memory = with_bytes old.memory (address_in old.source.map old.memory) (spelled 4 0);
        taken = old.taken ++ take size copied ∷ [];
      } → Happens old new
  GuestAsks : (ack : AckRegister) → old.source.map.ack ≡ Some ack → old.reader ≡ Owes
      → new ≡ record old { reader = Answers (number_in ack old.memory) } → Happens old new
  GuestAnswers : (ack : AckRegister) (read : ℕ) → old.source.map.ack ≡ Some ack → old.reader ≡ Answers read
      → new ≡ record old { reader = Looks; memory = answered ack read old.memory } → Happens old new
  Elsewhere : (memory : ℕ → ℕ) → SameParts old.source.map old.memory memory → new ≡ record old { memory = memory } → Happens old new

-- some things, one after another
pub data Leads (first : World) : World → Type 0 where
  Stays : Leads first first
  Then : (between last : World) → Leads first between → Happens between last → Leads first last

-- bytes that have none in common with others
abbrev pub AreOff : ℕ → ℕ → ℕ → ℕ → Type 0
AreOff at n other m = (at + n ≤ other) ⊎ (other + m ≤ at)

abbrev pub IsAckApart : SourceMap → Option AckRegister → Type 0
IsAckApart map None = Unit {0}
IsAckApart map (Some ack) =
    AreOff (index_of ack.place) (octets ack.access) (index_of map.address.place) (octets map.address.access)
    × AreOff (index_of ack.place) (octets ack.access) map.block map.len

-- no two parts of a source have a byte in common
pub record IsApart (map : SourceMap) : Type 0 where
  pub address : AreOff (index_of map.address.place) (octets map.address.access) map.block map.len
  pub ack : IsAckApart map map.ack

-- before the first access: the guest has taken none of the blocks, and those of the queue are the first
pub record IsFirst (w : World) : Type 0 where
  pub source : IsSource w.source
  pub apart : IsApart w.source.map
  pub stage : w.source.stage ≡ Hide
  pub reader : w.reader ≡ Looks
  pub taken : w.taken ≡ []
  pub submitted : w.submitted ≡ w.source.queue
  pub notices : w.notices ≡ 0

-- a guest that starts again, over a memory of any bytes: what it takes and what is submitted counts from here
abbrev pub restarted : Unacknowledged → SourceState → (ℕ → ℕ) → World
restarted blocks source memory = record {
  source = reset blocks source;
  memory = memory;
  reader = Looks;
  taken = [];
  submitted = kept blocks source.queue;
  notices = 0;
}

-- the guest took the first of the submitted blocks, whole, each once and in order
abbrev pub IsPrefix : World → Type 0
IsPrefix w = w.taken ≡ take (length w.taken) w.submitted

-- the guest copies a block, or has still to acknowledge one
abbrev pub IsBusy : Reader → Type 0
IsBusy Looks = ⊥
IsBusy (Copies copied) = Unit {0}
IsBusy Owes = Unit {0}
IsBusy (Answers read) = Unit {0}

-- the guest has taken the block that is waited for and acknowledged it, and looks for the next one
abbrev pub HasAnswered : World → Type 0
HasAnswered w = (w.source.stage ≡ Await) × (w.reader ≡ Looks) × (length w.submitted < length w.taken + length w.source.queue)

-- one notification for each block that was given back, and one for that which is waited for
abbrev pub waited_for : Stage → ℕ
waited_for Await = 1
waited_for _ = 0

abbrev pub IsNotified : World → Type 0
IsNotified w = w.notices + length w.source.queue ≡ length w.submitted + waited_for w.source.stage

-- n bytes at an index have none in common with a source's parts
pub record IsOffParts (map : SourceMap) (at n : ℕ) : Type 0 where
  pub address : AreOff at n (index_of map.address.place) (octets map.address.access)
  pub block : AreOff at n map.block map.len
  pub ack : (ack : AckRegister) → map.ack ≡ Some ack → AreOff at n (index_of ack.place) (octets ack.access)
