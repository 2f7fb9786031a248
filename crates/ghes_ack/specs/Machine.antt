-- The handover as a machine: blocks, pieces of 64 bytes and five situations.
use Rattle.std.specs.Prelude.{◌≡◌, ℕ, zero, suc, ◌+◌, ◌-◌, ◌*◌, ◌<◌, ◌≤◌, ◌⊎◌, Bool, true, false, nat_lt, ◌==◌, if◌then◌else◌, List, [], ◌∷◌, ◌++◌, length, take, drop, get_or, All}
use Rattle.base_model.specs.Bytes.{spelled, number_at}
pub use Rattle.ghes_ack.specs.Pieces.{pieces, zeros, hidden, with_piece, with_pieces, with_status}
use Rattle.ghes_ack.specs.declared.events.Side.{Side}
use Rattle.ghes_ack.specs.declared.events.Side.TheVariants.{Firmware, Reader}
use Rattle.ghes_ack.specs.declared.events.Event.{Event}
use Rattle.ghes_ack.specs.declared.events.Event.TheVariants.{Idle, Fill, Publish, Free, Wait, Nothing, Found, Copied, Took, Clear, Ack}

-- the firmware fills the block; it is published; the reader reads it; the reader has cleared it; the reader has acknowledged it
pub data Situation : Type 0 where
  Filling : Situation
  Published : Situation
  Reading : Situation
  Cleared : Situation
  Acknowledged : Situation

pub record Machine : Type 0 where
  -- each block that was submitted since the last start
  pub blocks : List (List ℕ)
  -- how many of them were published, taken and acknowledged
  pub published : ℕ
  pub taken : ℕ
  pub acknowledged : ℕ
  -- how many pieces of the block at work were filled, and copied
  pub filled : ℕ
  pub copied : ℕ
  -- the bytes of the window
  pub window : List ℕ
  pub situation : Situation

-- the oldest block that is not acknowledged
abbrev pub at_work : Machine → List ℕ
at_work m = get_or m.blocks m.acknowledged []

-- the block taken last, empty where none was taken
abbrev pub last_taken : Machine → List ℕ
last_taken m = get_or ([] ∷ m.blocks) m.taken []

-- how many blocks wait: a block waits until its first piece is filled
abbrev pub waiting_in : Machine → ℕ
waiting_in m = length m.blocks - m.published - (if m.filled == 0 then 0 else 1)

-- the reader neither reads a block nor has still to acknowledge one
abbrev pub is_idle : Situation → Bool
is_idle Reading = false
is_idle Cleared = false
is_idle _ = true

-- the firmware fills the oldest block that waits, and publishes it when all its pieces are filled
abbrev pub filling : Machine → List ℕ → Event × Machine
filling m block =
    if nat_lt m.filled (pieces block) then (Fill, record m { filled = m.filled + 1; window = with_piece m.window block m.filled })
    else (Publish, record m { published = m.published + 1; filled = 0; window = with_status m.window (take 4 block); situation = Published })

abbrev pub firmware_turn : Machine → Situation → Event × Machine
firmware_turn m Filling = elim (drop m.published m.blocks) [ [] ↦ (Idle, m) | block ∷ waiting ↦ filling m block ]
firmware_turn m Published = (Wait, m)
firmware_turn m Reading = (Wait, m)
firmware_turn m Cleared = (Wait, m)
firmware_turn m Acknowledged = (Free, record m { situation = Filling })

-- the reader copies the block at work; at the last piece the block is taken
abbrev pub reader_turn : Machine → Situation → Event × Machine
reader_turn m Filling = (Nothing, m)
reader_turn m Published = (Found, record m { copied = 0; situation = Reading })
reader_turn m Reading =
    if nat_lt (m.copied + 1) (pieces (at_work m)) then (Copied, record m { copied = m.copied + 1 })
    else if nat_lt m.copied (pieces (at_work m)) then (Took, record m { copied = m.copied + 1; taken = m.taken + 1 })
    else (Clear, record m { window = with_status m.window (spelled 4 0); situation = Cleared })
reader_turn m Cleared = (Ack, record m { acknowledged = m.acknowledged + 1; situation = Acknowledged })
reader_turn m Acknowledged = (Nothing, m)

-- one turn: the event, and the state afterwards
abbrev pub turned : Side → Machine → Event × Machine
turned Firmware m = firmware_turn m m.situation
turned Reader m = reader_turn m m.situation

-- n turns of a side, one after another: the state afterwards, and their events
abbrev pub turned_times : Side → ℕ → Machine → Machine
turned_times side zero m = m
turned_times side (suc n) m = turned_times side n (turned side m).1

abbrev pub events_of_times : Side → ℕ → Machine → List Event
events_of_times side zero m = []
events_of_times side (suc n) m = (turned side m).0 ∷ events_of_times side n (turned side m).1

-- a start, over a window
abbrev pub started : List ℕ → Machine
started window = record {
  blocks = [];
  published = 0;
  taken = 0;
  acknowledged = 0;
  filled = 0;
  copied = 0;
  window = with_status window (spelled 4 0);
  situation = Filling;
}

abbrev pub submitted : Machine → List ℕ → Machine
submitted m block = record m { blocks = m.blocks ++ block ∷ [] }

-- a block that a window of so many bytes takes
pub record Fits (len : ℕ) (block : List ℕ) : Type 0 where
  pub head : 20 ≤ length block
  pub fits : length block ≤ len
  pub published : 0 < number_at block 0 4

-- the window holds the pieces of the next block that were filled, with the status word 0
pub record IsFilling (m : Machine) : Type 0 where
  pub published : m.published ≡ m.acknowledged
  pub taken : m.taken ≡ m.acknowledged
  pub all : m.acknowledged ≤ length m.blocks
  pub begun : 0 < m.filled → m.acknowledged < length m.blocks
  pub pieces_filled : m.filled ≤ pieces (at_work m)
  pub filled : take (64 * m.filled) (take (length (at_work m)) m.window) ≡ take (64 * m.filled) (hidden (at_work m))
  pub status : number_at m.window 0 4 ≡ 0

-- the window holds a published block whole, which was taken or not
pub record IsWhole (m : Machine) (taken : ℕ) : Type 0 where
  pub published : m.published ≡ m.acknowledged + 1
  pub taken_is : m.taken ≡ m.acknowledged + taken
  pub there : m.acknowledged < length m.blocks
  pub none_filled : m.filled ≡ 0
  pub whole : take (length (at_work m)) m.window ≡ at_work m

-- the reader has cleared the status word, of a block acknowledged or not yet
pub record IsEmptied (m : Machine) (ahead : ℕ) : Type 0 where
  pub published : m.published ≡ m.acknowledged + ahead
  pub taken : m.taken ≡ m.acknowledged + ahead
  pub all : m.acknowledged + ahead ≤ length m.blocks
  pub none_filled : m.filled ≡ 0
  pub status : number_at m.window 0 4 ≡ 0

-- what holds in each situation; while the reader reads it is how many pieces are copied that says whether the block is taken
abbrev pub InSituation : Machine → Situation → Type 0
InSituation m Filling = IsFilling m
InSituation m Published = IsWhole m 0
InSituation m Reading =
    ((m.copied < pieces (at_work m)) × IsWhole m 0) ⊎ ((m.copied ≡ pieces (at_work m)) × IsWhole m 1)
InSituation m Cleared = IsEmptied m 1
InSituation m Acknowledged = IsEmptied m 0

-- a state of the machine, over a window of so many bytes
pub record IsState (len : ℕ) (m : Machine) : Type 0 where
  pub window : length m.window ≡ len
  pub room : 20 ≤ len
  pub blocks : All (Fits len) m.blocks
  pub holds : InSituation m m.situation
