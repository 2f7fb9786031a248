-- What the log and the last change tell.
use Rattle.std.specs.Prelude.{◌≡◌, ℕ, ◌+◌, ◌<◌, ◌≤◌, List, [], ◌∷◌, ◌++◌, length, slice_get, Some}
use Rattle.base_model.specs.Bytes.{part}
use Rattle.base_model.specs.Flash.{Change, Told}
use Rattle.erst_port.specs.Dues.{IsDue, AreLogged, bytes_in}
use Rattle.erst_port.specs.declared.log.Range.{Range}
use Rattle.erst_port.specs.declared.log.Entry.{Entry}
use Rattle.erst_port.specs.declared.log.Log.{Log}

-- an entry of the log is the change of its number, and its bytes stand in the log from its start on
abbrev pub AreEntries : (sector : ℕ) → Told → List Entry → List ℕ → Type 0
AreEntries sector told entries bytes = (s : ℕ) (entry : Entry) → slice_get entries s ≡ Some entry
    → (entry.start + entry.range.len ≤ length bytes) × IsDue sector told s entry.range.kind entry.range.at (part bytes entry.start entry.range.len)

-- the bytes of the last change stand in the image
abbrev pub IsLast : (sector : ℕ) → Told → Range → Type 0
IsLast sector told range = (s : ℕ) → s + 1 ≡ length told.past
    → (range.at + range.len ≤ length told.image) × IsDue sector told s range.kind range.at (part told.image range.at range.len)

-- the log has every change so far as long as there is room for them, and it has nothing but first changes
pub record IsFilled (size : ℕ) (past : List Change) (entries : List Entry) (bytes : List ℕ) : Type 0 where
  pub all : AreLogged size past → (length entries ≡ length past) × (length bytes ≡ bytes_in past)
  pub only : length entries ≡ length past → AreLogged size past
  pub few : length entries ≤ length past

-- what a change leaves of the log
pub record IsEntered (old : Log) (range : Range) (content : List ℕ) (new : Log) : Type 0 where
  pub entries : new.entries.items ≡ old.entries.items ++ (record { range = range; start = length old.bytes.items }) ∷ []
  pub bytes : new.bytes.items ≡ old.bytes.items ++ content

pub record IsLeft (old new : Log) : Type 0 where
  pub entries : new.entries.items ≡ old.entries.items
  pub bytes : new.bytes.items ≡ old.bytes.items

-- it is entered where all changes before it are there, and there is room
pub record HasPlace (log : Log) (steps size : ℕ) : Type 0 where
  pub next : length log.entries.items ≡ steps
  pub room : length log.entries.items < log.room
  pub bytes : length log.bytes.items + size ≤ log.room + 256
