-- The changes that a medium has to make, one after another, to hold what its flash holds.
use Rattle.std.specs.Prelude.{◌≡◌, ℕ, ◌+◌, ◌/◌, ◌%◌, ◌<◌, ◌≤◌, min, List, [], ◌∷◌, length, replicate, slice_get, Some}
use Rattle.std.specs.Option.{option_map}
use Rattle.base_model.specs.Bytes.{put_at}
use Rattle.base_model.specs.Flash.{Change, Told, FlashState, IsErased, image_at}
use Rattle.erst_port.specs.declared.due.Kind.{Kind}
use Rattle.erst_port.specs.declared.due.Kind.TheVariants.{Program, Erase}

-- where a change is, and how many bytes it has
abbrev pub range_of : Change → ℕ × ℕ
range_of change = (change.at, change.len)

-- 1 to 256 bytes are programmed where an image is erased. An erase puts erased ones into a whole sector
pub record MayPut (sector : ℕ) (image : List ℕ) (kind : Kind) (at : ℕ) (bytes : List ℕ) : Type 0 where
  pub programs : kind ≡ Program → IsErased image at (length bytes)
  pub few : kind ≡ Program → (0 < length bytes) × (length bytes ≤ 256)
  pub erases : kind ≡ Erase → (at % sector ≡ 0) × (bytes ≡ replicate sector 0xFF)

-- change number s of a flash, from 0, puts these bytes at a place: with them there, the image before it is the image after it
pub record IsDue (sector : ℕ) (told : Told) (s : ℕ) (kind : Kind) (at : ℕ) (bytes : List ℕ) : Type 0 where
  pub range : option_map range_of (slice_get told.past s) ≡ Some (at, length bytes)
  pub within : at + length bytes ≤ length (image_at told s)
  pub inside : at + length bytes ≤ length told.image
  pub may : MayPut sector (image_at told s) kind at bytes
  pub image : image_at told (s + 1) ≡ put_at (image_at told s) at bytes

-- the bytes of the ranges of changes, together
abbrev pub bytes_in : List Change → ℕ
bytes_in [] = 0
bytes_in (change ∷ past) = change.len + bytes_in past

-- how many changes the log of a flash of this size has room for: as many as its store can have slots
abbrev pub log_room : (size : ℕ) → ℕ
log_room size = min (size / 512) 1024

-- the log of a flash of this size has room for these changes
pub record AreLogged (size : ℕ) (past : List Change) : Type 0 where
  pub few : length past ≤ log_room size
  pub small : bytes_in past ≤ log_room size + 256

-- every change so far is in the log
abbrev pub IsLogged : FlashState → Type 0
IsLogged flash = AreLogged flash.size flash.told.past
