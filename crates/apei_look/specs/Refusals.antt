-- How the file of an image is refused, and how a run ends that showed one.
use Rattle.std.specs.Prelude.{ℕ, ◌≡◌, ◌<◌, ◌≤◌, ◌*◌, ◌==◌, nat_le, Bool, true, false, if◌then◌else◌, Option, Result, Ok, Err}
use Rattle.base_model.specs.Faults.{Rose}
use Rattle.flash_model.specs.declared.geometry.Geometry.{Geometry}
use Rattle.apei_look.specs.Entries.{Entry, IsFound, IsLocked}
use Rattle.apei_look.specs.declared.host.Found.TheVariants as found
use Rattle.apei_look.specs.declared.image_file.FileFault.TheVariants.{Unreadable, Missing, NoFile, Held}
use Rattle.apei_look.specs.declared.status.Status.{Status}
use Rattle.apei_look.specs.declared.unread.Unread.{Unread}
use Rattle.apei_look.specs.declared.status.Status.TheVariants.{Done, File, Length, Memory}
use Rattle.apei_look.specs.declared.status.Status.TheVariants as statuses

-- where what stands at its path is no regular file; a fault that is answered was counted
abbrev pub IsFindRefusal : (entry : Option Entry) (before after : ℕ) → Status → Type 0
IsFindRefusal entry before after (File Unreadable) = Rose before after
IsFindRefusal entry before after (File Missing) = (after ≡ before) × IsFound entry found.Nothing
IsFindRefusal entry before after (File NoFile) = (after ≡ before) × IsFound entry found.Other
IsFindRefusal entry before after other = ⊥

-- where it is locked
abbrev pub IsLockRefusal : (entry : Option Entry) (before after : ℕ) → Status → Type 0
IsLockRefusal entry before after (File Unreadable) = Rose before after
IsLockRefusal entry before after (File Held) = (after ≡ before) × IsLocked entry false
IsLockRefusal entry before after other = ⊥

-- where it is opened: one that is held is a regular file
abbrev pub IsOpenRefusal : (entry : Option Entry) (before after : ℕ) → Status → Type 0
IsOpenRefusal entry before after (File Held) = (after ≡ before) × IsFound entry found.File × IsLocked entry false
IsOpenRefusal entry before after other = IsFindRefusal entry before after other

-- where its bytes are read
abbrev pub IsReadRefusal : (before after : ℕ) → Status → Type 0
IsReadRefusal before after (File Unreadable) = Rose before after
IsReadRefusal before after Memory = after ≡ before
IsReadRefusal before after other = ⊥

-- where it has so many bytes, and may have at most so many
abbrev pub IsFileRefusal : (size most : ℕ) (before after : ℕ) → Status → Type 0
IsFileRefusal size most before after (Length found wanted) = (after ≡ before) × (found ≡ size) × (wanted ≡ most) × (most < size)
IsFileRefusal size most before after other = (size ≤ most) × IsReadRefusal before after other

-- the most bytes of a flash that is looked at: of any geometry where that is guessed
abbrev pub most_of : (is_guessed : Bool) → Geometry → ℕ
most_of true given = 0x400_0000
most_of false given = given.slot_size * given.slots

-- a file of so many bytes, where at most so many are wanted
abbrev pub length_checked : ℕ → ℕ → Result (Unit {0}) Status
length_checked found most = if nat_le found most then Ok tt else Err (Length found most)

-- what was shown of a file of another length is followed by that
abbrev pub ended_as : Status → ℕ → ℕ → Status
ended_as Done found wanted = if found == wanted then Done else Length found wanted
ended_as other found wanted = other

-- what was said of a medium that is not shown is followed by why
abbrev pub named_as : Status → Unread → Status
named_as Done unread = statuses.Unread unread
named_as other unread = other
