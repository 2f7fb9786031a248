-- Commands with their answers, one after another: what the map answers each, and the map and the cursor that it leaves.
use Rattle.std.specs.Prelude.{◌≡◌, ◌≢◌, ℕ, ◌⊎◌, Bool, true, false, if◌then◌else◌, List, [], ◌∷◌, Option, Some, None}
use Rattle.std.specs.FinMap.{get, len}
use Rattle.base_model.specs.Layout.{Layout}
use Rattle.record_model.specs.Records.{Stored, is_reserved}
use Rattle.record_model.specs.RecordMap.{Command, Write, WriteOversize, Clear, Read, Count, Next, Refusal, NotFound, IsNextAbove, refusal_of, after}

-- how a command was answered: a write or clear is done, a read shows the record of an identifier, a count is a number,
-- and next is an identifier or the end; a command may be refused by the map, or failed by the flash
pub data Answer : Type 0 where
  Done : Answer
  Shown : (id : ℕ) (bytes : List ℕ) → Answer
  Counted : ℕ → Answer
  Found : Option ℕ → Answer
  Refused : Refusal → Answer
  Hardware : Answer

-- a command that was played: its answer, and whether the map took it
pub record Played : Type 0 where
  pub command : Command
  pub answer : Answer
  pub taken : Bool

-- the identifier that a read names: 0 names the least one
abbrev pub IsNamed : ℕ → ℕ → Stored → Type 0
IsNamed id found stored = ((id ≢ 0) × (found ≡ id)) ⊎ ((id ≡ 0) × IsNextAbove 0 stored (Some found))

-- what the map answers a command that it does not refuse, with the cursor of next at this identifier
abbrev pub IsDone : Command → Answer → ℕ → Stored → Type 0
IsDone (Write id bytes) Done cursor stored = Unit {0}
IsDone (Clear id) Done cursor stored = Unit {0}
IsDone (Read id) (Shown found bytes) cursor stored =
    IsNamed id found stored × ((generation : ℕ) × (get stored found ≡ Some (bytes, generation)))
IsDone Count (Counted n) cursor stored = n ≡ len stored
IsDone Next (Found found) cursor stored = IsNextAbove cursor stored found
IsDone command answer cursor stored = ⊥

-- a command asks the store, and so may meet a flash that fails
abbrev pub AsksStore : Command → Type 0
AsksStore (Write id bytes) = is_reserved id ≡ false
AsksStore (WriteOversize size room) = ⊥
AsksStore (Clear id) = is_reserved id ≡ false
AsksStore (Read id) = Unit {0}
AsksStore Count = Unit {0}
AsksStore Next = Unit {0}

-- the answer that a map of this layout gives. A command that the flash failed is in or out of the map
abbrev pub IsAnswered : Layout → ℕ → Command → Answer → Bool → Stored → Type 0
IsAnswered layout cursor command (Refused refusal) taken stored = (refusal_of layout command stored ≡ Some refusal) × (taken ≡ false)
IsAnswered layout cursor command Hardware taken stored = AsksStore command
IsAnswered layout cursor command answer taken stored =
    (refusal_of layout command stored ≡ None) × IsDone command answer cursor stored × (taken ≡ true)

-- the cursor after a command: the identifier that was shown or found, and the start after the end or after a read of what
-- is not there
abbrev pub cursor_after : Command → Answer → ℕ → ℕ
cursor_after command (Shown id bytes) cursor = id
cursor_after command (Found (Some id)) cursor = id
cursor_after command (Found None) cursor = 0
cursor_after (Read id) (Refused NotFound) cursor = 0
cursor_after command answer cursor = cursor

-- the map that a played command leaves
abbrev pub left_by : Layout → Played → Stored → Stored
left_by layout played stored = if played.taken then after layout played.command stored else stored

-- each command is answered by the map and the cursor that the ones before it leave
abbrev pub AreAnswered : Layout → ℕ → List Played → Stored → Type 0
AreAnswered layout cursor [] stored = Unit {0}
AreAnswered layout cursor (played ∷ rest) stored =
    IsAnswered layout cursor played.command played.answer played.taken stored
    × AreAnswered layout (cursor_after played.command played.answer cursor) rest (left_by layout played stored)
