-- The record map: what the commands on records make of it, and when each is refused. It knows no flash.
use Rattle.std.specs.Prelude.{◌≡◌, ℕ, zero, suc, ◌+◌, ◌-◌, ◌*◌, ◌/◌, ◌^◌, ◌<◌, ◌≤◌, false, ◌==◌, ◌||◌, nat_lt, if◌then◌else◌, List, length, Option, Some, None, is_none, is_some, IsSome}
use Rattle.std.specs.FinMap.{get, insert, remove, len}
use Rattle.base_model.specs.Layout.{Layout, room_of}
use Rattle.record_model.specs.Records.{Stored, is_reserved, parts_of, part_len, parts_in}

-- a command. An oversize write is one of a record of so many bytes, which is longer than the longest record
pub data Command : Type 0 where
  Write : (id : ℕ) (bytes : List ℕ) → Command
  WriteOversize : (len room : ℕ) → Command
  Clear : (id : ℕ) → Command
  Read : (id : ℕ) → Command
  Count : Command
  Next : Command

-- why a command is refused
pub data Refusal : Type 0 where
  Failed : Refusal
  NoSpace : Refusal
  NotFound : Refusal
  Empty : Refusal
  TooLong : Refusal

abbrev pub LAST_GENERATION : ℕ
LAST_GENERATION = 2 ^ 32 - 1

-- the generation that a write gives
abbrev pub next_generation : Option (List ℕ × ℕ) → ℕ
next_generation None = 1
next_generation (Some kept) = kept.1 + 1

-- why a command is refused by the map of a store of this layout: the first that applies. A write of a new identifier leaves one slot
-- free for the replacements to come. A read of identifier 0 asks for the least one
unfoldable pub refusal_of : Layout → Command → Stored → Option Refusal
refusal_of layout (Write id bytes) stored =
    let free = layout.slots - parts_in (room_of layout) stored in
    let parts = parts_of (room_of layout) (length bytes) in
    if is_reserved id then Some Failed
    else (if elim (get stored id) [ None ↦ false | Some kept ↦ kept.1 == LAST_GENERATION ] then Some Failed
    else (if nat_lt free (elim (get stored id) [ None ↦ parts + 1 | Some kept ↦ parts ]) then Some NoSpace
    else None))
refusal_of layout (WriteOversize size room) stored = Some TooLong
refusal_of layout (Clear id) stored =
    if is_reserved id then Some Failed
    else (if is_some (get stored id) then None else Some NotFound)
refusal_of layout (Read id) stored =
    if len stored == 0 then Some Empty
    else (if (id == 0) || is_some (get stored id) then None else Some NotFound)
refusal_of layout Count stored = None
refusal_of layout Next stored = None

-- what a command makes of the map
unfoldable pub made_by : Command → Stored → Stored
made_by (Write id bytes) stored = insert stored id (bytes, next_generation (get stored id))
made_by (WriteOversize size room) stored = stored
made_by (Clear id) stored = remove stored id
made_by (Read id) stored = stored
made_by Count stored = stored
made_by Next stored = stored

-- the map after a command, which a refused one leaves as it is
unfoldable pub after : Layout → Command → Stored → Stored
after layout command stored = if is_none (refusal_of layout command stored) then made_by command stored else stored

-- the least stored identifier above a cursor; none where none is above it
abbrev pub IsNextAbove : ℕ → Stored → Option ℕ → Type 0
IsNextAbove cursor stored None = (id : ℕ) → cursor < id → get stored id ≡ None
IsNextAbove cursor stored (Some id) =
    (cursor < id) × IsSome (get stored id) × ((other : ℕ) → cursor < other → IsSome (get stored other) → id ≤ other)

-- the flash changes that so many bytes take, one for each 256 bytes or part of them
abbrev pub pieces_of : ℕ → ℕ
pieces_of size = (size + 255) / 256

-- the flash changes that the bytes of the first n parts of a record of so many bytes take
unfoldable pub pieces_of_parts : ℕ → ℕ → ℕ → ℕ
pieces_of_parts room size zero = 0
pieces_of_parts room size (suc n) = pieces_of_parts room size n + pieces_of (part_len room size n)

-- and those that fill the slots of these parts: for each slot the erases, the head and the tail mark, and the pieces
abbrev pub changes_of_parts : Layout → ℕ → ℕ → ℕ
changes_of_parts layout size n = n * (layout.per_slot + 2) + pieces_of_parts (room_of layout) size n

-- the flash changes that a command takes which is not refused: a write fills the slot of each part, opens the gate of the
-- first one, and kills the first slot of the record that it replaces; a clear kills a slot
unfoldable pub changes_of : Layout → Command → Stored → ℕ
changes_of layout command stored =
    if is_none (refusal_of layout command stored) then elim command [
      | Write id bytes ↦
          let filling = changes_of_parts layout (length bytes) (parts_of (room_of layout) (length bytes)) in
          elim (get stored id) [ None ↦ filling + 1 | Some kept ↦ filling + 2 ]
      | Clear id ↦ 1
      | other ↦ 0
    ]
    else 0
