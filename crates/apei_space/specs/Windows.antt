-- Windows of plain bytes.
use Rattle.std.specs.Prelude.{ℕ, ◌+◌, ◌-◌, ◌<◌, ◌^◌, ◌⊎◌, nat_le, ◌==◌, if◌then◌else◌, List, [], ◌∷◌, Option, Some, None}
use Rattle.apei_tables.specs.declared.registers.Place.{Place}
use Rattle.apei_tables.specs.declared.registers.Place.TheVariants.{Memory, Io}
use Rattle.apei_space.specs.declared.windows.Window.{Window}

abbrev pub address_of : Place → ℕ
address_of (Memory at) = at
address_of (Io at) = at

-- how many of the n bytes from a base on stand at an address or behind it, 0 where the address is none of theirs
abbrev pub room_in : ℕ → ℕ → ℕ → ℕ
room_in base n at = if nat_le base at then n - (at - base) else 0

-- of n bytes from a place on, those at a place or behind it; memory and I/O are apart
abbrev pub room_from : Place → ℕ → Place → ℕ
room_from (Memory base) n (Memory at) = room_in base n at
room_from (Io base) n (Io at) = room_in base n at
room_from (Memory base) n (Io at) = 0
room_from (Io base) n (Memory at) = 0

abbrev pub room : Window → Place → ℕ
room window at = room_from window.place window.len at

-- the bytes of all windows
abbrev pub total : List Window → ℕ
total [] = 0
total (window ∷ windows) = window.len + total windows

-- where the byte of a place stands among the bytes of all windows, which stand one after another from an index on, and
-- how many its window holds from there on
abbrev pub location : List Window → ℕ → Place → Option (ℕ × ℕ)
location [] start at = None
location (window ∷ windows) start at =
    if room window at == 0 then location windows (start + window.len) at else Some (start + (window.len - room window at), room window at)

-- two windows are in different spaces, or there is an address between them
abbrev pub IsApart : Place → ℕ → Place → ℕ → Type 0
IsApart (Memory base) n (Memory other) m = (base + n < other) ⊎ (other + m < base)
IsApart (Io base) n (Io other) m = (base + n < other) ⊎ (other + m < base)
IsApart (Memory base) n (Io other) m = Unit {0}
IsApart (Io base) n (Memory other) m = Unit {0}

abbrev pub IsApartFrom : Window → List Window → Type 0
IsApartFrom window [] = Unit {0}
IsApartFrom window (other ∷ others) = IsApart window.place window.len other.place other.len × IsApartFrom window others

-- it ends below the last address
abbrev pub EndsBelow : Place → ℕ → Type 0
EndsBelow (Memory base) n = base + n < 2 ^ 64
EndsBelow (Io base) n = base + n < 2 ^ 64

-- windows that don't touch each other, and hold no byte from 2 ^ 64 - 1 on
abbrev pub AreApart : List Window → Type 0
AreApart [] = Unit {0}
AreApart (window ∷ windows) = EndsBelow window.place window.len × IsApartFrom window windows × AreApart windows
