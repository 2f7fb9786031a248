-- Windows of which those that adjoin are joined.
use Rattle.std.specs.Prelude.{ℕ, ◌+◌, ◌<◌, ◌==◌, Bool, false, if◌then◌else◌, List, [], ◌∷◌}
use Rattle.apei_tables.specs.declared.registers.Place.{Place}
use Rattle.apei_tables.specs.declared.registers.Place.TheVariants.{Memory, Io}
use Rattle.apei_space.specs.declared.windows.Window.{Window}
use Rattle.apei_space.specs.Windows.{EndsBelow, AreApart}
use Rattle.ghes_hub.specs.Places.{IsOff}

abbrev pub follows_at : Place → ℕ → Place → Bool
follows_at (Memory base) n (Memory next) = base + n == next
follows_at (Io base) n (Io next) = base + n == next
follows_at (Memory base) n (Io next) = false
follows_at (Io base) n (Memory next) = false

-- the second window begins where the first one ends
abbrev pub follows : Window → Window → Bool
follows first second = follows_at first.place first.len second.place

-- windows with one more, joined to those that it adjoins
abbrev pub joins : List Window → Window → List Window
joins [] new = new ∷ []
joins (window ∷ windows) new =
    if follows window new then joins windows (record { place = window.place; len = window.len + new.len })
    else if follows new window then joins windows (record { place = new.place; len = new.len + window.len })
    else window ∷ joins windows new

-- ranges that have bytes, end below the last address, and have no byte in common with earlier ones
abbrev pub AreFree : List Window → List Window → Type 0
AreFree earlier [] = Unit {0}
AreFree earlier (range ∷ ranges) = (0 < range.len) × EndsBelow range.place range.len × IsOff earlier range.place range.len × AreFree (range ∷ earlier) ranges

-- windows that are apart, and a new one that is off them all
pub record MayJoin (windows : List Window) (new : Window) : Type 0 where
  pub apart : AreApart windows
  pub ends : EndsBelow new.place new.len
  pub off : IsOff windows new.place new.len
