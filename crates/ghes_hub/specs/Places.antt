-- The bytes of a source, as windows, and bytes that have none in common with them.
use Rattle.std.specs.Prelude.{ℕ, List, [], ◌∷◌}
use Rattle.apei_tables.specs.declared.registers.Place.{Place}
use Rattle.apei_tables.specs.declared.registers.Place.TheVariants.{Memory}
use Rattle.apei_space.specs.declared.windows.Window.{Window}
use Rattle.apei_space.specs.Mapped.{AreDisjoint}
use Rattle.ghes_ack.specs.Maps.{ack_bytes}
use Rattle.ghes_hub.specs.declared.layouts.Layout.{Layout}
use Rattle.ghes_hub.specs.declared.layouts.Layout.TheVariants.{Acknowledged, Plain}

-- the block's address, the acknowledge register if there is one, and the block
abbrev pub layout_windows : Layout → List Window
layout_windows (Acknowledged map) =
    record { place = Memory map.status; len = 8 }
    ∷ record { place = map.ack.place; len = ack_bytes map }
    ∷ record { place = Memory map.block; len = map.len }
    ∷ []
layout_windows (Plain map) = record { place = Memory map.status; len = 8 } ∷ record { place = Memory map.window.block; len = map.window.len } ∷ []

-- n bytes at a place have none in common with any of some windows
abbrev pub IsOff : List Window → Place → ℕ → Type 0
IsOff [] at n = Unit {0}
IsOff (window ∷ windows) at n = AreDisjoint at n window.place window.len × IsOff windows at n

-- no window of the second list has a byte in common with one of the first
abbrev pub AreClear : List Window → List Window → Type 0
AreClear windows [] = Unit {0}
AreClear windows (other ∷ others) = IsOff windows other.place other.len × AreClear windows others
