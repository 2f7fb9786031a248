-- Windows with the places of their bytes.
use Rattle.std.specs.Prelude.{◌≡◌, ℕ, ◌+◌, ◌-◌, ◌<◌, ◌^◌, ◌==◌, if◌then◌else◌, List, [], ◌∷◌, All, length, take, get_or, slice_get, Option, Some, None, IfSome}
use Rattle.std.specs.List.Sorted.{IsPermutation, IsNonDecreasingBy}
use Rattle.apei_tables.specs.declared.registers.Place.{Place}
use Rattle.apei_space.specs.declared.windows.Window.{Window}
use Rattle.apei_space.specs.declared.windows.Stretch.{Stretch}
use Rattle.apei_space.specs.declared.guesses.Guess.{Guess}
use Rattle.apei_space.specs.Windows.{address_of, room, total, location, AreApart}

-- it is one of some windows, whose bytes stand one after another
pub record IsStretch (windows : List Window) (stretch : Stretch) : Type 0 where
  pub number : ℕ
  pub inside : number < length windows
  pub window_is : get_or windows number stretch.window ≡ stretch.window
  pub start_is : stretch.start ≡ total (take number windows)

-- those of some windows, whose bytes can be counted and which don't touch each other
pub record IsTableOf (windows : List Window) (table : List Stretch) : Type 0 where
  pub few : total windows < 2 ^ 63
  pub apart : AreApart windows
  pub are : All (IsStretch windows) table

abbrev pub IsTable : List Stretch → Type 0
IsTable table = (windows : List Window) × IsTableOf windows table

-- where the byte of a place stands is told right, if it is told
abbrev pub Tells : List Stretch → Place → Option (ℕ × ℕ) → Type 0
Tells table at told = (windows : List Window) → IsTableOf windows table → IfSome told (λ given. Some given ≡ location windows 0 at)

-- each of some windows, and where its first byte stands among those of all, which stand one after another from an index on
abbrev pub stretches_from : ℕ → List Window → List Stretch
stretches_from start [] = []
stretches_from start (window ∷ windows) = record { window = window; start = start } ∷ stretches_from (start + window.len) windows

-- every window once, in the order of the addresses
pub record IsTabulated (windows : List Window) (table : List Stretch) : Type 0 where
  pub whole : IsPermutation (stretches_from 0 windows) table
  pub in_order : IsNonDecreasingBy (λ stretch. address_of stretch.window.place) table

-- where the byte of a place stands, if the stretch of a number holds it
abbrev pub location_numbered : List Stretch → ℕ → Place → Option (ℕ × ℕ)
location_numbered table number at =
    elim (slice_get table number) [
      | None ↦ None
      | Some stretch ↦
          if room stretch.window at == 0 then None
          else Some (stretch.start + (stretch.window.len - room stretch.window at), room stretch.window at)
    ]

-- if one of two does, the first one asked first
abbrev pub location_guessed : List Stretch → Guess → Place → Option (ℕ × ℕ)
location_guessed table guess at =
    elim (location_numbered table guess.first at) [ Some found ↦ Some found | None ↦ location_numbered table guess.second at ]
