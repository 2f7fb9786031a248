-- Which bytes are mapped, one address at a time.
use Rattle.std.specs.Prelude.{◌≡◌, ℕ, ◌+◌, ◌<◌, ◌≤◌, ◌⊎◌, List, [], ◌∷◌, Result, Ok, Err}
use Rattle.apei_tables.specs.declared.registers.Place.{Place}
use Rattle.apei_tables.specs.declared.registers.Place.TheVariants.{Memory, Io}
use Rattle.apei_space.specs.declared.windows.Window.{Window}
use Rattle.apei_space.specs.Windows.{address_of}

-- of n bytes from a base on, one stands at a place
abbrev pub Holds : Place → ℕ → Place → Type 0
Holds (Memory base) n (Memory at) = (base ≤ at) × (at < base + n)
Holds (Io base) n (Io at) = (base ≤ at) × (at < base + n)
Holds (Memory base) n (Io at) = ⊥
Holds (Io base) n (Memory at) = ⊥

-- a window holds the byte of a place
abbrev pub IsMapped : List Window → Place → Type 0
IsMapped [] at = ⊥
IsMapped (window ∷ windows) at = Holds window.place window.len at ⊎ IsMapped windows at

-- the place so many bytes further
abbrev pub further : Place → ℕ → Place
further (Memory at) k = Memory (at + k)
further (Io at) k = Io (at + k)

-- byte k of an access is the first that no window holds, and stands at an address
pub record IsFirstUnmapped (windows : List Window) (at : Place) (n k address : ℕ) : Type 0 where
  pub within : k < n
  pub address_is : address ≡ address_of at + k
  pub unmapped : ¬ IsMapped windows (further at k)
  pub mapped_before : (j : ℕ) → j < k → IsMapped windows (further at j)

-- what an access of n bytes finds: all of them are mapped, or the address of the first that is not
abbrev pub FindsBytes : List Window → Place → ℕ → Result ℕ ℕ → Type 0
FindsBytes windows at n (Ok start) = (k : ℕ) → k < n → IsMapped windows (further at k)
FindsBytes windows at n (Err address) = (k : ℕ) × IsFirstUnmapped windows at n k address

-- windows hold each of n bytes
abbrev pub AreMapped : List Window → Place → ℕ → Type 0
AreMapped windows at n = (k : ℕ) → k < n → IsMapped windows (further at k)

-- n bytes at one place and m at another have none in common
abbrev pub AreDisjoint : Place → ℕ → Place → ℕ → Type 0
AreDisjoint (Memory at) n (Memory other) m = (at + n ≤ other) ⊎ (other + m ≤ at)
AreDisjoint (Io at) n (Io other) m = (at + n ≤ other) ⊎ (other + m ≤ at)
AreDisjoint (Memory at) n (Io other) m = Unit {0}
AreDisjoint (Io at) n (Memory other) m = Unit {0}
