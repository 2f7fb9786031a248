-- Room for what is written.
use Rattle.std.specs.Prelude.{◌≡◌, ℕ, ◌<◌, ◌≤◌, Result, MatchResult}
use Rattle.apei_bytes.specs.declared.room.NoRoom.{NoRoom}

-- it fails exactly where there are fewer than these bytes, and says how many it needs
abbrev pub NeedsRoom : {T : Type 0} → ℕ → ℕ → Result T NoRoom → Type 0
NeedsRoom need room result = MatchResult result (λ _. need ≤ room) (λ e. (room < need) × (e.need ≡ need))
