-- What a device of some identifiers answers to GET_RECORD_IDENTIFIER.
use Rattle.std.specs.Prelude.{◌≡◌, ℕ, ◌<◌, ◌≤◌, Bool, true, List, [], ◌∷◌, Contains, Option, Some, None, Result, Ok}
use Rattle.erst_client.specs.declared.errors.ClientError.{ClientError}

-- which identifiers a device has, and the place at which it tells each
pub record Told : Type 0 where
  pub has : ℕ → Bool
  pub place : ℕ → ℕ

-- no two at one place, and the places begin at 1
pub record IsInOrder (told : Told) : Type 0 where
  pub begins : (id : ℕ) → told.has id ≡ true → 0 < told.place id
  pub apart : (id other : ℕ) → told.has id ≡ true → told.has other ≡ true → told.place id ≡ told.place other → id ≡ other

-- the first one behind a place
pub record IsNextBehind (told : Told) (at id : ℕ) : Type 0 where
  pub has : told.has id ≡ true
  pub behind : at < told.place id
  pub least : (other : ℕ) → told.has other ≡ true → at < told.place other → told.place id ≤ told.place other

abbrev pub NoneBehind : Told → ℕ → Type 0
NoneBehind told at = (other : ℕ) → told.has other ≡ true → told.place other ≤ at

-- a device that stands at a place tells the first identifier behind it. After the last one it begins anew, or tells all ones first, or
-- now the one and now the other
pub data Tells (told : Told) (at : ℕ) : Result (Option ℕ) ClientError → ℕ → Type 0 where
  TellsNext : (id : ℕ) → IsNextBehind told at id → Tells told at (Ok (Some id)) (told.place id)
  GoesRound : (id : ℕ) → NoneBehind told at → IsNextBehind told 0 id → Tells told at (Ok (Some id)) (told.place id)
  TellsAllOnes : NoneBehind told at → Tells told at (Ok None) 0

-- the identifiers of a device, and no others
pub record AreAll (told : Told) (ids : List ℕ) : Type 0 where
  pub are_told : (id : ℕ) → Contains ids id → told.has id ≡ true
  pub all : (id : ℕ) → told.has id ≡ true → Contains ids id

-- each once
abbrev pub AreDistinct : List ℕ → Type 0
AreDistinct [] = Unit {0}
AreDistinct (id ∷ ids) = (Contains ids id → ⊥) × AreDistinct ids

-- some question was answered by this identifier
pub record IsAnAnswer {W : Type 0} (asks : W → Result (Option ℕ) ClientError → W → Type 0) (id : ℕ) : Type 0 where
  pub old : W
  pub new : W
  pub answers : asks old (Ok (Some id)) new
