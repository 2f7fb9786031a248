-- What a listing gathers by the answers of GET_RECORD_IDENTIFIER. `asks` says what a question does, with its answer.
use Rattle.std.specs.Prelude.{◌≡◌, ℕ, ◌<◌, Bool, true, false, List, [], ◌∷◌, ◌++◌, length, Contains, Option, Some, None, Result, Ok, Err}
use Rattle.erst_client.specs.declared.errors.ClientError.{ClientError}
use Rattle.erst_listing.specs.declared.errors.ListError.{ListError}
use Rattle.erst_listing.specs.declared.errors.ListError.TheVariants.{Full, Refused}

-- an answer after which one more question is asked: the identifiers so far, and whether it was said once that no more come
pub data GoesOn (room : ℕ) (ids : List ℕ) (ended_once : Bool) : Option ℕ → List ℕ → Bool → Type 0 where
  IsNew : (id : ℕ) (more : List ℕ) → (Contains ids id → ⊥) → length ids < room → more ≡ ids ++ id ∷ [] → GoesOn room ids ended_once (Some id) more ended_once
  EndsOnce : ended_once ≡ false → GoesOn room ids ended_once None ids true

-- an answer after which none is: an identifier comes again, it is said again that no more come, or there is no room
pub data Ends (room : ℕ) (ids : List ℕ) (ended_once : Bool) : Result (Option ℕ) ClientError → Result (Unit {0}) ListError → Type 0 where
  ComesAgain : (id : ℕ) → Contains ids id → Ends room ids ended_once (Ok (Some id)) (Ok tt)
  EndsAgain : ended_once ≡ true → Ends room ids ended_once (Ok None) (Ok tt)
  HasNoRoom : (id : ℕ) → (Contains ids id → ⊥) → length ids ≡ room → Ends room ids ended_once (Ok (Some id)) (Err Full)
  IsRefused : (error : ClientError) → Ends room ids ended_once (Err error) (Err (Refused error))

-- the questions so far, from `first` on
pub data Gathers {W : Type 0} (asks : W → Result (Option ℕ) ClientError → W → Type 0) (room : ℕ) (first : W) : List ℕ → Bool → W → Type 0 where
  NoneAsked : Gathers asks room first [] false first
  OneAsked : (ids : List ℕ) (ended_once : Bool) (mid : W) (answer : Option ℕ) (more : List ℕ) (ends : Bool) (last : W) → Gathers asks room first ids ended_once mid → asks mid (Ok answer) last
      → GoesOn room ids ended_once answer more ends → Gathers asks room first more ends last

-- a whole listing into a buffer with so much room, and the identifiers that it puts there
pub record Lists {W : Type 0} (asks : W → Result (Option ℕ) ClientError → W → Type 0) (room : ℕ) (first : W) (result : Result (Unit {0}) ListError) (ids : List ℕ) (last : W) : Type 0 where
  pub ended_once : Bool
  pub mid : W
  pub answer : Result (Option ℕ) ClientError
  pub gathers : Gathers asks room first ids ended_once mid
  pub asked : asks mid answer last
  pub ends : Ends room ids ended_once answer result
