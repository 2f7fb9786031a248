-- A listing of the identifiers of a port.
use Rattle.std.specs.Prelude.{◌≡◌, ℕ, ◌<◌, ◌≤◌, List, [], ◌∷◌, Contains, IsSome, Option, Some, None, Result, Ok, Err}
use Rattle.std.specs.FinMap.{get}
use Rattle.record_model.specs.Records.{Stored}
use Rattle.record_model.specs.RecordMap.{IsNextAbove}
use Rattle.erst_client.specs.declared.errors.ClientError.{ClientError}
use Rattle.erst_commands.specs.Runs.{CallFrom, IsNext}
use Rattle.erst_listing.specs.declared.errors.ListError.{ListError}
use Rattle.erst_listing.specs.Gathering.{Lists as ListsBy}
use Rattle.erst_listing.specs.Listing.{questions}
use Rattle.erst_port.specs.declared.windows.Addresses.{Addresses}
use Rattle.port_laws.specs.PortSpaces.{SpaceState, Goes}
use Rattle.port_laws.specs.PortClients.{port_table}

-- the next identifier is asked for again and again, with nothing else in between, and these are told
pub data Lists (addresses : Addresses) : (first : SpaceState) → List ℕ → (last : SpaceState) → Type 0 where
  NoneTold : (first : SpaceState) → Lists addresses first [] first
  OneTold : (first last : SpaceState) (id : ℕ) (ids : List ℕ) (run : CallFrom first (Option ℕ)) → IsNext (port_table addresses) run → run.answer ≡ Ok (Some id)
      → Lists addresses run.last ids last → Lists addresses first (id ∷ ids) last

-- a listing, and the next call behind it
pub record Listing (addresses : Addresses) : Type 0 where
  pub first : SpaceState
  pub ids : List ℕ
  pub last : SpaceState
  pub lists : Lists addresses first ids last
  pub next : CallFrom last (Option ℕ)
  pub asks : IsNext (port_table addresses) next

-- numbers above a first one, each greater than the one before
abbrev pub Rising : (low : ℕ) → List ℕ → Type 0
Rising low [] = Unit {0}
Rising low (id ∷ ids) = (low < id) × Rising id ids

-- the stored identifiers above a cursor
pub record AreAllAbove (cursor : ℕ) (stored : Stored) (ids : List ℕ) : Type 0 where
  pub are_stored : (id : ℕ) → Contains ids id → IsSome (get stored id)
  pub all : (id : ℕ) → cursor < id → IsSome (get stored id) → Contains ids id

-- the stored identifiers
pub record AreAll (stored : Stored) (ids : List ℕ) : Type 0 where
  pub are_stored : (id : ℕ) → Contains ids id → IsSome (get stored id)
  pub all : (id : ℕ) → IsSome (get stored id) → Contains ids id

-- an answer that is no greater identifier
abbrev pub IsNotGreater : (cursor : ℕ) → Result (Option ℕ) ClientError → Type 0
IsNotGreater cursor (Ok (Some id)) = id ≤ cursor
IsNotGreater cursor (Ok None) = Unit {0}
IsNotGreater cursor (Err error) = ⊥

-- the first of all, or none where none is stored
pub data StartsAnew (stored : Stored) : Result (Option ℕ) ClientError → Type 0 where
  IsLeast : (id : ℕ) → IsNextAbove 0 stored (Some id) → StartsAnew stored (Ok (Some id))
  IsEmpty : IsNextAbove 0 stored None → StartsAnew stored (Ok None)

-- a listing of `erst_listing` over a port, whose questions have so many steps
abbrev pub ListsPort : Addresses → (steps room : ℕ) → SpaceState → Result (Unit {0}) ListError → List ℕ → SpaceState → Type 0
ListsPort addresses steps room first result ids last = ListsBy (questions (Goes addresses) (port_table addresses).entries steps) room first result ids last
