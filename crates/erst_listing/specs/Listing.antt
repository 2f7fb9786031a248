-- A listing that makes no access itself.
use Rattle.std.specs.Prelude.{◌≡◌, ℕ, ◌+◌, ◌-◌, ◌*◌, ◌≤◌, if◌then◌else◌, Bool, true, false, List, length, take, drop, Option, Some, None, Result, Ok}
use Rattle.apei_space.specs.declared.faults.SpaceFault.{SpaceFault}
use Rattle.apei_space.specs.Calls.{Call}
use Rattle.erst_entries.specs.declared.actions.Action.TheVariants.{GetRecordIdentifier}
use Rattle.erst_entries.specs.declared.entries.Entry.{Entry}
use Rattle.erst_interp.specs.declared.demands.Demand.{Demand}
use Rattle.erst_interp.specs.Told.{demanded, ended, bound, is_sound_state}
use Rattle.erst_client.specs.declared.asking.Asking.{Asking}
use Rattle.erst_client.specs.declared.errors.ClientError.{ClientError}
use Rattle.erst_client.specs.Asking.{asking_first, asking_answered, named_by, AskingMoves, AskingStands, AskingMade}
use Rattle.erst_client.specs.Finding.{awaits}
use Rattle.erst_client.specs.Commands.{Names}
use Rattle.erst_listing.specs.declared.errors.ListError.{ListError}
use Rattle.erst_listing.specs.declared.listing.Listing.{Listing}
use Rattle.erst_listing.specs.declared.listing.Listing.TheVariants.{Asking as Asks, Ended}
use Rattle.erst_listing.specs.Gathering.{GoesOn, Ends, Gathers, Lists}

-- one more question
abbrev pub asked : List Entry → ℕ → ℕ → Bool → Listing
asked entries steps listed ended_once = Asks listed ended_once (asking_first entries GetRecordIdentifier steps)

abbrev pub listing_first : List Entry → ℕ → Listing
listing_first entries steps = asked entries steps 0 false

abbrev pub listing_demanded : Listing → Option Demand
listing_demanded (Asks listed ended_once asking) = demanded asking.state
listing_demanded (Ended listed result) = None

abbrev pub listing_answered : Listing → Result ℕ SpaceFault → Listing
listing_answered (Asks listed ended_once asking) answer = Asks listed ended_once (asking_answered asking answer)
listing_answered (Ended listed result) answer = Ended listed result

abbrev pub listing_result : Listing → Option (Result (Unit {0}) ListError)
listing_result (Asks listed ended_once asking) = None
listing_result (Ended listed result) = Some result

-- so many identifiers stand at the front of the buffer
abbrev pub listed_by : Listing → ℕ
listed_by (Asks listed ended_once asking) = listed
listed_by (Ended listed result) = listed

abbrev pub is_sound_listing : Listing → Bool
is_sound_listing (Asks listed ended_once asking) = is_sound_state asking.state
is_sound_listing (Ended listed result) = true

-- it can't go on without an access
abbrev pub is_settled_listing : Listing → Bool
is_settled_listing (Asks listed ended_once asking) = awaits asking.state
is_settled_listing (Ended listed result) = true

-- where an answer leads, with the buffer before and after
pub data IsHeard (entries : List Entry) (steps listed : ℕ) (ended_once : Bool) (held : List ℕ) : Result (Option ℕ) ClientError → Listing → List ℕ → Type 0 where
  IsOver : (answer : Result (Option ℕ) ClientError) (result : Result (Unit {0}) ListError) → Ends (length held) (take listed held) ended_once answer result →
      IsHeard entries steps listed ended_once held answer (Ended listed result) held
  IsAsked : (answer : Option ℕ) (count : ℕ) (ends : Bool) (after : List ℕ) → GoesOn (length held) (take listed held) ended_once answer (take count after) ends → count ≤ length after →
      length after ≡ length held → drop count after ≡ drop count held → IsHeard entries steps listed ended_once held (Ok answer) (asked entries steps count ends) after

-- from one question to the next without an access
pub data ListingMoves (entries : List Entry) (steps : ℕ) (first : Listing) (held : List ℕ) : Listing → List ℕ → Type 0 where
  IsThere : ListingMoves entries steps first held first held
  Hears : (listed : ℕ) (ended_once : Bool) (old asking : Asking) (now : List ℕ) (answer : Result (Option ℕ) ClientError) (heard : Listing) (after : List ℕ) →
      ListingMoves entries steps first held (Asks listed ended_once old) now → AskingMoves entries old asking → named_by (ended asking.state) ≡ Some answer →
      IsHeard entries steps listed ended_once now answer heard after → ListingMoves entries steps first held heard after
  Runs : (listed : ℕ) (ended_once : Bool) (old asking : Asking) (now : List ℕ) → ListingMoves entries steps first held (Asks listed ended_once old) now → AskingMoves entries old asking →
      ListingMoves entries steps first held (Asks listed ended_once asking) now

-- a question over a space: GET_RECORD_IDENTIFIER, each time with so many steps
abbrev pub questions : {W : Type 0} → (W → Call → W → Type 0) → List Entry → ℕ → W → Result (Option ℕ) ClientError → W → Type 0
questions allows entries steps old answer last = (left : ℕ) × Names allows entries steps old answer left last

-- the questions so far were asked over the space, and one more stands here
pub record IsListing {W : Type 0} (allows : W → Call → W → Type 0) (entries : List Entry) (steps room : ℕ) (first : W) (ids : List ℕ) (ended_once : Bool) (asking : Asking) (now : W) : Type 0 where
  pub mid : W
  pub gathers : Gathers (questions allows entries steps) room first ids ended_once mid
  pub stands : AskingStands allows entries GetRecordIdentifier steps mid asking now

-- a listing over the space, which began in `first`, stands here, and its buffer holds this
abbrev pub ListingStands : {W : Type 0} → (W → Call → W → Type 0) → List Entry → ℕ → ℕ → W → Listing → List ℕ → W → Type 0
ListingStands allows entries steps room first (Asks listed ended_once asking) held now =
    (listed ≤ length held) × (length held ≡ room) × IsListing allows entries steps room first (take listed held) ended_once asking now
ListingStands allows entries steps room first (Ended listed result) held now =
    (listed ≤ length held) × (length held ≡ room) × Lists (questions allows entries steps) room first result (take listed held) now

-- what the access that it tells, with its answer, does to a space
abbrev pub ListingMade : {W : Type 0} → (W → Call → W → Type 0) → Listing → W → Result ℕ SpaceFault → W → Type 0
ListingMade allows (Asks listed ended_once asking) now answer last = AskingMade allows asking now answer last
ListingMade allows (Ended listed result) now answer last = ⊥

-- at least the questions that are still asked after this one
abbrev pub questions_left : ℕ → ℕ → Bool → ℕ
questions_left room listed ended_once = (room - listed) + (if ended_once then 0 else 1)

-- at least the accesses that the listing still makes
abbrev pub listing_bound : ℕ → ℕ → Listing → ℕ
listing_bound steps room (Asks listed ended_once asking) = questions_left room listed ended_once * (4 * steps) + bound asking.state asking.left
listing_bound steps room (Ended listed result) = 0
