-- The accesses of a listing.
use Rattle.std.proofs.Common.{◌≡◌, ◌∙◌, ℕ, ◌+◌, ◌*◌, ◌<◌, ◌≤◌, Bool, false, List, length, Option, Some, Result, refl, subst, arith}
use Rattle.std.proofs.lemmas.Option.{none-some}
use Rattle.std.proofs.lemmas.Nat.{mul-le}
use Rattle.apei_space.specs.declared.faults.SpaceFault.{SpaceFault}
use Rattle.erst_entries.specs.declared.actions.Action.{Action}
use Rattle.erst_entries.specs.declared.actions.Action.TheVariants.{GetRecordIdentifier}
use Rattle.erst_entries.specs.declared.entries.Entry.{Entry}
use Rattle.erst_interp.specs.declared.demands.Demand.{Demand}
use Rattle.erst_interp.specs.Told.{bound, demanded}
use Rattle.erst_client.specs.declared.asking.Asking.{Asking}
use Rattle.erst_client.specs.declared.errors.ClientError.{ClientError}
use Rattle.erst_client.specs.Asking.{asking_first, asking_answered, AskingMoves}
use Rattle.erst_listing.specs.declared.listing.Listing.{Listing}
use Rattle.erst_listing.specs.declared.listing.Listing.TheVariants.{Asking as Asks, Ended}
use Rattle.erst_listing.specs.Listing.{listing_first, listing_answered, listing_demanded, listed_by, listing_bound, questions_left, IsHeard, IsOver, IsAsked, ListingMoves, IsThere, Hears, Runs}
use Rattle.erst_listing.proofs.HeardLemmas.{heard_lowers, room_heard}

-- the laws on the accesses of one request
pub record AskingBounds : Type 0 where
  pub begins : (entries : List Entry) (action : Action) (steps : ℕ) → bound (asking_first entries action steps).state steps ≤ 4 * steps
  pub moves : (entries : List Entry) (old at : Asking) → AskingMoves entries old at → bound at.state at.left ≤ bound old.state old.left
  pub answered : (at : Asking) (answer : Result ℕ SpaceFault) (demand : Demand) → demanded at.state ≡ Some demand → bound (asking_answered at answer).state
      (asking_answered at answer).left < bound at.state at.left

-- one question fewer
fewer : (n m x : ℕ) → n < m → n * x + x ≤ m * x
fewer n m x less = let le = mul-le (n + 1) x m x (omega (arith, less)) (omega arith) in let step = one n x in omega (arith, le, step)
  where
    one : (n x : ℕ) → (n + 1) * x ≡ n * x + x
    one n x = grind arith

module _ (bounds : AskingBounds) (entries : List Entry) (steps : ℕ) where
  pub bound_begins : (room : ℕ) → listing_bound steps room (listing_first entries steps) ≤ (room + 2) * (4 * steps)
  bound_begins room = let less = fewer (questions_left room 0 false) (room + 2) (4 * steps) (omega arith) in let first = bounds.begins entries GetRecordIdentifier steps in omega (arith, less, first)

  bound_heard : (listed : ℕ) (ended_once : Bool) (asking : Asking) (held : List ℕ) (answer : Result (Option ℕ) ClientError) (heard : Listing) (after : List ℕ) → listed ≤ length held →
      IsHeard entries steps listed ended_once held answer heard after → listing_bound steps (length held) heard ≤ listing_bound steps (length held) (Asks listed ended_once asking)
  bound_heard listed ended_once asking held answer heard after fits how =
      elim how as (λ (answer : Result (Option ℕ) ClientError) (heard : Listing) (after : List ℕ) how. listing_bound steps (length held) heard ≤ listing_bound
      steps (length held) (Asks listed ended_once asking)) [
        | IsOver answer result ends ↦ omega arith
        | IsAsked answer count ends after on counts same rest ↦
            let fewer_left = heard_lowers entries steps listed ended_once held count ends answer after fits counts on in
            let less = fewer (questions_left (length held) count ends) (questions_left (length held) listed ended_once) (4 * steps) fewer_left in
            let first = bounds.begins entries GetRecordIdentifier steps in
            omega (arith, less, first)
      ]

  -- where it has moved to, the buffer has the same length, and no more accesses are left
  record HasMoved (old : Listing) (before : List ℕ) (at : Listing) (after : List ℕ) : Type 0 where
    fits : listed_by at ≤ length after
    same : length after ≡ length before
    less : listing_bound steps (length before) at ≤ listing_bound steps (length before) old

  has_moved : (old : Listing) (before : List ℕ) (at : Listing) (after : List ℕ) → listed_by old ≤ length before → ListingMoves entries steps old before at after → HasMoved old before at after
  has_moved old before at after fits IsThere = record { fits = fits; same = refl; less = omega arith }
  has_moved old before at after fits (Hears listed ended_once was asking held answer heard later moves runs named how) =
      let from = has_moved old before (Asks listed ended_once was) held fits moves in
      let room = room_heard entries steps listed ended_once held answer heard later from.fits how in
      let less = subst (λ (n : ℕ). listing_bound steps n heard ≤ listing_bound steps n (Asks listed ended_once was)) from.same
      (bound_heard listed ended_once was held answer heard later from.fits how) in
      let less_from = from.less in
      record { fits = room.0; same = room.1 ∙ from.same; less = omega (arith, less, less_from) }
  has_moved old before at after fits (Runs listed ended_once was asking held moves runs) =
      let from = has_moved old before (Asks listed ended_once was) held fits moves in
      let less = bounds.moves entries was asking runs in
      let less_from = from.less in
      record { fits = from.fits; same = from.same; less = omega (arith, less, less_from) }

  pub bound_moves : (old at : Listing) (before after : List ℕ) → listed_by old ≤ length before → ListingMoves entries steps old before at after →
      listing_bound steps (length before) at ≤ listing_bound steps (length before) old
  bound_moves old at before after fits moves = (has_moved old before at after fits moves).less

pub bound_answered : AskingBounds → (steps room : ℕ) (at : Listing) (answer : Result ℕ SpaceFault) (demand : Demand) → listing_demanded at ≡ Some demand →
    listing_bound steps room (listing_answered at answer) < listing_bound steps room at
bound_answered bounds steps room (Asks listed ended_once asking) answer demand is = let less = bounds.answered asking answer demand is in omega (arith, less)
bound_answered bounds steps room (Ended listed result) answer demand is = absurd (none-some demand is)
