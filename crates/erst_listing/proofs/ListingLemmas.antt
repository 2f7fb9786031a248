-- A listing that is told the answers of its accesses is its questions, one after another.
use Rattle.std.proofs.Common.{◌≡◌, ◌∙◌, ℕ, Bool, List, length, take, Option, Some, Result, refl, subst, arith}
use Rattle.std.proofs.lemmas.Option.{none-some, same_Some}
use Rattle.apei_space.specs.declared.faults.SpaceFault.{SpaceFault}
use Rattle.apei_space.specs.Calls.{Call}
use Rattle.erst_entries.specs.declared.actions.Action.{Action}
use Rattle.erst_entries.specs.declared.actions.Action.TheVariants.{GetRecordIdentifier}
use Rattle.erst_entries.specs.declared.entries.Entry.{Entry}
use Rattle.erst_interp.specs.Told.{ended}
use Rattle.erst_client.specs.declared.asking.Asking.{Asking}
use Rattle.erst_client.specs.declared.errors.ClientError.{ClientError}
use Rattle.erst_client.specs.Asking.{asking_first, asking_answered, named_by, AskingMoves, AskingStands, AskingMade}
use Rattle.erst_client.specs.Commands.{Names}
use Rattle.erst_listing.specs.declared.errors.ListError.{ListError}
use Rattle.erst_listing.specs.declared.listing.Listing.{Listing}
use Rattle.erst_listing.specs.declared.listing.Listing.TheVariants.{Asking as Asks, Ended}
use Rattle.erst_listing.specs.Gathering.{GoesOn, Ends, NoneAsked, OneAsked, Lists}
use Rattle.erst_listing.specs.Listing.{listing_first, listing_answered, listing_result, listed_by, questions, IsHeard, IsOver, IsAsked, ListingMoves, IsThere, Hears, Runs, ListingStands, ListingMade}

-- the laws on one request
pub record AskingLaws {W : Type 0} (allows : W → Call → W → Type 0) : Type 0 where
  pub begins : (entries : List Entry) (action : Action) (steps : ℕ) (first : W) → AskingStands allows entries action steps first (asking_first entries action steps) first
  pub moves : (entries : List Entry) (action : Action) (steps : ℕ) (first : W) (old at : Asking) (now : W) → AskingMoves entries old at →
      AskingStands allows entries action steps first old now → AskingStands allows entries action steps first at now
  pub answered : (entries : List Entry) (action : Action) (steps : ℕ) (first : W) (at : Asking) (now : W) (answer : Result ℕ SpaceFault) (last : W) →
      AskingStands allows entries action steps first at now → AskingMade allows at now answer last →
      AskingStands allows entries action steps first (asking_answered at answer) last
  pub names : (entries : List Entry) (steps : ℕ) (first : W) (at : Asking) (now : W) (result : Result (Option ℕ) ClientError) → named_by (ended at.state)
      ≡ Some result → AskingStands allows entries GetRecordIdentifier steps first at now →
      Names allows entries steps first result at.left now

module _ {W : Type 0} (allows : W → Call → W → Type 0) (laws : AskingLaws allows) (entries : List Entry) (steps : ℕ) where
  pub listing_begins : (held : List ℕ) (first : W) → ListingStands allows entries steps (length held) first (listing_first entries steps) held first
  listing_begins held first = (omega arith, refl, record { mid = first; gathers = NoneAsked; stands = laws.begins entries GetRecordIdentifier steps first })

  module _ (room : ℕ) (first : W) where
    -- what an answer does
    hears : (listed : ℕ) (ended_once : Bool) (old asking : Asking) (held : List ℕ) (answer : Result (Option ℕ) ClientError) (heard : Listing) (after : List ℕ)
        (now : W) → AskingMoves entries old asking →
        named_by (ended asking.state) ≡ Some answer → IsHeard entries steps listed ended_once held answer heard after → ListingStands allows entries steps room
        first (Asks listed ended_once old) held now →
        ListingStands allows entries steps room first heard after now
    hears listed ended_once old asking held answer heard after now runs named how so =
        let is = so.2 in
        let stands = laws.moves entries GetRecordIdentifier steps is.mid old asking now runs is.stands in
        (elim how as (λ (answer : Result (Option ℕ) ClientError) (heard : Listing) (after : List ℕ) how. questions allows entries steps is.mid answer now →
        ListingStands allows entries steps room first heard after now) [
          | IsOver answer result ends ↦ λ asked. (
            so.0,
            so.1,
            record {
              ended_once = ended_once;
              mid = is.mid;
              answer = answer;
              gathers = is.gathers;
              asked = asked;
              ends = subst (λ (n : ℕ). Ends n (take listed held) ended_once answer result) so.1 ends;
            },
          )
          | IsAsked answer count ends after on counts same rest ↦ λ asked. (
            counts,
            same ∙ so.1,
            record {
              mid = now;
              gathers = OneAsked (take listed held) ended_once is.mid answer (take count after) ends now is.gathers asked
                  (subst (λ (n : ℕ). GoesOn n (take listed held) ended_once answer (take count after) ends) so.1 on);
              stands = laws.begins entries GetRecordIdentifier steps now;
            },
          )
        ]) (asking.left, laws.names entries steps is.mid asking now answer named stands)

    runs_on : (listed : ℕ) (ended_once : Bool) (old asking : Asking) (held : List ℕ) (now : W) → AskingMoves entries old asking →
        ListingStands allows entries steps room first (Asks listed ended_once old) held now →
        ListingStands allows entries steps room first (Asks listed ended_once asking) held now
    runs_on listed ended_once old asking held now runs so =
        (so.0, so.1, record { mid = so.2.mid; gathers = so.2.gathers; stands = laws.moves entries GetRecordIdentifier steps so.2.mid old asking now runs so.2.stands })

    pub listing_moves : (old : Listing) (before : List ℕ) (now : W) (at : Listing) (after : List ℕ) → ListingMoves entries steps old before at after →
        ListingStands allows entries steps room first old before now →
        ListingStands allows entries steps room first at after now
    listing_moves old before now at after IsThere so = so
    listing_moves old before now at after (Hears listed ended_once was asking held answer heard later moves runs named how) so =
        hears listed ended_once was asking held answer heard later now runs named how (listing_moves old before now (Asks listed ended_once was) held moves so)
    listing_moves old before now at after (Runs listed ended_once was asking held moves runs) so =
        runs_on listed ended_once was asking held now runs (listing_moves old before now (Asks listed ended_once was) held moves so)

    pub listing_answers : (at : Listing) (held : List ℕ) (now : W) (answer : Result ℕ SpaceFault) (last : W) → ListingStands allows entries steps room first at
        held now → ListingMade allows at now answer last →
        ListingStands allows entries steps room first (listing_answered at answer) held last
    listing_answers (Asks listed ended_once asking) held now answer last so made =
        (so.0, so.1, record { mid = so.2.mid; gathers = so.2.gathers; stands = laws.answered entries GetRecordIdentifier steps so.2.mid asking now answer last so.2.stands made })
    listing_answers (Ended listed result) held now answer last so made = absurd made

    pub listing_ends : (at : Listing) (held : List ℕ) (now : W) (result : Result (Unit {0}) ListError) → listing_result at ≡ Some result → ListingStands allows entries steps room first at held now →
        Lists (questions allows entries steps) room first result (take (listed_by at) held) now
    listing_ends (Asks listed ended_once asking) held now result is so = absurd (none-some result is)
    listing_ends (Ended listed found) held now result is so = subst (λ (r : Result (Unit {0}) ListError). Lists (questions allows entries steps) room first r
        (take listed held) now) (same_Some _ _ is) so.2
