use Rattle.std.proofs.Common.{◌≡◌, ◌≤◌, true, length}
use Rattle.erst_listing.specs.Listing.{ListingMoves, listed_by, is_sound_listing}
use Rattle.erst_listing.proofs.HeardLemmas.{listing_rank}
use Rattle.erst_listing.proofs.listing.Listing.settle.Given as goal

abbrev pub invariant-questions : goal.invariant-questions
invariant-questions l = record {
  moves : ListingMoves l.table.entries l.steps l.fn.self l.fn.ids l.self l.ids;
  sound : is_sound_listing l.self ≡ true;
  room : listed_by l.self ≤ length l.ids;
}

abbrev pub decreases-questions : goal.decreases-questions
decreases-questions l = listing_rank (length l.ids) l.self
