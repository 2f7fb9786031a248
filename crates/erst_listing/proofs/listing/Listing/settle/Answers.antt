use Rattle.std.proofs.Common.{length, ◌<◌, ◌≤◌, sym, subst}
use Rattle.erst_listing.specs.declared.listing.Listing.{Listing}
use Rattle.erst_listing.specs.Listing.{listed_by, ListingMoves, Hears}
use Rattle.erst_listing.proofs.HeardLemmas.{listing_rank, rank_heard, room_heard}
use Rattle.erst_listing.proofs.listing.Listing.settle.Goals as goal

pub questions-smaller : goal.questions-smaller
questions-smaller c =
    subst (λ (at : Listing). listing_rank (length c.heard.new.ids) c.heard.result < listing_rank (length c.questions.ids) at) (sym c.in-Asking.is)
    (rank_heard c.args.table.now.entries c.args.steps c.in-Asking.listed c.in-Asking.ended_once c.questions.ids c.in-Some.answer c.heard.result c.heard.new.ids
    (subst (λ (at : Listing). listed_by at ≤ length c.questions.ids) c.in-Asking.is c.questions.invariant.room) c.heard.ensures.heard)

pub questions-preserved : goal.questions-preserved
questions-preserved c =
    let room = subst (λ (at : Listing). listed_by at ≤ length c.questions.ids) c.in-Asking.is c.questions.invariant.room in
    let moves = subst (λ (at : Listing). ListingMoves c.args.table.now.entries c.args.steps c.args.self.now c.args.ids.now at c.questions.ids) c.in-Asking.is c.questions.invariant.moves in
    record {
      moves = Hears c.in-Asking.listed c.in-Asking.ended_once c.in-Asking.asking c.settle.new.self c.questions.ids c.in-Some.answer c.heard.result c.heard.new.ids moves c.settle.ensures.moves
          (sym c.in-Some.ensures) c.heard.ensures.heard;
      sound = c.heard.ensures.sound;
      room = (room_heard c.args.table.now.entries c.args.steps c.in-Asking.listed c.in-Asking.ended_once c.questions.ids c.in-Some.answer c.heard.result c.heard.new.ids room c.heard.ensures.heard).0;
    }
