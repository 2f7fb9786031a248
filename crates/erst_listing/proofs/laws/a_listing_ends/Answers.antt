use Rattle.erst_listing.proofs.BoundLemmas.{bound_begins, bound_moves, bound_answered}
use Rattle.erst_listing.proofs.laws.a_listing_ends.Goals as goal

pub returns-clause-begins : goal.returns-clause-begins
returns-clause-begins c entries steps room =
    let of = c.a_told_request_ends.ensures in bound_begins (record { begins = of.begins; moves = of.moves; answered = of.answered }) entries steps room

pub returns-clause-moves : goal.returns-clause-moves
returns-clause-moves c entries steps old at before after fits moves =
    let of = c.a_told_request_ends.ensures in bound_moves (record { begins = of.begins; moves = of.moves; answered = of.answered }) entries steps old at before after fits moves

pub returns-clause-answered : goal.returns-clause-answered
returns-clause-answered c steps room at answer demand is =
    let of = c.a_told_request_ends.ensures in bound_answered (record { begins = of.begins; moves = of.moves; answered = of.answered }) steps room at answer demand is
