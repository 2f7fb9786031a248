use Rattle.erst_listing.proofs.ListingLemmas.{listing_begins, listing_moves, listing_answers, listing_ends}
use Rattle.erst_listing.proofs.laws.a_told_listing_lists.Goals as goal

pub returns-clause-begins : goal.returns-clause-begins
returns-clause-begins g c entries steps held first =
    let of = c.a_told_request_is_made.ensures in
    listing_begins g.S.Space.allows (record { begins = of.begins; moves = of.moves; answered = of.answered; names = of.names }) entries steps held first

pub returns-clause-moves : goal.returns-clause-moves
returns-clause-moves g c entries steps room first old at before after now moves so =
    let of = c.a_told_request_is_made.ensures in
    listing_moves g.S.Space.allows (record { begins = of.begins; moves = of.moves; answered = of.answered; names = of.names }) entries steps room first old before now at after moves so

pub returns-clause-answered : goal.returns-clause-answered
returns-clause-answered g c entries steps room first at held now answer last so made =
    let of = c.a_told_request_is_made.ensures in
    listing_answers g.S.Space.allows (record { begins = of.begins; moves = of.moves; answered = of.answered; names = of.names }) entries steps room first at held now answer last so made

pub returns-clause-ends : goal.returns-clause-ends
returns-clause-ends g c entries steps room first at held now result is so =
    let of = c.a_told_request_is_made.ensures in
    listing_ends g.S.Space.allows (record { begins = of.begins; moves = of.moves; answered = of.answered; names = of.names }) entries steps room first at held now result is so
