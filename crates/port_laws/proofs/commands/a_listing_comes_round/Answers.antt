use Rattle.port_laws.proofs.ListingLemmas.{listed_round}
use Rattle.port_laws.proofs.commands.a_listing_comes_round.Goals as goal

pub returns : goal.returns
returns c = listed_round
