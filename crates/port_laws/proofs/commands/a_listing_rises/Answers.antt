use Rattle.port_laws.proofs.ListingLemmas.{listed_rising}
use Rattle.port_laws.proofs.commands.a_listing_rises.Goals as goal

pub returns-clause-listed : goal.returns-clause-listed
returns-clause-listed c = λ addresses listing rising not. (listed_rising addresses listing rising not).0

pub returns-clause-anew : goal.returns-clause-anew
returns-clause-anew c = λ addresses listing rising not. (listed_rising addresses listing rising not).1
