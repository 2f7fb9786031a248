use Rattle.erst_listing.specs.Listing.{questions}
use Rattle.erst_listing.proofs.GatherLemmas.{gathered}
use Rattle.erst_listing.proofs.laws.a_listing_has_each_once.Goals as goal

pub returns-clause-fits : goal.returns-clause-fits
returns-clause-fits g c entries steps room first result ids last lists =
    (gathered (questions g.S.Space.allows entries steps) room first ids lists.ended_once lists.mid lists.gathers).fits

pub returns-clause-distinct : goal.returns-clause-distinct
returns-clause-distinct g c entries steps room first result ids last lists =
    (gathered (questions g.S.Space.allows entries steps) room first ids lists.ended_once lists.mid lists.gathers).distinct

pub returns-clause-answered : goal.returns-clause-answered
returns-clause-answered g c entries steps room first result ids last lists =
    (gathered (questions g.S.Space.allows entries steps) room first ids lists.ended_once lists.mid lists.gathers).answered
