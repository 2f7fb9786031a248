use Rattle.erst_listing.specs.Devices.{Tells}
use Rattle.erst_listing.proofs.DeviceLemmas.{all_listed, none_for_it}
use Rattle.erst_listing.proofs.GatherLemmas.{gathered}
use Rattle.erst_listing.proofs.laws.a_listing_has_all.Goals as goal

pub returns-clause-all : goal.returns-clause-all
returns-clause-all c told order room at ids last lists = all_listed told order room at ids last lists

pub returns-clause-distinct : goal.returns-clause-distinct
returns-clause-distinct c told room at result ids last lists = (gathered (Tells told) room at ids lists.ended_once lists.mid lists.gathers).distinct

pub returns-clause-full : goal.returns-clause-full
returns-clause-full c told room at ids last lists = none_for_it told room at ids last lists
