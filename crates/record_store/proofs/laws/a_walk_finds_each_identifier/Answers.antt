use Rattle.record_store.proofs.WalkLemmas.{walk-rising, walk-all}
use Rattle.record_store.proofs.laws.a_walk_finds_each_identifier.Goals as goal

pub returns-clause-rising : goal.returns-clause-rising
returns-clause-rising c = walk-rising

pub returns-clause-all : goal.returns-clause-all
returns-clause-all c = walk-all
