use Rattle.port_laws.proofs.LifeLemmas.{life_keeps, found, life_medium}
use Rattle.port_laws.proofs.lives.a_life_keeps_what_was_told.Goals as goal

pub returns-clause-records : goal.returns-clause-records
returns-clause-records c = life_keeps

pub returns-clause-found : goal.returns-clause-found
returns-clause-found c = found

pub returns-clause-medium : goal.returns-clause-medium
returns-clause-medium c = life_medium
