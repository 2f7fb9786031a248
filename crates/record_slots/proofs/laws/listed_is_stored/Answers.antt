use Rattle.record_slots.proofs.ListedLemmas.{get-listed, get-unlisted}
use Rattle.record_slots.proofs.laws.listed_is_stored.Goals as goal

pub returns-clause-some : goal.returns-clause-some
returns-clause-some c = get-listed

pub returns-clause-none : goal.returns-clause-none
returns-clause-none c = get-unlisted
