use Rattle.record_store.proofs.StartLemmas.{HasTaken}
use Rattle.record_store.proofs.starting.first_free.Given as goal

abbrev pub invariant-loop-at : goal.invariant-loop-at
invariant-loop-at l = HasTaken l.at l.found.free.items l.slots
