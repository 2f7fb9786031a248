use Rattle.record_store.proofs.FreeListLemmas.{HasFreed}
use Rattle.record_store.proofs.index.free_record.Given as goal

abbrev pub invariant-loop-at : goal.invariant-loop-at
invariant-loop-at l = HasFreed l.geometry.slots l.place l.at l.fn.found l.found
