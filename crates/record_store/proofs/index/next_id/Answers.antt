use Rattle.record_store.proofs.AnswerLemmas.{next_stored}
use Rattle.record_store.proofs.index.next_id.Goals as goal

pub returns-clause-next : goal.returns-clause-next
returns-clause-next c entry slots list =
    next_stored entry slots c.args.cursor c.args.found.now c.next_after.result list (rw c.deref.ensures.value at c.next_after.ensures)
