use Rattle.record_model.proofs.RefusalLemmas.{allowed_not_zero}
use Rattle.record_store.proofs.index.place_of.Goals as goal

pub prove-unreachable-requires : goal.prove-unreachable-requires
prove-unreachable-requires c = allowed_not_zero c.get.result c.get.ensures.allowed c.if-prove.true
