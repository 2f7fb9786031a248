use Rattle.cper_frame.proofs.Complete.{no_prefix}
use Rattle.cper_frame.proofs.record.one_end.Goals as goal

pub returns : goal.returns
returns c = λ value other bytes more is longer. no_prefix value other bytes more is longer
