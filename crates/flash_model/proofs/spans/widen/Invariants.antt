use Rattle.flash_model.proofs.SpanLemmas.{AreWidened}
use Rattle.flash_model.proofs.spans.widen.Given as goal

abbrev pub invariant-loop-number : goal.invariant-loop-number
invariant-loop-number l = AreWidened l.fn.sector l.fn.at l.fn.len l.number l.fn.spans l.spans
