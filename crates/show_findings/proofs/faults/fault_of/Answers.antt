use Rattle.std.proofs.Common.{arith}
use Rattle.show_findings.proofs.faults.fault_of.Goals as goal

pub returns-clause-judged : goal.returns-clause-judged
returns-clause-judged c = λ sound. grind (arith, c.in-Err.ensures.only sound.0 sound.1, c.fault.ensures, c.in-Some.is)
