use Rattle.std.proofs.Common.{arith}
use Rattle.record_model.specs.RecordMap.{Write, Clear}
use Rattle.erst_commands.specs.AsTheMap.{checks_of}
use Rattle.erst_commands.proofs.StartLemmas.{write-few, clear-few, needs-write, needs-clear, needs-dummy}
use Rattle.erst_commands.proofs.ReadLemmas.{needs-read}
use Rattle.erst_commands.proofs.EnoughLemmas.{enough-most, not_stopped}
use Rattle.erst_commands.proofs.laws.enough_steps_are_enough.Goals as goal

pub returns-clause-enough : goal.returns-clause-enough
returns-clause-enough c = λ state. record {
  write = λ id bytes fits. omega (arith, write-few state id bytes fits, enough-most state, needs-write (checks_of state (Write id bytes)));
  clear = λ id. omega (arith, clear-few state id, enough-most state, needs-clear id (checks_of state (Clear id)));
  read = λ id. omega (arith, enough-most state, needs-read id);
  dummy = omega (arith, enough-most state, needs-dummy);
}

pub returns-clause-not_stopped : goal.returns-clause-not_stopped
returns-clause-not_stopped c = λ first id command requests run. not_stopped first run.last id command requests run.budget run.answer run.left
