use Rattle.std.proofs.Common.{arith}
use Rattle.erst_commands.proofs.StartLemmas.{write-few, clear-few}
use Rattle.erst_shadow.proofs.EnoughLemmas.{enough-all}
use Rattle.erst_shadow.proofs.laws.enough_steps_are_enough.Goals as goal

pub returns : goal.returns
returns c = λ state. record {
  write = λ id bytes fits. omega (arith, enough-all state, write-few state id bytes fits);
  clear = λ id. omega (arith, enough-all state, clear-few state id);
  read = λ id. omega (arith, enough-all state);
  dummy = omega (arith, enough-all state);
}
