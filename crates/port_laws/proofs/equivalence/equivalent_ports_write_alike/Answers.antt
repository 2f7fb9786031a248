use Rattle.port_laws.proofs.PortLemmas.{writes_alike, puts_alike}
use Rattle.port_laws.proofs.equivalence.equivalent_ports_write_alike.Goals as goal

pub returns-clause-numbers : goal.returns-clause-numbers
returns-clause-numbers c = λ one other location width value equivalent made also_made answer also one_after other_after.
    writes_alike one other location width value answer also one_after other_after equivalent made also_made

pub returns-clause-bytes : goal.returns-clause-bytes
returns-clause-bytes c = puts_alike
