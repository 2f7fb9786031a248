use Rattle.std.proofs.Common.{arith}
use Rattle.apei_space.proofs.Placed.{found_placed, located_within}
use Rattle.apei_space.proofs.laws.bytes_stand_in_order.Goals as goal

pub returns : goal.returns
returns c windows at n start k m apart is some inside = located_within windows at n start k m apart (found_placed windows at n start (omega arith) is) some inside
