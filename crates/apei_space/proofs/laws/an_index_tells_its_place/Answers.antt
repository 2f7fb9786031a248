use Rattle.apei_space.proofs.Placed.{index_tells}
use Rattle.apei_space.proofs.laws.an_index_tells_its_place.Goals as goal

pub returns : goal.returns
returns c windows one other index is it = index_tells windows one other index is it
