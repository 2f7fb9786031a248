use Rattle.apei_space.proofs.Placed.{found_placed, placed_apart}
use Rattle.apei_space.proofs.laws.disjoint_accesses_are_apart.Goals as goal

pub returns : goal.returns
returns c windows one n start other m begin some more disjoint is it =
    placed_apart windows one n start other m begin some more (found_placed windows one n start some is) (found_placed windows other m begin more it) disjoint
