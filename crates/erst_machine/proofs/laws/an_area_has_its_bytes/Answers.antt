use Rattle.erst_machine.proofs.PlaceLemmas.{area_found}
use Rattle.erst_machine.proofs.laws.an_area_has_its_bytes.Goals as goal

pub returns : goal.returns
returns c = area_found
