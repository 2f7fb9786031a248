use Rattle.erst_machine.proofs.FindLemmas.{place_finds}
use Rattle.erst_machine.proofs.laws.every_access_finds_its_bytes.Goals as goal

pub returns : goal.returns
returns c = place_finds
