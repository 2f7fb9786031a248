use Rattle.apei_space.proofs.BytePlaces.{number_at-one}
use Rattle.apei_space.proofs.bytes.get_u8.Goals as goal

pub returns : goal.returns
returns c = number_at-one c.args.bytes.now c.args.at c.requires
