use Rattle.std.proofs.Common.{refl, ◌∙◌}
use Rattle.apei_tables.proofs.GasSpelling.{put_behind}
use Rattle.apei_tables.proofs.structure.Gas.encode.Goals as goal

pub returns : goal.returns
returns c = c.put_u64.ensures.written ∙ put_behind _ _ _ _ _ _ refl
