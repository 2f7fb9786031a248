use Rattle.std.proofs.Common.{[], ◌∷◌}
use Rattle.apei_check.proofs.WrittenLemmas.{wrote_unasked}
use Rattle.std.specs.Prelude.{◌==◌}
use Rattle.std.specs.Int.RustNames.{bit_and}
use Rattle.apei_check.proofs.text.show.Show.write_head.Goals as goal

pub returns-else-head-clause-all : goal.returns-else-head-clause-all
returns-else-head-clause-all g c = wrote_unasked _ (c.args.line ∷ []) _ _ (bit_and c.args.self.0 1 == 1) c.head.ensures c.if-head.false
