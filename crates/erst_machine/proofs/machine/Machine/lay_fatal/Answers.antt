use Rattle.std.proofs.Common.{arith}
use Rattle.std.proofs.lemmas.List.{with_items_is}
use Rattle.erst_machine.proofs.KeptLemmas.{lays_fatal}
use Rattle.erst_machine.proofs.machine.Machine.lay_fatal.Goals as goal

pub returns : goal.returns
returns g c =
    lays_fatal _ _ _ _ _ _ _ c.self.view_is c.deref_mut.ensures.value (with_items_is c.self.inside.contents.region c.lay_block.new.region (omega arith))
    c.lay_block.ensures.exact c.lay_block.ensures.laid c.lay_block.ensures.kept
