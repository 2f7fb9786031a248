use Rattle.std.proofs.Common.{◌∙◌, ◌++◌, ap, List, ℕ}
use Rattle.ghes_port.proofs.TableLemmas.{front_is}
use Rattle.ghes_port.proofs.table.push_structure.Goals as goal

pub returns-clause-pushed : goal.returns-clause-pushed
returns-clause-pushed c = c.in_ok-extend_from_slice.ensures.items ∙ ap (λ (xs : List ℕ). c.args.bytes.now.items ++ xs) (front_is _ _ _ _ c.put-size.ensures.wrote)
