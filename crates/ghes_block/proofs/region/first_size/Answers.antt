use Rattle.std.proofs.Common.{◌∙◌, ℕ, Some, sym, ap}
use Rattle.ghes_block.proofs.RegionLemmas.{no_block, size_of_first, never_refused, not_zeros}
use Rattle.ghes_block.proofs.region.first_size.Goals as goal

pub returns-then-is_end-clause-block : goal.returns-then-is_end-clause-block
returns-then-is_end-clause-block c = λ block tail one is. absurd (no_block c.args.rest.now block tail one is (sym c.is_end.ensures ∙ c.if-is_end.true))

pub returns-in-Ok-clause-block : goal.returns-in-Ok-clause-block
returns-in-Ok-clause-block c = λ block tail one is. ap (λ (n : ℕ). Some n) (size_of_first c.args.rest.now block tail c.in-Ok.size one is c.in-Ok.ensures.exact)

pub returns-in-Ok-clause-zeros : goal.returns-in-Ok-clause-zeros
returns-in-Ok-clause-zeros c = λ n is. absurd (not_zeros c.args.rest.now n is (sym c.is_end.ensures ∙ c.if-is_end.false))

pub returns-in-Err-clause-block : goal.returns-in-Err-clause-block
returns-in-Err-clause-block c = λ block tail one is. absurd (never_refused c.args.rest.now block tail c.in-Err.field-0 one is c.in-Err.ensures.exact)
