use Rattle.std.proofs.Common.{◌≡◌, ◌∙◌, ℕ, ◌+◌, ◌-◌, List, take, drop, ap, subst, arith}
use Rattle.std.proofs.lemmas.List.{take_rest}
use Rattle.base_model.specs.Bytes.{part}
use Rattle.ghes_block.specs.Grammar.{BlockValue, IsBlock}
use Rattle.ghes_block.proofs.region.take.Goals as goal

of_part : (region rest : List ℕ) (at size : ℕ) (value : BlockValue) → rest ≡ drop at region → IsBlock value (take size rest) → IsBlock value (part region at (at + size - at))
unfolding part
of_part region rest at size value is block =
    let n : size ≡ at + size - at = omega arith in
    subst (IsBlock value) (ap (take size) is ∙ ap (λ (k : ℕ). take k (drop at region)) n) block

pub returns-in-Ok-clause-block : goal.returns-in-Ok-clause-block
returns-in-Ok-clause-block c = of_part c.args.region.now _ c.args.at c.in-Ok.size c.in-Ok.block (take_rest c.args.region.now c.args.at) c.in-Ok.ensures.found.1
