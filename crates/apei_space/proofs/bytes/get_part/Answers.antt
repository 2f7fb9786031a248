use Rattle.std.proofs.Common.{◌≡◌, ◌∙◌, ℕ, ◌+◌, ◌-◌, length, take, drop, ap, arith}
use Rattle.base_model.specs.Bytes.{part}
use Rattle.apei_space.proofs.bytes.get_part.Goals as goal

pub returns : goal.returns
unfolding part
returns c =
    let n : c.args.at + length c.args.out.now - c.args.at ≡ length c.args.out.now = omega arith in
    c.copy_from_slice.ensures.after ∙ ap (λ (k : ℕ). take k (drop c.args.at c.args.bytes.now)) n
