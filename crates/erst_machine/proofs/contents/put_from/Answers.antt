use Rattle.std.proofs.Common.{◌≡◌, ℕ, ◌+◌, ◌-◌, take, drop, ap, ◌∙◌, arith}
use Rattle.base_model.specs.Bytes.{put_at, part}
use Rattle.erst_machine.proofs.contents.put_from.Goals as goal

pub returns : goal.returns
unfolding part
returns c =
    let n : c.args.start + c.args.n - c.args.start ≡ c.args.n = omega arith in
    c.put_part.ensures ∙ ap (λ (k : ℕ). put_at c.args.bytes.now c.args.place (take k (drop c.args.start c.args.others.now))) n
