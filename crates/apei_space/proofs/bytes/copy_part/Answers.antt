use Rattle.std.proofs.Common.{◌≡◌, ℕ, ◌+◌, ◌-◌, ◌++◌, ap, sym, take, drop, ◌∙◌, arith}
use Rattle.base_model.specs.Bytes.{put_at, part}
use Rattle.base_model.proofs.BytesLemmas.{length-part}
use Rattle.apei_space.proofs.bytes.copy_part.Goals as goal

pub returns : goal.returns
unfolding put_at part
returns c =
    let old = c.args.bytes.now in
    let n : c.args.source + c.args.n - c.args.source ≡ c.args.n = omega arith in
    c.copy_within.ensures.after
    ∙ ap (λ (k : ℕ). take c.args.target old ++ take k (drop c.args.source old) ++ drop (c.args.target + k) old) n
    ∙ ap (λ (k : ℕ). take c.args.target old ++ part old c.args.source c.args.n ++ drop (c.args.target + k) old) (sym (length-part old c.args.source c.args.n c.requires.from))
