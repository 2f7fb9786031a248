use Rattle.std.proofs.Common.{◌≡◌, ℕ, ◌*◌, subst, arith}
use Rattle.image_survey.specs.Heads.{IsGuessBefore}
use Rattle.image_survey.proofs.heads.best_guess.Goals as goal

pub returns : goal.returns
returns c =
    let end : c.loop-turn.turn ≡ 17 * 256 = omega arith in
    subst (λ (n : ℕ). IsGuessBefore c.args.image.now n c.loop-turn.best) end c.loop-turn.invariant
