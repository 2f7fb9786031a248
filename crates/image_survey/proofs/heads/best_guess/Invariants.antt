use Rattle.image_survey.specs.Heads.{IsGuessBefore}
use Rattle.image_survey.proofs.heads.best_guess.Given as goal

abbrev pub invariant-loop-turn : goal.invariant-loop-turn
invariant-loop-turn l = IsGuessBefore l.image l.turn l.best
