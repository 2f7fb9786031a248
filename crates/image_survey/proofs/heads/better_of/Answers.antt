use Rattle.std.proofs.Common.{◌<◌, ◌≤◌, arith}
use Rattle.image_survey.specs.Heads.{heads_of}
use Rattle.image_survey.proofs.GuessLemmas.{best_stays, found_is_best}
use Rattle.image_survey.proofs.heads.better_of.Goals as goal

pub returns-then-found-heads_of : goal.returns-then-found-heads_of
returns-then-found-heads_of c image turn had of =
    let more : heads_of c.args.best < c.args.found.heads = let is = c.heads_of.ensures in omega arith in
    found_is_best image turn c.args.best c.args.found had of more

pub returns-else-found-heads_of : goal.returns-else-found-heads_of
returns-else-found-heads_of c image turn had of =
    let few : c.args.found.heads ≤ heads_of c.args.best = let is = c.heads_of.ensures in omega arith in
    best_stays image turn c.args.best c.args.found had of few
