use Rattle.image_survey.proofs.GuessLemmas.{none_stays}
use Rattle.image_survey.proofs.heads.better.Goals as goal

pub returns-in-Some : goal.returns-in-Some
returns-in-Some c = c.better_of.ensures c.args.image.now c.args.turn c.requires.so_far c.in-Some.ensures

pub returns-in-None : goal.returns-in-None
returns-in-None c = none_stays c.args.image.now c.args.turn c.args.best c.requires.so_far c.in-None.ensures
