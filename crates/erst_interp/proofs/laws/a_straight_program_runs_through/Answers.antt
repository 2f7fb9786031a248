use Rattle.erst_interp.proofs.StraightLemmas.{ran_straight}
use Rattle.erst_interp.proofs.laws.a_straight_program_runs_through.Goals as goal

pub returns : goal.returns
returns c start program straight given budget first answer left last some run = ran_straight _ program straight some given budget first answer left last run
