use Rattle.erst_interp.proofs.BoundLemmas.{turn_falls}
use Rattle.erst_interp.proofs.states.RunState.settle.Goals as goal

pub loop-self-smaller : goal.loop-self-smaller
loop-self-smaller c = turn_falls c.args.program.now c.args.given c.in-Ready.at c.loop-self.budget c.end_at.new.budget c.in_default-end_at.ensures
