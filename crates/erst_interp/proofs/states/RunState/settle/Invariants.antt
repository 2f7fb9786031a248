use Rattle.std.proofs.Common.{◌≡◌, true}
use Rattle.erst_interp.specs.Told.{Comes, is_sound_state}
use Rattle.erst_interp.proofs.states.RunState.settle.Given as goal

abbrev pub invariant-loop-self : goal.invariant-loop-self
invariant-loop-self l = record {
  came : Comes l.program l.given l.fn.self l.fn.budget l.self l.budget;
  sound : is_sound_state l.self ≡ true;
}

abbrev pub decreases-loop-self : goal.decreases-loop-self
decreases-loop-self l = l.budget
