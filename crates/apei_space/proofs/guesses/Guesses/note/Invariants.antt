use Rattle.std.proofs.Common.{◌≡◌, length}
use Rattle.apei_space.specs.Guesses.{noted}
use Rattle.apei_space.proofs.guesses.Guesses.note.Given as goal

abbrev pub invariant-loop-step : goal.invariant-loop-step
invariant-loop-step l = record {
  slots : l.self.slots.items ≡ noted l.number l.first l.step l.fn.self.slots.items;
  length : length l.self.slots.items ≡ 256;
}
