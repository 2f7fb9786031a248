use Rattle.std.proofs.Common.{◌≡◌, length, drop}
use Rattle.apei_space.specs.Guesses.{all_noted}
use Rattle.apei_space.proofs.windows.note_windows.Given as goal

abbrev pub invariant-loop-number : goal.invariant-loop-number
invariant-loop-number l = record {
  rest : all_noted l.is_short (drop l.number l.stretches) l.number l.guesses.slots.items ≡ all_noted l.fn.is_short l.fn.stretches 0 l.fn.guesses.slots.items;
  length : length l.guesses.slots.items ≡ 256;
}
