use Rattle.std.proofs.Common.{◌≡◌, ◌≤◌, length, take}
use Rattle.apei_script.specs.Bridged.{words_of_made}
use Rattle.script_text.specs.Shown.{AreShown}
use Rattle.apei_script.proofs.bridged.say_made.Given as goal

abbrev pub invariant-saying : goal.invariant-saying
invariant-saying g l = record {
  so : AreShown g.O.Sink.tells (g.O.Sink.written l.fn.out) (g.O.Sink.written l.out) l.reply (words_of_made (take l.turn-index l.made));
  short : length l.reply ≤ 16545;
  faults : g.O.Sink.faults l.out ≡ g.O.Sink.faults l.fn.out;
}
