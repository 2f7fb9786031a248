use Rattle.std.proofs.Common.{◌≡◌, ◌≤◌, ◌-◌, ◌++◌, length, take}
use Rattle.hex.specs.Hex.{encode_lower}
use Rattle.hub_script.proofs.Terms.{words_before_digits}
use Rattle.script_text.specs.Shown.{AreShown}
use Rattle.hub_script.proofs.blocks.show_block.Given as goal

abbrev pub invariant-showing : goal.invariant-showing
invariant-showing g l = record {
  so : AreShown g.O.Sink.tells (g.O.Sink.written l.fn.out) (g.O.Sink.written l.out) l.reply (words_before_digits l.source l.block ++ encode_lower (take l.at l.block));
  within : l.at ≤ length l.block;
  short : length l.reply ≤ 16512;
  faults : g.O.Sink.faults l.out ≡ g.O.Sink.faults l.fn.out;
}

abbrev pub decreases-showing : goal.decreases-showing
decreases-showing g l = length l.block - l.at
