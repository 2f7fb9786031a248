use Rattle.std.proofs.Common.{◌≡◌, ◌+◌, length}
use Rattle.show_items.specs.Dumps.{line_len}
use Rattle.show_items.proofs.dumps.line_len.Given as goal

abbrev pub invariant-loop-rest : goal.invariant-loop-rest
invariant-loop-rest l = record {
  counted : l.len + line_len l.rest ≡ line_len l.text;
  all : l.len + length l.rest ≡ length l.text;
}

abbrev pub decreases-loop-rest : goal.decreases-loop-rest
decreases-loop-rest l = length l.rest
