use Rattle.std.proofs.Common.{rules}
use Rattle.erst_port.proofs.mirror.MirrorFlash.new.Goals as goal

pub invariant_of-result : goal.invariant_of-result
invariant_of-result c = record {
  counted = search rules;
  sectors = search rules;
  erased = c.in_ok-spans.ensures.known c.args.image.items;
  log_room = search rules;
  log_told = search rules;
  log_filled = search rules;
  failed_last = search rules;
  last_told = search rules;
}
