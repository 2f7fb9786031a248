use Rattle.script_lines.proofs.OrderLemmas.{reads_none, reads_next, stands, reads_all, stands_long, reads_taken, goes_on}
use Rattle.script_lines.proofs.laws.lines_are_read_in_order.Goals as goal

pub returns : goal.returns
returns g c =
    let tells = g.I.Source.tells in
    record { start = reads_none tells; next = reads_next tells; stands = stands tells; at_end = reads_all tells; too_long = stands_long tells; failed = reads_taken tells; ends = goes_on tells }
