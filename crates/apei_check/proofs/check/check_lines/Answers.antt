use Rattle.std.proofs.Common.{◌≡◌, true, false, Err, refl, sym, ap, ◌∙◌}
use Rattle.script_lines.specs.Lines.{Reading}
use Rattle.script_lines.proofs.EndLemmas.{source_cause, no_sink}
use Rattle.apei_check.proofs.RunLemmas.{so_far_none, so_far_next, ends_none, ends_unwritten, ends_memory, ends_bad}
use Rattle.apei_check.proofs.check.check_lines.Goals as goal

pub lines-init : goal.lines-init
lines-init g c =
    let start = c.requires.start in
    record {
      so_far = rw start (so_far_none _ _ c.args.show _ _ _ (c.lines_are_read_in_order.ensures.start _));
      at_end = λ told e. let clash : true ≡ false = sym e ∙ ap (λ (r : Reading). r.at_end) start in absurd (cc clash);
      room = c.requires.room;
      source = refl;
      sink = refl;
    }

pub lines-preserved : goal.lines-preserved
lines-preserved g c =
    let inv = c.lines.invariant in
    let next = c.in-Ok.ensures.line in
    record {
      so_far = so_far_next _ _ _ _ _ _ _ _ _ _ inv.so_far _ c.in-Ok-parse.line next c.line.ensures c.in-Ok-parse.ensures _
          (c.lines_are_read_in_order.ensures.next _ _ _ _ _ _ inv.so_far.read next) c.in-Ok-show_line.ensures.shown;
      at_end = c.in-Ok.ensures.at_end;
      room = c.show_line.auto.buffer ∙ inv.room;
      source = c.in-Ok.ensures.no_fault ∙ inv.source;
      sink = c.in-Ok-show_line.ensures.cause ∙ inv.sink;
    }

pub returns-in-Err-clause-checked : goal.returns-in-Err-clause-checked
returns-in-Err-clause-checked g c =
    let inv = c.lines.invariant in
    ends_none _ _ c.lines_are_read_in_order.ensures _ _ _ _ _ _ _ _ _ inv.so_far c.in-Err.ensures.end

pub returns-in-Err-clause-source : goal.returns-in-Err-clause-source
returns-in-Err-clause-source g c = source_cause _ _ _ _ c.lines.invariant.source c.in-Err.ensures.cause

pub returns-in-Err-clause-sink : goal.returns-in-Err-clause-sink
returns-in-Err-clause-sink g c = no_sink _ _ _ _ _ c.in-Err.end _ _ c.in-Err.ensures.end c.lines.invariant.sink

pub returns-in-Err-parse-clause-checked : goal.returns-in-Err-parse-clause-checked
returns-in-Err-parse-clause-checked g c =
    let inv = c.lines.invariant in
    let next = c.in-Ok.ensures.line in
    ends_bad _ _ _ _ _ _ _ _ _ _ _ _ _ inv.so_far next (c.lines_are_read_in_order.ensures.stands _ _ _ _ _ _ inv.so_far.read next) c.in-Ok.ensures.number c.line.ensures c.in-Err-parse.ensures

pub returns-in-Err-SinkFault-clause-checked : goal.returns-in-Err-SinkFault-clause-checked
returns-in-Err-SinkFault-clause-checked g c =
    let inv = c.lines.invariant in
    let next = c.in-Ok.ensures.line in
    ends_unwritten _ _ _ _ _ _ _ _ _ _ inv.so_far _ c.in-Ok-parse.line next c.line.ensures c.in-Ok-parse.ensures _ (c.lines_are_read_in_order.ensures.stands _ _ _ _ _ _ inv.so_far.read next)
    (c.in-Err-SinkFault.ensures.part (ap Err c.in-Err-SinkFault.field-0-is))

pub returns-in-Err-Memory-clause-checked : goal.returns-in-Err-Memory-clause-checked
returns-in-Err-Memory-clause-checked g c =
    let inv = c.lines.invariant in
    let next = c.in-Ok.ensures.line in
    let left = c.in-Err-Memory.ensures.memory (ap Err c.in-Err-Memory.field-0-is) in
    ends_memory _ _ _ _ _ _ _ _ _ _ inv.so_far _ c.in-Ok-parse.line next c.line.ensures c.in-Ok-parse.ensures _ (c.lines_are_read_in_order.ensures.stands _ _ _ _ _ _ inv.so_far.read next)
    left.0 (ap g.O.Sink.written left.1)
