use Rattle.std.proofs.Common.{◌≡◌, true, false, Err, refl, sym, ap, ◌∙◌}
use Rattle.script_lines.specs.Lines.{Reading}
use Rattle.script_lines.specs.Reads.{last_line}
use Rattle.script_lines.proofs.EndLemmas.{source_cause, no_sink}
use Rattle.hub_script.proofs.ScriptLemmas.{is_short, start, so_far_next, ends_none, ends_bad, ends_unwritten, ends_memory}
use Rattle.hub_script.proofs.StageLemmas.{still_waiting}
use Rattle.hub_script.proofs.script.play_lines.Goals as goal

pub lines-init : goal.lines-init
lines-init g c =
    let begins = c.requires in
    record {
      so_far = rw begins (start _ _ _ _ _ _ _ (c.lines_are_read_in_order.ensures.start _));
      at_end = λ told e. let clash : true ≡ false = sym e ∙ ap (λ (r : Reading). r.at_end) begins in absurd (cc clash);
      source = refl;
      sink = refl;
    }

pub play-requires : goal.play-requires
play-requires g c =
    let next = c.in-Ok.ensures.line in
    is_short _ (last_line c.next_line.new.self) c.line.ensures next.within

pub lines-preserved : goal.lines-preserved
lines-preserved g c =
    let inv = c.lines.invariant in
    let next = c.in-Ok.ensures.line in
    record {
      so_far = so_far_next _ _ _ _ _ _ _ _ _ _ _ _ inv.so_far _ next c.line.ensures _ _ (c.lines_are_read_in_order.ensures.next _ _ _ _ _ _ inv.so_far.read next) c.in-Ok-play.ensures.played;
      at_end = c.in-Ok.ensures.at_end;
      source = c.in-Ok.ensures.no_fault ∙ inv.source;
      sink = c.in-Ok-play.ensures.no_fault (λ e. absurd (cc e)) ∙ inv.sink;
    }

pub returns-in-Err-clause-played : goal.returns-in-Err-clause-played
returns-in-Err-clause-played g c =
    let inv = c.lines.invariant in
    ends_none _ _ _ c.lines_are_read_in_order.ensures _ _ _ _ _ _ _ _ _ _ inv.so_far c.in-Err.ensures.end

pub returns-in-Err-clause-source : goal.returns-in-Err-clause-source
returns-in-Err-clause-source g c = let inv = c.lines.invariant in source_cause _ _ _ _ inv.source c.in-Err.ensures.cause

pub returns-in-Err-clause-sink : goal.returns-in-Err-clause-sink
returns-in-Err-clause-sink g c = let inv = c.lines.invariant in no_sink _ _ _ _ _ c.in-Err.end _ _ c.in-Err.ensures.end inv.sink

pub returns-in-Err-BadLine-clause-played : goal.returns-in-Err-BadLine-clause-played
returns-in-Err-BadLine-clause-played g c =
    let inv = c.lines.invariant in
    let next = c.in-Ok.ensures.line in
    let stopped = c.in-Err-BadLine.ensures.stopped (λ e. absurd (cc e)) in
    ends_bad _ _ _ _ _ _ _ _ _ _ _ _ inv.so_far _ next c.line.ensures _ _ _ _ stopped.0 (ap g.O.Sink.written stopped.1) c.in-Ok.ensures.number
    (c.lines_are_read_in_order.ensures.stands _ _ _ _ _ _ inv.so_far.read next) (c.in-Err-BadLine.ensures.bad _ (ap Err c.in-Err-BadLine.field-0-is))

pub returns-in-Err-SinkFault-clause-played : goal.returns-in-Err-SinkFault-clause-played
returns-in-Err-SinkFault-clause-played g c =
    let inv = c.lines.invariant in
    let next = c.in-Ok.ensures.line in
    ends_unwritten _ _ _ _ _ _ _ _ _ _ _ _ inv.so_far _ next c.line.ensures _ _ (c.lines_are_read_in_order.ensures.stands _ _ _ _ _ _ inv.so_far.read next)
    (c.in-Err-SinkFault.ensures.unwritten (ap Err c.in-Err-SinkFault.field-0-is))

pub returns-in-Err-Memory-clause-played : goal.returns-in-Err-Memory-clause-played
returns-in-Err-Memory-clause-played g c =
    let inv = c.lines.invariant in
    let next = c.in-Ok.ensures.line in
    let stopped = c.in-Err-Memory.ensures.stopped (λ e. absurd (cc e)) in
    ends_memory _ _ _ _ _ _ _ _ _ _ _ _ inv.so_far _ next c.line.ensures _ _ stopped.0 (ap g.O.Sink.written stopped.1)
    (c.lines_are_read_in_order.ensures.stands _ _ _ _ _ _ inv.so_far.read next) (c.in-Err-Memory.ensures.memory (ap Err c.in-Err-Memory.field-0-is))
    (still_waiting c.lines.player.hub c.lines.player.listeners.items (c.in-Err-Memory.ensures.waits (ap Err c.in-Err-Memory.field-0-is)))
