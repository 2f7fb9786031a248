use Rattle.std.proofs.Common.{◌≡◌, ◌-◌, ◌^◌, true, []}
use Rattle.hub_script.specs.Made.{stage_of}
use Rattle.hub_script.proofs.ScriptLemmas.{SoFar}
use Rattle.hub_script.proofs.script.play_lines.Given as goal

-- the lines that were read were played, and no count of the source or the sink rose
abbrev pub invariant-lines : goal.invariant-lines
invariant-lines g l = record {
  so_far : SoFar (λ b. (goal.Listener-dyn g (b.vtable, b.value)).hearing b.value) g.I.Source.tells g.O.Sink.tells (stage_of l.fn.player) (stage_of l.player)
      (g.I.Source.rest l.fn.script) (g.I.Source.rest l.script) (g.O.Sink.written l.fn.out) (g.O.Sink.written l.out) l.lines;
  at_end : g.I.Source.tells → l.lines.at_end ≡ true → g.I.Source.rest l.script ≡ [];
  source : g.I.Source.faults l.script ≡ g.I.Source.faults l.fn.script;
  sink : g.O.Sink.faults l.out ≡ g.O.Sink.faults l.fn.out;
}

abbrev pub decreases-lines : goal.decreases-lines
decreases-lines g l = 2 ^ 24 - l.lines.end
