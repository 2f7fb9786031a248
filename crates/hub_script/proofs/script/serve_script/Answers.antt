use Rattle.std.proofs.Common.{inr}
use Rattle.hub_script.proofs.ScriptLemmas.{serves_script, is_done}
use Rattle.hub_script.proofs.script.serve_script.Goals as goal

pub returns-clause-served : goal.returns-clause-served
returns-clause-served g c = inr (serves_script _ _ _ _ _ _ _ _ _ _ _ _ c.play_lines-end.ensures.played c.in-Ok-new.ensures.stage c.into_members.ensures)

pub returns-clause-done : goal.returns-clause-done
returns-clause-done g c = is_done _ _ _ _ _ _ _ _ _ _ _ _ _ _ c.play_lines-end.ensures.played c.play_lines-end.ensures.source c.play_lines-end.ensures.sink
