use Rattle.std.proofs.Common.{◌∙◌, take, ap}
use Rattle.ghes_ack.specs.Schedules.{run, from_start}
use Rattle.ghes_ack.proofs.ScheduleLemmas.{run_state, run_blocks, run_taken, run_order}
use Rattle.ghes_ack.proofs.laws.every_schedule.Goals as goal

pub returns-clause-states : goal.returns-clause-states
returns-clause-states c window steps room good = run_state window steps room good

pub returns-clause-submitted : goal.returns-clause-submitted
returns-clause-submitted c window steps = run_blocks window steps

pub returns-clause-taken : goal.returns-clause-taken
returns-clause-taken c window steps room good = run_taken window steps room good ∙ ap (take (run (from_start window) steps).machine.taken) (run_blocks window steps)

pub returns-clause-order : goal.returns-clause-order
returns-clause-order c window steps room good = run_order window steps room good
