use Rattle.erst_shadow.proofs.AttachLemmas.{attaches_shadow}
use Rattle.erst_shadow.proofs.laws.attaching_never_fails.Goals as goal

pub returns : goal.returns
returns g c = λ first machine run.
    attaches_shadow g.F.Flash.tells c.a_straight_program_runs_through.ensures c.own_programs_run_through.ensures run.budget first run.answer run.left run.last machine
