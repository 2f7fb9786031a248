use Rattle.erst_commands.proofs.AttachLemmas.{attach_own}
use Rattle.erst_commands.proofs.laws.attaching_never_fails.Goals as goal

pub returns : goal.returns
returns g c = λ first run.
    attach_own g.F.Flash.tells c.own_programs_run_through.ensures run.budget first run.answer run.left run.last
