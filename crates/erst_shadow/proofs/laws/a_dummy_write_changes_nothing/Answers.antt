use Rattle.erst_shadow.specs.ShadowCommands.{pieces_in}
use Rattle.erst_shadow.proofs.CommandLemmas.{holds_pieces, shadow_dummy}
use Rattle.erst_shadow.proofs.laws.a_dummy_write_changes_nothing.Goals as goal

pub returns : goal.returns
returns g c = λ first machine run.
    shadow_dummy g.F.Flash.tells c.own_programs_run_through.ensures first (pieces_in first) (holds_pieces first machine) run.budget run.answer run.left run.last
