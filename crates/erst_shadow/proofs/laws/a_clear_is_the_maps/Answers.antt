use Rattle.erst_shadow.specs.ShadowCommands.{pieces_in}
use Rattle.erst_shadow.proofs.CommandLemmas.{holds_pieces, shadow_clear}
use Rattle.erst_shadow.proofs.laws.a_clear_is_the_maps.Goals as goal

pub returns : goal.returns
returns g c = λ told first machine id small run.
    shadow_clear g.F.Flash.tells c.own_programs_run_through.ensures told first (pieces_in first) id (holds_pieces first machine) small run.budget run.answer run.left run.last
