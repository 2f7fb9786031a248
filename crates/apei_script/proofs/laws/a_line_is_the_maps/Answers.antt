use Rattle.apei_script.proofs.PlayedLemmas.{line_played}
use Rattle.apei_script.proofs.laws.a_line_is_the_maps.Goals as goal

pub returns : goal.returns
returns g c = λ counts old played. line_played g.F.Flash.tells c.own_programs_run_through.ensures counts old played.line played.said played.blocks played.steps played.left
