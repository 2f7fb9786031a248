use Rattle.std.proofs.Common.{◌∙◌}
use Rattle.ghes_ack.specs.declared.events.Side.TheVariants.{Reader}
use Rattle.apei_script.proofs.BridgeLemmas.{turn_took}
use Rattle.ghes_ack.proofs.TakenLemmas.{taken_fits}
use Rattle.apei_script.proofs.TakenLemmas.{took_fits}
use Rattle.apei_script.proofs.bridged.bridged_turn.Goals as goal

pub returns-clause-side : goal.returns-clause-side
returns-clause-side g c = c.turn_side.ensures.side ∙ c.side_of.ensures

pub returns-clause-fits : goal.returns-clause-fits
returns-clause-fits g c = λ taken.
    took_fits taken_fits Reader c.args.machine.now c.turn_side.new.machine c.stands.ensures.machine
    (turn_took g.F.Flash.tells _ _ c.args.machine.now _ _ _ c.turn_side.new.machine c.turn_side.ensures.turn taken)
