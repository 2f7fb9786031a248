use Rattle.ghes_ack.specs.declared.events.Side.TheVariants.{Firmware}
use Rattle.erst_bridge.proofs.StepOutlines.{turn_alike}
use Rattle.erst_bridge.proofs.equivalence.equivalent_machines_turn_alike.Goals as goal

pub returns : goal.returns
returns g c = λ told client bridge budget.
    turn_alike g.F.Flash.tells client budget (λ bridge. c.equivalent_machines_bridge_alike.ensures told client bridge budget)
    (λ one other event also one_after other_after equivalent. c.equivalent_machines_hand_over_alike.ensures.turns Firmware one other event also one_after other_after equivalent) bridge
