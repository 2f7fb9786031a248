use Rattle.ghes_ack.specs.declared.events.Side.TheVariants.{Reader}
use Rattle.erst_bridge.proofs.BridgeOutlines.{bridge_alike}
use Rattle.erst_bridge.proofs.equivalence.equivalent_machines_bridge_alike.Goals as goal

pub returns : goal.returns
returns g c = λ told client bridge budget one other answer also left also_left one_after other_after equivalent first quiet second also_quiet.
    bridge_alike g.F.Flash.tells client budget (λ one other event also one_after other_after equivalent. c.equivalent_machines_hand_over_alike.ensures.turns
    Reader one other event also one_after other_after equivalent)
    one other equivalent answer also left also_left one_after other_after (λ bytes. c.equivalent_machines_write_alike.ensures told client bytes budget) quiet also_quiet bridge first second
