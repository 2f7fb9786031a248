use Rattle.std.proofs.Common.{◌∙◌, sym}
use Rattle.erst_bridge.proofs.StepOutlines.{steps_alike, made_alike}
use Rattle.erst_bridge.proofs.equivalence.equivalent_machines_make_turns_alike.Goals as goal

pub returns-clause-turns : goal.returns-clause-turns
returns-clause-turns g c = λ told client bridge budget one other steps others.
    steps_alike g.F.Flash.tells client budget told (λ bridge. c.equivalent_machines_turn_alike.ensures told client bridge budget) steps others bridge one other

pub returns-clause-made : goal.returns-clause-made
returns-clause-made g c = λ told client bridge budget one other sides made also next also_next one_after other_after equivalent first quiet second also_quiet.
    let both = steps_alike g.F.Flash.tells client budget told (λ bridge. c.equivalent_machines_turn_alike.ensures told client bridge budget) first.turns
    second.turns bridge one other next also_next one_after other_after
    equivalent (first.sides_are ∙ sym second.sides_are) first.are_turns quiet second.are_turns also_quiet in
    (first.made_is ∙ made_alike first.turns second.turns both.0 ∙ sym second.made_is, both.1, both.2)
