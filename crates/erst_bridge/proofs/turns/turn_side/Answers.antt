use Rattle.erst_bridge.proofs.turns.turn_side.Goals as goal

pub returns-in-Reader-clause-turn : goal.returns-in-Reader-clause-turn
returns-in-Reader-clause-turn g c = (c.turn-in-Reader.new.budget, rw c.new-budget.ensures at c.turn-in-Reader.ensures.bridges)
