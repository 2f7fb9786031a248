use Rattle.record_model.proofs.ChosenLemmas.{get-chosen, get-no_slot}
use Rattle.record_slots.proofs.laws.chosen_is_stored.Goals as goal

pub returns-clause-some : goal.returns-clause-some
returns-clause-some c = get-chosen

pub returns-clause-none : goal.returns-clause-none
returns-clause-none c = get-no_slot
