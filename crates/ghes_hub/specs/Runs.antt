-- What a source does over a list of submissions and turns.
use Rattle.std.specs.Prelude.{Bool, true, false, if◌then◌else◌, List, [], ◌∷◌, ◌++◌, ℕ}
use Rattle.ghes_ack.specs.declared.events.Event.{Event}
use Rattle.ghes_ack.specs.declared.events.Event.TheVariants.{Took}
use Rattle.ghes_ack.specs.Machine.{submitted, last_taken}
use Rattle.ghes_ack.specs.Schedules.{Step, Submit, Turn, Watched, watched}
use Rattle.ghes_hub.specs.Kinds.{Kind, turned_by}

abbrev pub after_by : Kind → Watched → Step → Watched
after_by kind w (Submit block) = record w { machine = submitted w.machine block }
after_by kind w (Turn side) = watched w (turned_by kind side w.machine).0 (turned_by kind side w.machine).1

abbrev pub run_by : Kind → Watched → List Step → Watched
run_by kind w [] = w
run_by kind w (step ∷ steps) = run_by kind (after_by kind w step) steps

-- the events of the turns among some steps
abbrev pub events_by : Kind → Watched → List Step → List Event
events_by kind w [] = []
events_by kind w (Submit block ∷ steps) = events_by kind (after_by kind w (Submit block)) steps
events_by kind w (Turn side ∷ steps) = (turned_by kind side w.machine).0 ∷ events_by kind (after_by kind w (Turn side)) steps

-- the reader took a block in a turn
abbrev pub takes : Event → Bool
takes Took = true
takes _ = false

-- the block of which the listeners are told after a turn, if any: that which was taken, the last one
abbrev pub told_at : Event → List ℕ → List (List ℕ)
told_at event last = if takes event then last ∷ [] else []

-- the blocks of which the listeners are told in some steps
abbrev pub told_by : Kind → Watched → List Step → List (List ℕ)
told_by kind w [] = []
told_by kind w (Submit block ∷ steps) = told_by kind (after_by kind w (Submit block)) steps
told_by kind w (Turn side ∷ steps) =
    told_at (turned_by kind side w.machine).0 (last_taken (turned_by kind side w.machine).1) ++ told_by kind (after_by kind w (Turn side)) steps
