use Rattle.std.proofs.Common.{length, ◌-◌, ◌≤◌, take}
use Rattle.ghes_ack.specs.Machine.{Machine}
use Rattle.ghes_ack.specs.Handovers.{StandsFor, over}
use Rattle.ghes_ack.specs.Sides.{MakesTurns, IsConsistent, handover_of}
use Rattle.ghes_ack.proofs.turns.all_turns.Given as goal

-- the turns so far, and their events
abbrev pub invariant-loop-done : goal.invariant-loop-done
invariant-loop-done l =
    (l.done ≤ length l.events) × IsConsistent l.stand l.blocks ×
    ((m : Machine) → StandsFor (handover_of l.fn.ends l.fn.blocks) l.fn.ram m → MakesTurns l.fn.side (take l.done l.events)
    (over (handover_of l.fn.ends l.fn.blocks) l.fn.ram) (over (handover_of l.stand l.blocks) l.ram) m)

abbrev pub decreases-loop-done : goal.decreases-loop-done
decreases-loop-done l = length l.events - l.done
