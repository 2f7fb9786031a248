use Rattle.std.proofs.Common.{◌≡◌, ℕ, ◌<◌, Bool, ◌∷◌, take, get_or}
use Rattle.std.specs.Prelude.{◌==◌, ◌||◌}
use Rattle.std.specs.List.{list_any}
use Rattle.record_slots.proofs.marking.mark_place.Given as goal

abbrev pub invariant-loop-at : goal.invariant-loop-at
invariant-loop-at l =
    (k : ℕ) (d : Bool) → k < l.geometry.slots → get_or l.marks k d ≡ (get_or l.fn.marks k d || list_any (λ n. k == n) (l.place.slot ∷ take l.at l.place.next))
