use Rattle.std.proofs.Common.{◌≡◌, ◌+◌, length}
use Rattle.ghes_hub.specs.Deals.{AreDealt}
use Rattle.ghes_hub.proofs.deals.deal.Given as goal

abbrev pub invariant-loop-listener : goal.invariant-loop-listener
invariant-loop-listener g l =
    ((goal.iterator-loop-listener g).can_next l.listener-iterator × (goal.iterator-loop-listener g).is_finite l.listener-iterator)
    × AreDealt (length l.fn.lists.items) l.number l.fn.listeners.items l.listener-iterator.rest.items l.lists.items
    × (l.number + length l.listener-iterator.rest.items ≡ length l.fn.listeners.items)
