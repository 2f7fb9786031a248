use Rattle.std.proofs.Common.{◌≡◌, ◌++◌, ◌+◌, ◌≤◌, length, vec_len, vec_capacity, map}
use Rattle.apei_notify.specs.Chains.{members_of}
use Rattle.ghes_hub.proofs.deals.chains.Given as goal

abbrev pub invariant-loop-list : goal.invariant-loop-list
invariant-loop-list g l =
    ((goal.iterator-loop-list g).can_next l.list-iterator × (goal.iterator-loop-list g).is_finite l.list-iterator)
    × (map members_of l.chains.items ++ map (λ list. list.items) l.list-iterator.rest.items ≡ map (λ list. list.items) l.fn.lists.items)
    × (vec_len l.chains + length l.list-iterator.rest.items ≤ vec_capacity l.chains)
