use Rattle.std.proofs.Common.{◌≡◌, ◌++◌, ◌+◌, ◌≤◌, length, vec_len, vec_capacity, map}
use Rattle.apei_notify.specs.Chains.{members_of}
use Rattle.ghes_hub.specs.Chains.{in_order}
use Rattle.ghes_hub.proofs.deals.gather.Given as goal

abbrev pub invariant-loop-chain : goal.invariant-loop-chain
invariant-loop-chain g l =
    ((goal.iterator-loop-chain g).can_next l.chain-iterator × (goal.iterator-loop-chain g).is_finite l.chain-iterator)
    × (l.members.items ++ in_order (map members_of l.chain-iterator.rest.items) ≡ l.fn.members.items ++ in_order (map members_of l.fn.chains.items))
    × (vec_len l.members + length (in_order (map members_of l.chain-iterator.rest.items)) ≤ vec_capacity l.members)

abbrev pub invariant-loop-member : goal.invariant-loop-member
invariant-loop-member g l =
    ((goal.iterator-loop-chain g).can_next l.chain-iterator × (goal.iterator-loop-chain g).is_finite l.chain-iterator)
    × ((goal.iterator-loop-member g).can_next l.member-iterator × (goal.iterator-loop-member g).is_finite l.member-iterator)
    × (l.members.items ++ (l.member-iterator.rest.items ++ in_order (map members_of l.chain-iterator.rest.items)) ≡ l.fn.members.items ++ in_order (map members_of l.fn.chains.items))
    × (vec_len l.members + (length l.member-iterator.rest.items + length (in_order (map members_of l.chain-iterator.rest.items))) ≤ vec_capacity l.members)
