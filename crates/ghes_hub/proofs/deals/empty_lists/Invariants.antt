use Rattle.std.proofs.Common.{◌≡◌, ◌-◌, ◌≤◌, length, vec_len, vec_capacity}
use Rattle.ghes_hub.specs.Deals.{AreEmpty}
use Rattle.ghes_hub.proofs.deals.empty_lists.Given as goal

abbrev pub invariant-loop-alloc : goal.invariant-loop-alloc
invariant-loop-alloc g l = (vec_len l.lists ≤ l.fn.count) × (vec_capacity l.lists ≡ l.fn.count) × (vec_len l.lists ≡ length l.lists.items) × AreEmpty (vec_len l.lists) l.fn.many l.lists.items

abbrev pub decreases-loop-alloc : goal.decreases-loop-alloc
decreases-loop-alloc g l = l.fn.count - vec_len l.lists
