use Rattle.std.proofs.Common.{◌≡◌, ◌+◌, ◌%◌, [], length, set, sym, ap, subst, arith}
use Rattle.std.proofs.lemmas.List.{nil_from_length}
use Rattle.ghes_hub.specs.Deals.{AreDealt}
use Rattle.ghes_hub.proofs.DealLemmas.{none_dealt, one_dealt, has_place, list_at}
use Rattle.ghes_hub.proofs.deals.deal.Goals as goal

pub loop-listener-init : goal.loop-listener-init
loop-listener-init g c =
    let all = c.args.listeners.items in
    let lists = c.args.lists.now.items in
    let same = c.into_iter-listener-iterator.ensures.into_iter_gives.0 in
    ((tt, tt), subst (λ xs. AreDealt (length lists) 0 all xs lists) (sym same) (none_dealt (length lists) all lists c.requires.empty), (let e = ap length same in omega (arith, e)))

pub push_reserved-requires : goal.push_reserved-requires
push_reserved-requires g c =
    let n = length c.args.lists.now.items in
    let count : c.len-count.result ≡ n = (let e = c.len-count.ensures in let l = c.args.lists.now.ok.0 in omega (arith, e, l)) in
    let k = c.loop-listener.number in
    let all = c.args.listeners.items in
    let list = c.index_mut.result.now in
    let dealt = subst (λ xs. AreDealt n k all xs c.loop-listener.lists.items) c.in-Some.ensures.steps.0 c.loop-listener.invariant.1 in
    let here = list_at n k all _ c.loop-listener.lists.items c.len-count.result list count c.requires.some dealt c.index_mut.ensures.value in
    let h = has_place n k all c.in-Some.listener c.next.new.self.rest.items c.loop-listener.lists.items list dealt here in
    let l = list.ok.0 in
    omega (arith, h, l)

pub loop-listener-preserved : goal.loop-listener-preserved
loop-listener-preserved g c =
    let n = length c.args.lists.now.items in
    let count : c.len-count.result ≡ n = (let e = c.len-count.ensures in let l = c.args.lists.now.ok.0 in omega (arith, e, l)) in
    let k = c.loop-listener.number in
    let all = c.args.listeners.items in
    let lists = c.loop-listener.lists.items in
    let list = c.index_mut.result.now in
    let new = c.push_reserved.new.self in
    let rest = c.next.new.self.rest.items in
    let dealt = subst (λ xs. AreDealt n k all xs lists) c.in-Some.ensures.steps.0 c.loop-listener.invariant.1 in
    let here = list_at n k all _ lists c.len-count.result list count c.requires.some dealt c.index_mut.ensures.value in
    let next = one_dealt n k all c.in-Some.listener rest lists list new dealt here c.push_reserved.ensures.items c.push_reserved.ensures.capacity in
    let sum = c.loop-listener.invariant.2 in
    let l = ap length c.in-Some.ensures.steps.0 in
    ((tt, tt), subst (λ j. AreDealt n (k + 1) all rest (set lists (k % j) new)) (sym count) next, omega (arith, sum, l))

pub returns : goal.returns
returns g c =
    let n = length c.args.lists.now.items in
    let all = c.args.listeners.items in
    let k = c.loop-listener.number in
    let iter = c.loop-listener.listener-iterator.rest in
    let none = nil_from_length iter.items (let e = c.in-None.ensures.steps.0 in let l = iter.ok.0 in omega (arith, e, l)) in
    let sum = c.loop-listener.invariant.2 in
    let e : k ≡ length all = (let l = ap length none in omega (arith, sum, l)) in
    subst (λ j. AreDealt n j all [] c.loop-listener.lists.items) e (subst (λ xs. AreDealt n k all xs c.loop-listener.lists.items) none c.loop-listener.invariant.1)
