use Rattle.std.proofs.Common.{arith}
use Rattle.apei_notify.proofs.ToldLemmas.{none_is_told, one_more_is_told, all_are_told}
use Rattle.apei_notify.proofs.chain.Chain.tell.Goals as goal

pub loop-member-init : goal.loop-member-init
loop-member-init g c = none_is_told _ c.deref_mut-member-items.result.now

pub loop-member-preserved : goal.loop-member-preserved
loop-member-preserved g c =
    let long = c.loop-member.auto.member-items in
    let more = c.loop-member-test.true in
    one_more_is_told _ c.deref_mut-member-items.result.now c.loop-member.member-items c.loop-member.member-index c.member-item.result c.tell_member.new.member
    c.loop-member.invariant (omega arith) c.tell_member.ensures

pub returns : goal.returns
returns g c =
    all_are_told _ _ c.deref_mut-member-items.result.now c.loop-member.member-items _ c.loop-member.member-index _ c.loop-member.invariant
    c.deref_mut-member-items.ensures.value c.loop-member-test.false c.deref_mut-member-items.ensures.len
