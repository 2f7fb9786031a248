use Rattle.std.proofs.Common.{◌<◌, length, refl, sym, ◌∙◌, arith}
use Rattle.std.proofs.Math.ListN.{length-set}
use Rattle.std.proofs.lemmas.List.{get_or_default}
use Rattle.record_store.proofs.StartLemmas.{slots_more}
use Rattle.record_store.proofs.starting.first_free.Goals as goal

pub loop-at-init : goal.loop-at-init
loop-at-init c = record { four = refl; taken = λ i h. absurd (omega arith) }

pub loop-at-preserved : goal.loop-at-preserved
loop-at-preserved c =
    let before = c.loop-at.invariant in
    let within : c.loop-at.at < length c.loop-at.slots = omega (arith, before.four) in
    let low : c.loop-at.at < length c.args.found.now.free.items = omega arith in
    record {
      four = length-set c.loop-at.slots c.loop-at.at c.index.result.now ∙ before.four;
      taken = slots_more c.loop-at.slots c.args.found.now.free.items c.loop-at.at c.index.result.now within before.taken
          (c.index.ensures ∙ sym (get_or_default c.args.found.now.free.items c.loop-at.at 0 c.index.result.now low));
    }
