use Rattle.std.proofs.Common.{◌≡◌, ◌+◌, ◌*◌, ◌<◌, ℕ, length, refl, ap, subst, ◌∙◌, arith}
use Rattle.std.specs.Prelude.{◌==◌}
use Rattle.std.proofs.Math.ListN.{length-set}
use Rattle.base_model.specs.Flash.{Told}
use Rattle.record_model.specs.Records.{tail_at, tail_mark}
use Rattle.record_store.proofs.StartLemmas.{marks_more}
use Rattle.record_store.proofs.ReadLemmas.{HasRead, reads_none, reads_more, reads_ok}
use Rattle.record_store.proofs.starting.look_at_marks.Goals as goal

pub loop-at-init : goal.loop-at-init
loop-at-init g c = record { four = refl; reads = reads_none g.F.Flash.tells (g.F.Flash.state c.args.flash.now); marked = λ tells i h. absurd (omega arith) }

pub loop-at-preserved : goal.loop-at-preserved
loop-at-preserved g c =
    let size = c.args.geometry.now.slot_size in
    let image = (g.F.Flash.state c.args.flash.now).told.image in
    let before = c.loop-at.invariant in
    let within : c.loop-at.at < length c.loop-at.marked = omega (arith, before.four) in
    let next : 2 * c.loop-at.at + 2 ≡ 2 * (c.loop-at.at + 1) = omega arith in
    record {
      four = length-set c.loop-at.marked c.loop-at.at c.in_ok-marked.field-0 ∙ before.four;
      reads = subst (λ (n : ℕ). HasRead g.F.Flash.tells n (g.F.Flash.state c.args.flash.now) (g.F.Flash.state c.has_mark.new.flash)) next
          (reads_more g.F.Flash.tells (2 * c.loop-at.at) 2 (g.F.Flash.state c.args.flash.now) (g.F.Flash.state c.loop-at.flash) (g.F.Flash.state c.has_mark.new.flash) _ before.reads
          c.in_ok-marked.ensures.stays (omega arith));
      marked = λ tells.
          marks_more size c.loop-at.at image c.args.slots.now c.loop-at.marked c.in_ok-marked.field-0 within (before.marked tells)
          (c.in_ok-marked.ensures.mark tells ∙ ap (λ (t : Told). tail_at t.image (c.from.result * size) size == tail_mark) (before.reads.told tells)
          ∙ ap (λ (n : ℕ). tail_at image (n * size) size == tail_mark) c.from.ensures);
    }

pub returns-clause-stays : goal.returns-clause-stays
returns-clause-stays g c =
    reads_ok g.F.Flash.tells (2 * c.loop-at.at) (2 * c.args.parts) (g.F.Flash.state c.args.flash.now) (g.F.Flash.state c.loop-at.flash) _ c.loop-at.invariant.reads (omega arith) (omega arith)
