use Rattle.std.proofs.Common.{◌≡◌, ◌-◌, ◌*◌, ◌<◌, ℕ, List, ◌++◌, length, take, ap, sym, ◌∙◌, arith}
use Rattle.base_model.specs.Flash.{Told}
use Rattle.record_model.specs.Records.{slot_at, part_len, parts_of}
use Rattle.record_store.specs.Index.{slots_at}
use Rattle.record_store.specs.Reading.{slot_of_part}
use Rattle.record_store.proofs.PartLemmas.{parts_of_len, further_count, slot_is, joined_more, joined_all}
use Rattle.record_store.proofs.ReadLemmas.{reads_none, reads_more, reads_ok, reads_of_ok}
use Rattle.record_store.proofs.reading.read_parts.Goals as goal

pub loop-number-init : goal.loop-number-init
loop-number-init g c = record {
  reads = reads_none g.F.Flash.tells (g.F.Flash.state c.args.flash.now);
  whole = c.requires.whole;
  bytes =
      λ tells. let none : 0 * (c.args.geometry.now.slot_size - 64) ≡ 0 = omega arith in ap (λ (n : ℕ). take n c.args.buffer.now) none;
}

pub loop-number-preserved : goal.loop-number-preserved
loop-number-preserved g c =
    let geometry = c.args.geometry.now in
    let room = geometry.slot_size - 64 in
    let image = (g.F.Flash.state c.args.flash.now).told.image in
    let before = c.loop-number.invariant in
    let parts = parts_of_len geometry c.args.place.len c.requires.within.least c.requires.within.most in
    let number = c.loop-number.number in
    let low : number < parts_of room c.args.place.len = omega (arith, c.parts_of-number-end.ensures) in
    let three : length c.args.place.next ≡ 3 = omega arith in
    let count = further_count room c.args.place three parts.few parts.some in
    record {
      reads = reads_more g.F.Flash.tells number 1 (g.F.Flash.state c.args.flash.now) (g.F.Flash.state c.loop-number.flash) (g.F.Flash.state c.read_part.new.flash) _ before.reads
          (reads_of_ok g.F.Flash.tells 1 (g.F.Flash.state c.loop-number.flash) (g.F.Flash.state c.read_part.new.flash) _ c.in_ok-read_part.ensures.stays) (omega arith);
      whole = c.read_part.auto.buffer ∙ before.whole;
      bytes = λ tells.
          c.in_ok-read_part.ensures.bytes tells
          ∙ ap (λ (t : Told). take (number * room) c.loop-number.buffer ++ take (part_len room c.args.place.len number)
          (slot_at geometry.slot_size t.image (slot_of_part c.args.place number)).body) (before.reads.told tells)
          ∙ ap (λ (xs : List ℕ). xs ++ take (part_len room c.args.place.len number) (slot_at geometry.slot_size image (slot_of_part c.args.place number)).body) (before.bytes tells)
          ∙ sym (joined_more room c.args.place.len (slot_at geometry.slot_size image) (slots_at room c.args.place) number (slot_of_part c.args.place number)
          (omega arith) (slot_is room c.args.place number low));
    }

pub returns-clause-bytes : goal.returns-clause-bytes
returns-clause-bytes g c tells =
    let geometry = c.args.geometry.now in
    let room = geometry.slot_size - 64 in
    let before = c.loop-number.invariant in
    let parts = parts_of_len geometry c.args.place.len c.requires.within.least c.requires.within.most in
    let three : length c.args.place.next ≡ 3 = omega arith in
    joined_all room c.args.place (slot_at geometry.slot_size (g.F.Flash.state c.args.flash.now).told.image) c.loop-number.buffer c.loop-number.number
    (further_count room c.args.place three parts.few parts.some) (omega (arith, c.parts_of-number-end.ensures)) before.whole parts.enough (before.bytes tells)

pub returns-clause-stays : goal.returns-clause-stays
returns-clause-stays g c =
    let parts = parts_of_len c.args.geometry.now c.args.place.len c.requires.within.least c.requires.within.most in
    reads_ok g.F.Flash.tells c.loop-number.number (parts_of (c.args.geometry.now.slot_size - 64) c.args.place.len) (g.F.Flash.state c.args.flash.now)
    (g.F.Flash.state c.loop-number.flash) _ c.loop-number.invariant.reads
    (omega (arith, c.parts_of-number-end.ensures)) (omega (arith, c.parts_of-number-end.ensures))
