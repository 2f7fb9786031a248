use Rattle.std.proofs.Common.{◌≡◌, ◌+◌, ◌-◌, ◌*◌, ℕ, length, drop, ap, sym, ◌∙◌, arith}
use Rattle.std.proofs.lemmas.List.{length-take}
use Rattle.std.proofs.lemmas.Result.{on_ok_weaker}
use Rattle.base_model.specs.Bytes.{part}
use Rattle.record_model.specs.Records.{part_len}
use Rattle.record_model.proofs.PartsLemmas.{seen_part}
use Rattle.record_store.proofs.PartLemmas.{parts_of_len, part_fits, part_read, part_slice}
use Rattle.record_store.proofs.reading.read_part.Goals as goal

pub part_len-len-requires : goal.part_len-len-requires
part_len-len-requires g c =
    let parts = parts_of_len c.args.geometry.now c.args.place.len c.requires.within.least c.requires.within.most in
    omega arith

pub slice_bounds-read_body-end : goal.slice_bounds-read_body-end
slice_bounds-read_body-end g c =
    let least = c.args.geometry.now.least_slot in
    let fits = part_fits (c.args.geometry.now.slot_size - 64) c.args.place.len c.args.number (omega arith) c.requires.number in
    let start : c.args.number * c.room.result ≡ c.args.number * (c.args.geometry.now.slot_size - 64) = ap (λ (n : ℕ). c.args.number * n) c.room.ensures in
    let end = fits.end in
    omega (arith, c.part_len-len.ensures, start)

pub read_body-requires-clause-room : goal.read_body-requires-clause-room
read_body-requires-clause-room g c =
    let least = c.args.geometry.now.least_slot in
    let fits = part_fits (c.args.geometry.now.slot_size - 64) c.args.place.len c.args.number (omega arith) c.requires.number in
    let short = fits.short in
    let cut = length-take (c.args.number * c.room.result + c.part_len-len.result - c.args.number * c.room.result) (drop (c.args.number * c.room.result) c.args.buffer.now) in
    omega (arith, c.part_len-len.ensures)

pub returns-clause-bytes : goal.returns-clause-bytes
returns-clause-bytes g c =
    let geometry = c.args.geometry.now in
    let room = geometry.slot_size - 64 in
    let image = (g.F.Flash.state c.args.flash.now).told.image in
    let least = geometry.least_slot in
    let fits = part_fits room c.args.place.len c.args.number (omega arith) c.requires.number in
    let start : c.args.number * c.room.result ≡ c.args.number * room = ap (λ (n : ℕ). c.args.number * n) c.room.ensures in
    let k = c.args.number * c.room.result + c.part_len-len.result - c.args.number * c.room.result in
    let count : k ≡ part_len room c.args.place.len c.args.number = omega (arith, c.part_len-len.ensures) in
    let lent = part_slice room c.args.place.len c.args.number (c.args.number * c.room.result) k c.args.buffer.now fits start count c.requires.whole in
    let equal : length c.read_body.new.buf ≡ k = c.read_body.auto.buf ∙ lent in
    let short = fits.short in
    on_ok_weaker c.read_body.result
    (λ bytes tells.
    part_read room c.args.place.len c.args.number (c.args.number * c.room.result) k c.args.buffer.now c.read_body.new.buf _ fits start count c.requires.whole equal
    (bytes tells ∙ ap (λ (n : ℕ). part image (c.part_slot-slot.result * geometry.slot_size + 32) n) (lent ∙ count)
    ∙ ap (λ (n : ℕ). part image (n * geometry.slot_size + 32) (part_len room c.args.place.len c.args.number)) c.part_slot-slot.ensures.slot
    ∙ sym (seen_part geometry.slot_size _ (part_len room c.args.place.len c.args.number) image short)))
    c.read_body.ensures.bytes
