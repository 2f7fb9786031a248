use Rattle.std.proofs.Common.{◌≡◌, ℕ, ◌+◌, ◌*◌, ◌≤◌, List, length, take, ◌∙◌, ap, subst, arith, refl}
use Rattle.std.proofs.lemmas.Result.{on_ok_weaker}
use Rattle.base_model.specs.Bytes.{put_at, spelled}
use Rattle.base_model.specs.Flash.{AsksChange}
use Rattle.record_model.specs.Records.{head_bytes, head_fields}
use Rattle.record_slots.specs.Parts.{part_numbers}
use Rattle.record_slots.specs.declared.head.PartHead.{PartHead}
use Rattle.record_slots.proofs.Stands.{stands_at}
use Rattle.record_slots.proofs.changes.put_part_head.Goals as goal

long : (head : PartHead) → length (take 24 (head_bytes (part_numbers head))) ≡ 24
unfolding head_bytes head_fields spelled
long head = refl

pub returns-clause-stands : goal.returns-clause-stands
returns-clause-stands g c =
    let old = (g.F.Flash.state c.args.flash.now).told.image in
    let new = (g.F.Flash.state c.program.new.self).told.image in
    let place = c.args.slot * c.args.geometry.now.slot_size in
    let bytes = take 24 (head_bytes (part_numbers c.args.head.now)) in
    let head : c.encode-bytes.result ≡ head_bytes (part_numbers c.args.head.now) = c.encode-bytes.ensures ∙ ap head_bytes c.head.ensures in
    let same = ap (λ (k : ℕ). put_at old k (take 24 c.encode-bytes.result)) c.place_of-place.ensures.place ∙ ap (λ (xs : List ℕ). put_at old place (take 24 xs)) head in
    on_ok_weaker c.program.result
    (λ holds tells.
    let long_enough : length old ≡ (g.F.Flash.state c.args.flash.now).size = g.met.F.Flash.sized c.args.flash.now tells in
    let fits : place + 24 ≤ length old = omega arith in
    stands_at old new place 24 bytes (long c.args.head.now) fits (holds tells ∙ same)) c.program.ensures.bytes

pub returns-clause-change : goal.returns-clause-change
returns-clause-change g c =
    let head : c.encode-bytes.result ≡ head_bytes (part_numbers c.args.head.now) = c.encode-bytes.ensures ∙ ap head_bytes c.head.ensures in
    let size : length (take 24 c.encode-bytes.result) ≡ 24 = ap (λ (xs : List ℕ). length (take 24 xs)) head ∙ long c.args.head.now in
    subst (λ (k : ℕ). AsksChange g.F.Flash.tells k 24 (g.F.Flash.state c.args.flash.now) (g.F.Flash.state c.program.new.self) c.program.result) c.place_of-place.ensures.place
    (subst (λ (n : ℕ). AsksChange g.F.Flash.tells c.place_of-place.result n (g.F.Flash.state c.args.flash.now) (g.F.Flash.state c.program.new.self) c.program.result) size c.program.ensures.change)
