use Rattle.std.proofs.Common.{◌∙◌, ℕ, List, ◌++◌, string_bytes, refl, sym, ap, subst, append_assoc}
use Rattle.record_model.specs.Records.{Head, slot_at}
use Rattle.image_survey.specs.declared.kinds.SlotKind.{SlotKind}
use Rattle.apei_look.specs.Frames.{IsFrameText}
use Rattle.apei_look.specs.Records.{IsSlotText, record_line}
use Rattle.apei_look.proofs.records.add_record.Goals as goal

pub returns : goal.returns
returns c =
    let image = c.args.image.now in
    let slot_size = image.geometry.now.slot_size in
    let slots = image.geometry.now.slots in
    let old : List ℕ = string_bytes c.args.out.now in
    let first = rw c.in-Some.is at c.in_ok-head.ensures.first in
    let of_slot = rw c.in-Some.is at c.in_ok-head.ensures.bytes in
    let of_head = rw c.in-Some.is at c.in_ok-head.ensures.head in
    let head : Head = (slot_at slot_size image.bytes.now c.args.slot).head in
    let frame : List ℕ = c.in_ok-add_frame.ensures.more in
    let line : List ℕ = record_line slot_size c.args.slot head in
    record {
      more = line ++ frame;
      of_kind = subst (λ (kind : SlotKind). IsSlotText slot_size slots image.bytes.now c.args.slot kind (line ++ frame)) (sym first) (record {
        bytes = c.in-Some.bytes.items;
        frame = frame;
        of_slot = of_slot;
        of_bytes = subst (λ (bytes : List ℕ). IsFrameText bytes frame) c.deref.ensures.value c.in_ok-add_frame.ensures.of_kind;
        is = refl;
      });
      is = c.in_ok-add_frame.ensures.is
          ∙ ap (λ (text : List ℕ). text ++ frame) (c.in_ok-add_line.ensures ∙ ap (λ (h : Head). old ++ record_line slot_size c.args.slot h) of_head)
          ∙ append_assoc old line frame;
    }
