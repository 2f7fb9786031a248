use Rattle.std.proofs.Common.{take, sym, ◌∙◌, arith}
use Rattle.base_model.proofs.BytesLemmas.{AreBytes-each, AreBytes-take}
use Rattle.cper_frame.proofs.Whole.{front, whole_record, only_found, never_refused}
use Rattle.cper_frame.proofs.record.Record.decode.Goals as goal

pub slice_bounds-record-end : goal.slice_bounds-record-end
slice_bounds-record-end c = sym (front c.args.bytes.now c.in_ok-length.field-0 (sym c.checked_length.ensures ∙ c.in_ok-length.was)).size

pub invariant_of-record : goal.invariant_of-record
invariant_of-record c = (front c.args.bytes.now c.in_ok-length.field-0 (sym c.checked_length.ensures ∙ c.in_ok-length.was)).whole

pub returns-clause-found : goal.returns-clause-found
returns-clause-found c =
    let bytes = c.args.bytes.now in
    let f = front bytes c.in_ok-length.field-0 (sym c.checked_length.ensures ∙ c.in_ok-length.was) in
    (f.within, whole_record (take c.in_ok-length.field-0 bytes) (AreBytes-take c.in_ok-length.field-0 bytes (AreBytes-each bytes (λ k. omega (arith, c.type_inv.bytes k)))) f.whole)

pub returns-clause-only : goal.returns-clause-only
returns-clause-only c = λ value n h is.
    only_found c.args.bytes.now c.in_ok-length.field-0 value n (sym c.checked_length.ensures ∙ c.in_ok-length.was) h is

pub returns-in_err-length-clause-only : goal.returns-in_err-length-clause-only
returns-in_err-length-clause-only c = λ value n h is. absurd (never_refused c.args.bytes.now c.in_err-length.field-0.0 value n (sym c.checked_length.ensures ∙ c.in_err-length.was) h is)
