use Rattle.std.proofs.Common.{length, sym, ap, ◌∙◌, arith, Some, None, ◌≡◌}
use Rattle.base_model.proofs.BytesLemmas.{AreBytes-each}
use Rattle.erst_entries.specs.Tables.{refusal}
use Rattle.item_parts.specs.Parts.{entry_parts}
use Rattle.item_parts.proofs.EntryLemmas.{length-entry_parts, has_entries, none_refused}
use Rattle.item_parts.proofs.ersts.count.Goals as goal

pub returns-in-Ok-clause-found : goal.returns-in-Ok-clause-found
returns-in-Ok-clause-found c =
    let each = AreBytes-each c.args.bytes.now (λ k. omega (arith, c.type_inv.bytes k)) in
    let found = c.in-Ok.ensures.found in
    let has = has_entries c.args.bytes.now found.0 c.in-Ok._table.now each found.1 in
    (entry_parts 48 has.entries, has.begins, c.get_u32.ensures ∙ sym has.read_is.many ∙ sym (length-entry_parts 48 has.entries))

pub returns-in-Ok-clause-only : goal.returns-in-Ok-clause-only
returns-in-Ok-clause-only c = λ parts begins.
    let each = AreBytes-each c.args.bytes.now (λ k. omega (arith, c.type_inv.bytes k)) in
    let found = c.in-Ok.ensures.found in
    let has = has_entries c.args.bytes.now found.0 c.in-Ok._table.now each found.1 in
    c.get_u32.ensures ∙ sym has.read_is.many ∙ sym (length-entry_parts 48 has.entries) ∙ ap length (sym (has.only_these parts begins))

pub returns-in-Err-clause-only : goal.returns-in-Err-clause-only
returns-in-Err-clause-only c = λ parts begins.
    let none : refusal c.args.bytes.now ≡ None = none_refused c.args.bytes.now parts begins in
    let some : refusal c.args.bytes.now ≡ Some c.in-Err.error = c.in-Err.ensures.refused in
    absurd cc
