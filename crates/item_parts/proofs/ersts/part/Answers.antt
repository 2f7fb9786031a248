use Rattle.std.proofs.Common.{◌≡◌, List, sym, ap, ◌∙◌, arith, Some, None}
use Rattle.std.specs.Prelude.{slice_get}
use Rattle.base_model.specs.Bytes.{number_at}
use Rattle.base_model.proofs.BytesLemmas.{AreBytes-each}
use Rattle.erst_entries.specs.Tables.{refusal}
use Rattle.item_parts.specs.declared.parts.Part.{Part}
use Rattle.item_parts.specs.Parts.{entry_parts}
use Rattle.item_parts.proofs.EntryLemmas.{has_entries, none_refused}
use Rattle.item_parts.proofs.ersts.part.Goals as goal

pub returns-in-Ok-clause-found : goal.returns-in-Ok-clause-found
returns-in-Ok-clause-found c =
    let each = AreBytes-each c.args.bytes.now (λ k. omega (arith, c.type_inv.bytes k)) in
    let found = c.in-Ok.ensures.found in
    let has = has_entries c.args.bytes.now found.0 c.in-Ok.table.now each found.1 in
    (entry_parts 48 has.entries, has.begins, c.part_of.ensures (number_at c.args.bytes.now 44 4) has.entries found.1.counted has.read_is)

pub returns-in-Ok-clause-only : goal.returns-in-Ok-clause-only
returns-in-Ok-clause-only c = λ parts begins.
    let each = AreBytes-each c.args.bytes.now (λ k. omega (arith, c.type_inv.bytes k)) in
    let found = c.in-Ok.ensures.found in
    let has = has_entries c.args.bytes.now found.0 c.in-Ok.table.now each found.1 in
    c.part_of.ensures (number_at c.args.bytes.now 44 4) has.entries found.1.counted has.read_is
    ∙ ap (λ (parts : List Part). slice_get parts c.args.index) (sym (has.only_these parts begins))

pub returns-in-Err-clause-only : goal.returns-in-Err-clause-only
returns-in-Err-clause-only c = λ parts begins.
    let none : refusal c.args.bytes.now ≡ None = none_refused c.args.bytes.now parts begins in
    let some : refusal c.args.bytes.now ≡ Some c.in-Err.error = c.in-Err.ensures.refused in
    absurd cc
