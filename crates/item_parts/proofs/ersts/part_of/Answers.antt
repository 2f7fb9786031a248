use Rattle.std.proofs.Common.{ℕ, ◌+◌, ◌*◌, Some, sym, ap, ◌∙◌, arith}
use Rattle.std.proofs.lemmas.Option.{slice_get_past}
use Rattle.item_parts.specs.declared.parts.Part.{Part}
use Rattle.item_parts.specs.Parts.{entry_parts}
use Rattle.item_parts.proofs.EntryLemmas.{length-entry_parts, entry_part_at, entry_of}
use Rattle.item_parts.proofs.ersts.part_of.Goals as goal

pub returns-then-at-table : goal.returns-then-at-table
returns-then-at-table c = λ size entries long are.
    let many = are.many in
    let parts = length-entry_parts 48 entries in
    sym (slice_get_past (entry_parts 48 entries) c.args.index (omega arith))

pub returns : goal.returns
returns c = λ size entries long are.
    let here = entry_of c.args.table.now size entries c.args.index are (omega arith) in
    ap (λ (kind : ℕ). let part : Part = record { at = 48 + 32 * c.args.index; len = 32; body = 0; body_len = 0; kind = kind } in Some part) (c.from.ensures ∙ here.action)
    ∙ sym (entry_part_at 48 entries c.args.index here.entry here.found)
