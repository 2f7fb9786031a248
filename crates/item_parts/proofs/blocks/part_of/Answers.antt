use Rattle.std.proofs.Common.{ℕ, length, Some, sym, ap, ◌∙◌, arith}
use Rattle.std.specs.Prelude.{slice_get}
use Rattle.std.proofs.lemmas.Option.{slice_get_past}
use Rattle.ghes_block.specs.Entries.{value_of}
use Rattle.item_parts.specs.declared.parts.Part.{Part}
use Rattle.item_parts.specs.Parts.{data_part, data_parts}
use Rattle.item_parts.proofs.PartLemmas.{length-data_parts, data_at, same_place, place_next, is_here, first_here, entry_fits}
use Rattle.item_parts.proofs.blocks.part_of.Goals as goal

pub loop-passed-init : goal.loop-passed-init
loop-passed-init c = record { within = omega arith; place = first_here c.args.block.now.entries }

pub returns-in_default : goal.returns-in_default
returns-in_default c =
    let entries = c.args.block.now.entries in
    let at = c.loop-passed.invariant in
    let at_end = same_place entries c.loop-passed._passed (length entries) c.requires.entries at.within (omega arith) (sym at.place ∙ c.in_default.ensures.found) in
    let many = length-data_parts 20 entries in
    sym (slice_get_past (data_parts 20 entries) c.args.index (omega arith))

pub loop-passed-preserved : goal.loop-passed-preserved
loop-passed-preserved c =
    let at = c.loop-passed.invariant in
    let here = is_here c.args.block.now.entries c.loop-passed._passed c.loop-passed.at c.in-Some.next (value_of c.in-Some.field-0-0) c.requires.entries at.within at.place c.in-Some.ensures.found in
    let within = here.within in
    record { within = omega arith; place = here.next_place }

pub returns-in_default-entry_at : goal.returns-in_default-entry_at
returns-in_default-entry_at c =
    let entries = c.args.block.now.entries in
    let at = c.loop-passed.invariant in
    let at_end = same_place entries c.loop-passed._passed (length entries) c.requires.entries at.within (omega arith) (sym at.place ∙ c.in_default-entry_at.ensures.found) in
    let many = length-data_parts 20 entries in
    sym (slice_get_past (data_parts 20 entries) c.args.index (omega arith))

pub data_part-requires-clause-head : goal.data_part-requires-clause-head
data_part-requires-clause-head c =
    let entries = c.args.block.now.entries in
    let at = c.loop-passed.invariant in
    let entry = value_of c.in-Some-entry_at.entry in
    let here = is_here entries c.loop-passed._passed c.loop-passed.at c.in-Some-entry_at.next entry c.requires.entries at.within at.place c.in-Some-entry_at.ensures.found in
    (entry_fits entries c.loop-passed._passed entry c.requires.entries here.found).head

pub data_part-requires-clause-next : goal.data_part-requires-clause-next
data_part-requires-clause-next c =
    let entries = c.args.block.now.entries in
    let at = c.loop-passed.invariant in
    let entry = value_of c.in-Some-entry_at.entry in
    let here = is_here entries c.loop-passed._passed c.loop-passed.at c.in-Some-entry_at.next entry c.requires.entries at.within at.place c.in-Some-entry_at.ensures.found in
    let next = place_next entries c.loop-passed._passed entry here.found in
    let next_place = here.next_place in
    let place = at.place in
    omega arith

pub returns : goal.returns
returns c =
    let entries = c.args.block.now.entries in
    let at = c.loop-passed.invariant in
    let entry = value_of c.in-Some-entry_at.entry in
    let here = is_here entries c.loop-passed._passed c.loop-passed.at c.in-Some-entry_at.next entry c.requires.entries at.within at.place c.in-Some-entry_at.ensures.found in
    ap (λ (part : Part). Some part) (c.data_part.ensures ∙ ap (λ (n : ℕ). data_part n entry) at.place)
    ∙ sym (data_at entries c.loop-passed._passed entry here.found)
    ∙ ap (slice_get (data_parts 20 entries)) (omega arith)
