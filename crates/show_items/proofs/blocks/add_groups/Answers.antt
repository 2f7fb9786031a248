use Rattle.std.proofs.Common.{◌≡◌, ℕ, List, [], ◌∷◌, ◌++◌, length, Option, rules}
use Rattle.std.proofs.lemmas.Result.{on_ok_weaker}
use Rattle.show_findings.specs.Places.{seen_number}
use Rattle.show_items.specs.Blocks.{block_groups, entry_groups, head_group, raw_groups, raw_of}
use Rattle.show_items.specs.Parts.{part_groups}
use Rattle.show_items.specs.Sheets.{GroupsBegun}
use Rattle.show_items.specs.declared.sheet.Form.TheVariants.{Brief}
use Rattle.show_items.proofs.BeginningLemmas.{groups_begun_more, groups_begun_then, if_stopped, stopped_so}
use Rattle.show_items.proofs.SheetLemmas.{brief_adds_nothing, groups_then, on_pages}
use Rattle.show_items.proofs.blocks.add_groups.Goals as goal

pub returns-then-eq-clause-groups : goal.returns-then-eq-clause-groups
returns-then-eq-clause-groups g c =
    let brief : c.args.sheet.now.manner.form ≡ Brief = search rules in
    brief_adds_nothing (block_groups c.args.bytes.now ++ part_groups c.args.parts.now) (g.P.Pages.written c.args.pages.now) c.args.sheet.now brief

pub returns-clause-groups : goal.returns-clause-groups
returns-clause-groups g c =
    let bytes = c.args.bytes.now in
    let entries = entry_groups bytes (length bytes) 0 20 in
    let raw = raw_groups (seen_number bytes 4 4) (raw_of bytes) in
    let parts = part_groups c.args.parts.now in
    let before : Option (List ℕ) = g.P.Pages.written c.args.pages.now in
    let middle : Option (List ℕ) = g.P.Pages.written c.add_entries.new.pages in
    let after : Option (List ℕ) = g.P.Pages.written c.add_parts.new.pages in
    let headed = c.add_head.new.sheet in
    let listed = c.add_entries.new.sheet in
    let rawed = c.add_raw.new.sheet in
    let new = c.add_parts.new.sheet in
    let both = groups_then entries raw before middle middle headed listed rawed c.in_ok-add_entries.ensures.groups
    (on_pages raw middle listed rawed c.in_ok-add_raw.ensures) in
    on_ok_weaker c.add_parts.result
    (λ added. groups_then (head_group bytes ∷ []) ((entries ++ raw) ++ parts) before before after c.args.sheet.now headed new
    (on_pages (head_group bytes ∷ []) before c.args.sheet.now headed c.in_ok-add_head.ensures)
    (groups_then (entries ++ raw) parts before middle after headed rawed new both added))
    c.add_parts.ensures.groups

pub returns-in_err-add_entries-clause-stopped : goal.returns-in_err-add_entries-clause-stopped
returns-in_err-add_entries-clause-stopped g c =
    let bytes = c.args.bytes.now in
    let entries = entry_groups bytes (length bytes) 0 20 in
    let raw = raw_groups (seen_number bytes 4 4) (raw_of bytes) in
    let parts = part_groups c.args.parts.now in
    let before : Option (List ℕ) = g.P.Pages.written c.args.pages.now in
    let after : Option (List ℕ) = g.P.Pages.written c.add_entries.new.pages in
    let headed = c.add_head.new.sheet in
    stopped_so c.from_residual-in_err-add_entries.result c.in_err-add_entries.field-0.0 (GroupsBegun entries before after headed) _
    c.from_residual-in_err-add_entries.ensures.1
    (λ begun. groups_begun_then (head_group bytes ∷ []) ((entries ++ raw) ++ parts) before before after c.args.sheet.now headed
    (on_pages (head_group bytes ∷ []) before c.args.sheet.now headed c.in_ok-add_head.ensures)
    (groups_begun_more (entries ++ raw) parts before after headed (groups_begun_more entries raw before after headed begun)))
    c.in_err-add_entries.ensures.stopped

pub returns-clause-stopped : goal.returns-clause-stopped
returns-clause-stopped g c =
    let bytes = c.args.bytes.now in
    let entries = entry_groups bytes (length bytes) 0 20 in
    let raw = raw_groups (seen_number bytes 4 4) (raw_of bytes) in
    let parts = part_groups c.args.parts.now in
    let before : Option (List ℕ) = g.P.Pages.written c.args.pages.now in
    let middle : Option (List ℕ) = g.P.Pages.written c.add_entries.new.pages in
    let after : Option (List ℕ) = g.P.Pages.written c.add_parts.new.pages in
    let headed = c.add_head.new.sheet in
    let listed = c.add_entries.new.sheet in
    let rawed = c.add_raw.new.sheet in
    let both = groups_then entries raw before middle middle headed listed rawed c.in_ok-add_entries.ensures.groups
    (on_pages raw middle listed rawed c.in_ok-add_raw.ensures) in
    if_stopped c.add_parts.result (GroupsBegun parts middle after rawed) _
    (λ begun. groups_begun_then (head_group bytes ∷ []) ((entries ++ raw) ++ parts) before before after c.args.sheet.now headed
    (on_pages (head_group bytes ∷ []) before c.args.sheet.now headed c.in_ok-add_head.ensures)
    (groups_begun_then (entries ++ raw) parts before middle after headed rawed both begun))
    c.add_parts.ensures.stopped
