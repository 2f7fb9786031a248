use Rattle.std.proofs.Common.{◌≡◌, ℕ, List, [], ◌∷◌, ◌++◌, Option, rules}
use Rattle.std.proofs.lemmas.Result.{on_ok_weaker}
use Rattle.show_findings.specs.Places.{seen_number}
use Rattle.show_items.specs.Parts.{part_groups}
use Rattle.show_items.specs.Records.{header_group, record_groups, room_of, section_groups}
use Rattle.show_items.specs.Sheets.{GroupsBegun}
use Rattle.show_items.specs.declared.sheet.Form.TheVariants.{Brief}
use Rattle.show_items.proofs.BeginningLemmas.{groups_begun_more, groups_begun_then, if_stopped, stopped_so}
use Rattle.show_items.proofs.SheetLemmas.{brief_adds_nothing, groups_then, on_pages}
use Rattle.show_items.proofs.records.add_groups.Goals as goal

pub returns-then-eq-clause-groups : goal.returns-then-eq-clause-groups
returns-then-eq-clause-groups g c =
    let brief : c.args.sheet.now.manner.form ≡ Brief = search rules in
    brief_adds_nothing (record_groups c.args.bytes.now ++ part_groups c.args.parts.now) (g.P.Pages.written c.args.pages.now) c.args.sheet.now brief

pub returns-clause-groups : goal.returns-clause-groups
returns-clause-groups g c =
    let bytes = c.args.bytes.now in
    let sections = section_groups bytes (seen_number bytes 10 2) 0 (room_of bytes) in
    let parts = part_groups c.args.parts.now in
    let before : Option (List ℕ) = g.P.Pages.written c.args.pages.now in
    let middle : Option (List ℕ) = g.P.Pages.written c.add_sections.new.pages in
    let after : Option (List ℕ) = g.P.Pages.written c.add_parts.new.pages in
    let headed = c.add_header.new.sheet in
    let listed = c.add_sections.new.sheet in
    let new = c.add_parts.new.sheet in
    on_ok_weaker c.add_parts.result
    (λ added. groups_then (header_group bytes ∷ []) (sections ++ parts) before before after c.args.sheet.now headed new
    (on_pages (header_group bytes ∷ []) before c.args.sheet.now headed c.in_ok-add_header.ensures)
    (groups_then sections parts before middle after headed listed new c.in_ok-add_sections.ensures.groups added))
    c.add_parts.ensures.groups

pub returns-in_err-add_sections-clause-stopped : goal.returns-in_err-add_sections-clause-stopped
returns-in_err-add_sections-clause-stopped g c =
    let bytes = c.args.bytes.now in
    let sections = section_groups bytes (seen_number bytes 10 2) 0 (room_of bytes) in
    let parts = part_groups c.args.parts.now in
    let before : Option (List ℕ) = g.P.Pages.written c.args.pages.now in
    let after : Option (List ℕ) = g.P.Pages.written c.add_sections.new.pages in
    let headed = c.add_header.new.sheet in
    stopped_so c.from_residual-in_err-add_sections.result c.in_err-add_sections.field-0.0 (GroupsBegun sections before after headed) _
    c.from_residual-in_err-add_sections.ensures.1
    (λ begun. groups_begun_then (header_group bytes ∷ []) (sections ++ parts) before before after c.args.sheet.now headed
    (on_pages (header_group bytes ∷ []) before c.args.sheet.now headed c.in_ok-add_header.ensures)
    (groups_begun_more sections parts before after headed begun))
    c.in_err-add_sections.ensures.stopped

pub returns-clause-stopped : goal.returns-clause-stopped
returns-clause-stopped g c =
    let bytes = c.args.bytes.now in
    let sections = section_groups bytes (seen_number bytes 10 2) 0 (room_of bytes) in
    let parts = part_groups c.args.parts.now in
    let before : Option (List ℕ) = g.P.Pages.written c.args.pages.now in
    let middle : Option (List ℕ) = g.P.Pages.written c.add_sections.new.pages in
    let after : Option (List ℕ) = g.P.Pages.written c.add_parts.new.pages in
    let headed = c.add_header.new.sheet in
    let listed = c.add_sections.new.sheet in
    if_stopped c.add_parts.result (GroupsBegun parts middle after listed) _
    (λ begun. groups_begun_then (header_group bytes ∷ []) (sections ++ parts) before before after c.args.sheet.now headed
    (on_pages (header_group bytes ∷ []) before c.args.sheet.now headed c.in_ok-add_header.ensures)
    (groups_begun_then sections parts before middle after headed listed c.in_ok-add_sections.ensures.groups begun))
    c.add_parts.ensures.stopped
