use Rattle.std.proofs.Common.{◌≡◌, ◌∙◌, ℕ, List, [], ◌∷◌, Option, Some, codes, sym, ap, subst}
use Rattle.std.proofs.lemmas.Result.{on_ok_weaker}
use Rattle.field_lines.specs.Layouts.{Structure}
use Rattle.item_parts.specs.declared.items.Item.{Item}
use Rattle.item_parts.specs.declared.items.Item.TheVariants.{Erst, Hest}
use Rattle.show_findings.specs.Places.{seen_number}
use Rattle.show_items.specs.Groups.{Group}
use Rattle.show_items.specs.Sheets.{AddsGroups, GroupsBegun}
use Rattle.show_items.specs.Tables.{fixed_group, groups_behind, instruction_groups, source_groups, table_of}
use Rattle.field_lines.specs.Erst.{erst_header}
use Rattle.field_lines.specs.Headers.{hest_header}
use Rattle.show_items.proofs.BeginningLemmas.{if_stopped}
use Rattle.show_items.proofs.TableLemmas.{group_and_begun, group_and_more}
use Rattle.show_items.proofs.tables.add_behind.Goals as goal

pub returns-in_ok-add_fixed-in-Some-Erst-clause-shown : goal.returns-in_ok-add_fixed-in-Some-Erst-clause-shown
returns-in_ok-add_fixed-in-Some-Erst-clause-shown g c =
    let bytes = c.args.bytes.now in
    let sheet = c.args.sheet.now in
    let fixed = c.add_fixed.new.sheet in
    let head : Group = fixed_group (codes "table") erst_header 48 bytes in
    let more : List Group = instruction_groups bytes (seen_number bytes 44 4) 0 in
    let before : Option (List ℕ) = g.P.Pages.written c.args.pages.now in
    let after : Option (List ℕ) = g.P.Pages.written c.add_instructions.new.pages in
    let known : table_of bytes ≡ Some Erst = sym c.table_of.ensures ∙ c.in-Some-Erst.is ∙ ap Some c.in-Some-Erst.field-0-is in
    let first : AddsGroups (head ∷ []) (Some []) (Some []) sheet fixed =
    subst (λ (fields : Structure). AddsGroups (fixed_group (codes "table") fields 48 bytes ∷ []) (Some []) (Some []) sheet fixed)
    c.erst_header.ensures.layout c.in_ok-add_fixed-in-Some-Erst.ensures in
    on_ok_weaker c.add_instructions.result
    (λ adds. subst (λ (told : Option Item). AddsGroups (groups_behind told bytes) before after sheet c.add_instructions.new.sheet) (sym known)
    (group_and_more head more before after sheet fixed c.add_instructions.new.sheet first adds))
    c.add_instructions.ensures.shown

pub returns-in_ok-add_fixed-in-Some-Erst-clause-stopped : goal.returns-in_ok-add_fixed-in-Some-Erst-clause-stopped
returns-in_ok-add_fixed-in-Some-Erst-clause-stopped g c =
    let bytes = c.args.bytes.now in
    let sheet = c.args.sheet.now in
    let fixed = c.add_fixed.new.sheet in
    let head : Group = fixed_group (codes "table") erst_header 48 bytes in
    let more : List Group = instruction_groups bytes (seen_number bytes 44 4) 0 in
    let before : Option (List ℕ) = g.P.Pages.written c.args.pages.now in
    let after : Option (List ℕ) = g.P.Pages.written c.add_instructions.new.pages in
    let known : table_of bytes ≡ Some Erst = sym c.table_of.ensures ∙ c.in-Some-Erst.is ∙ ap Some c.in-Some-Erst.field-0-is in
    let first : AddsGroups (head ∷ []) (Some []) (Some []) sheet fixed =
    subst (λ (fields : Structure). AddsGroups (fixed_group (codes "table") fields 48 bytes ∷ []) (Some []) (Some []) sheet fixed)
    c.erst_header.ensures.layout c.in_ok-add_fixed-in-Some-Erst.ensures in
    if_stopped c.add_instructions.result (GroupsBegun more before after fixed) _
    (λ begun. subst (λ (told : Option Item). GroupsBegun (groups_behind told bytes) before after sheet) (sym known)
    (group_and_begun head more before after sheet fixed first begun))
    c.add_instructions.ensures.stopped

pub returns-in_ok-add_fixed-in-Some-Hest-clause-shown : goal.returns-in_ok-add_fixed-in-Some-Hest-clause-shown
returns-in_ok-add_fixed-in-Some-Hest-clause-shown g c =
    let bytes = c.args.bytes.now in
    let sheet = c.args.sheet.now in
    let fixed = c.add_fixed-in-Some-Hest.new.sheet in
    let head : Group = fixed_group (codes "table") hest_header 40 bytes in
    let more : List Group = source_groups bytes (seen_number bytes 36 4) 0 40 in
    let before : Option (List ℕ) = g.P.Pages.written c.args.pages.now in
    let after : Option (List ℕ) = g.P.Pages.written c.add_sources.new.pages in
    let known : table_of bytes ≡ Some Hest = sym c.table_of.ensures ∙ c.in-Some-Hest.is ∙ ap Some c.in-Some-Hest.field-0-is in
    let first : AddsGroups (head ∷ []) (Some []) (Some []) sheet fixed =
    subst (λ (fields : Structure). AddsGroups (fixed_group (codes "table") fields 40 bytes ∷ []) (Some []) (Some []) sheet fixed)
    c.hest_header.ensures.layout c.in_ok-add_fixed-in-Some-Hest.ensures in
    on_ok_weaker c.add_sources.result
    (λ adds. subst (λ (told : Option Item). AddsGroups (groups_behind told bytes) before after sheet c.add_sources.new.sheet) (sym known)
    (group_and_more head more before after sheet fixed c.add_sources.new.sheet first adds))
    c.add_sources.ensures.shown

pub returns-in_ok-add_fixed-in-Some-Hest-clause-stopped : goal.returns-in_ok-add_fixed-in-Some-Hest-clause-stopped
returns-in_ok-add_fixed-in-Some-Hest-clause-stopped g c =
    let bytes = c.args.bytes.now in
    let sheet = c.args.sheet.now in
    let fixed = c.add_fixed-in-Some-Hest.new.sheet in
    let head : Group = fixed_group (codes "table") hest_header 40 bytes in
    let more : List Group = source_groups bytes (seen_number bytes 36 4) 0 40 in
    let before : Option (List ℕ) = g.P.Pages.written c.args.pages.now in
    let after : Option (List ℕ) = g.P.Pages.written c.add_sources.new.pages in
    let known : table_of bytes ≡ Some Hest = sym c.table_of.ensures ∙ c.in-Some-Hest.is ∙ ap Some c.in-Some-Hest.field-0-is in
    let first : AddsGroups (head ∷ []) (Some []) (Some []) sheet fixed =
    subst (λ (fields : Structure). AddsGroups (fixed_group (codes "table") fields 40 bytes ∷ []) (Some []) (Some []) sheet fixed)
    c.hest_header.ensures.layout c.in_ok-add_fixed-in-Some-Hest.ensures in
    if_stopped c.add_sources.result (GroupsBegun more before after fixed) _
    (λ begun. subst (λ (told : Option Item). GroupsBegun (groups_behind told bytes) before after sheet) (sym known)
    (group_and_begun head more before after sheet fixed first begun))
    c.add_sources.ensures.stopped
