use Rattle.std.proofs.Common.{◌≡◌, ℕ, List, [], ◌∷◌, ◌++◌, Option, Some, codes, subst, rules}
use Rattle.std.proofs.lemmas.Result.{on_ok_weaker}
use Rattle.field_lines.specs.Layouts.{Structure}
use Rattle.item_parts.specs.declared.items.Item.{Item}
use Rattle.show_items.specs.Groups.{Group}
use Rattle.show_items.specs.Refusals.{refused_groups}
use Rattle.show_items.specs.Sheets.{AddsGroups, GroupsBegun}
use Rattle.show_items.specs.Tables.{fixed_group, groups_behind, header_group, table_groups, table_of}
use Rattle.show_items.specs.declared.sheet.Form.TheVariants.{Brief}
use Rattle.show_items.proofs.BeginningLemmas.{groups_begun_more, groups_begun_then, if_stopped, stopped_so}
use Rattle.show_items.proofs.SheetLemmas.{brief_adds_nothing, groups_then}
use Rattle.show_items.proofs.TableLemmas.{group_and_begun, group_and_more}
use Rattle.show_items.proofs.tables.add_groups.Goals as goal

pub returns-then-eq-clause-shown : goal.returns-then-eq-clause-shown
returns-then-eq-clause-shown g c =
    let brief : c.args.sheet.now.manner.form ≡ Brief = search rules in
    brief_adds_nothing (table_groups c.args.bytes.now) (g.P.Pages.written c.args.pages.now) c.args.sheet.now brief

pub returns-clause-shown : goal.returns-clause-shown
returns-clause-shown g c =
    let bytes = c.args.bytes.now in
    let behind : List Group = groups_behind (table_of bytes) bytes in
    let refused : List Group = refused_groups (table_of bytes) bytes in
    let before : Option (List ℕ) = g.P.Pages.written c.args.pages.now in
    let middle : Option (List ℕ) = g.P.Pages.written c.add_behind.new.pages in
    let after : Option (List ℕ) = g.P.Pages.written c.add_refusals.new.pages in
    let headed = c.add_fixed.new.sheet in
    let listed = c.add_behind.new.sheet in
    let new = c.add_refusals.new.sheet in
    let header : AddsGroups (header_group bytes ∷ []) (Some []) (Some []) c.args.sheet.now headed =
    subst (λ (fields : Structure). AddsGroups (fixed_group (codes "header") fields 36 bytes ∷ []) (Some []) (Some []) c.args.sheet.now headed)
    c.table_header.ensures.layout c.in_ok-add_fixed.ensures in
    let told : AddsGroups (refused_groups c.table_of.result bytes) middle after listed new → AddsGroups refused middle after listed new =
    λ adds. subst (λ (table : Option Item). AddsGroups (refused_groups table bytes) middle after listed new) c.table_of.ensures adds in
    on_ok_weaker c.add_refusals.result
    (λ adds. group_and_more (header_group bytes) (behind ++ refused) before after c.args.sheet.now headed new header
    (groups_then behind refused before middle after headed listed new c.in_ok-add_behind.ensures.shown (told adds)))
    c.add_refusals.ensures.shown

pub returns-in_err-add_behind-clause-stopped : goal.returns-in_err-add_behind-clause-stopped
returns-in_err-add_behind-clause-stopped g c =
    let bytes = c.args.bytes.now in
    let behind : List Group = groups_behind (table_of bytes) bytes in
    let refused : List Group = refused_groups (table_of bytes) bytes in
    let before : Option (List ℕ) = g.P.Pages.written c.args.pages.now in
    let after : Option (List ℕ) = g.P.Pages.written c.add_behind.new.pages in
    let headed = c.add_fixed.new.sheet in
    let header : AddsGroups (header_group bytes ∷ []) (Some []) (Some []) c.args.sheet.now headed =
    subst (λ (fields : Structure). AddsGroups (fixed_group (codes "header") fields 36 bytes ∷ []) (Some []) (Some []) c.args.sheet.now headed)
    c.table_header.ensures.layout c.in_ok-add_fixed.ensures in
    stopped_so c.from_residual-in_err-add_behind.result c.in_err-add_behind.field-0.0 (GroupsBegun behind before after headed) _
    c.from_residual-in_err-add_behind.ensures.1
    (λ begun. group_and_begun (header_group bytes) (behind ++ refused) before after c.args.sheet.now headed header
    (groups_begun_more behind refused before after headed begun))
    c.in_err-add_behind.ensures.stopped

pub returns-clause-stopped : goal.returns-clause-stopped
returns-clause-stopped g c =
    let bytes = c.args.bytes.now in
    let behind : List Group = groups_behind (table_of bytes) bytes in
    let refused : List Group = refused_groups (table_of bytes) bytes in
    let before : Option (List ℕ) = g.P.Pages.written c.args.pages.now in
    let middle : Option (List ℕ) = g.P.Pages.written c.add_behind.new.pages in
    let after : Option (List ℕ) = g.P.Pages.written c.add_refusals.new.pages in
    let headed = c.add_fixed.new.sheet in
    let listed = c.add_behind.new.sheet in
    let header : AddsGroups (header_group bytes ∷ []) (Some []) (Some []) c.args.sheet.now headed =
    subst (λ (fields : Structure). AddsGroups (fixed_group (codes "header") fields 36 bytes ∷ []) (Some []) (Some []) c.args.sheet.now headed)
    c.table_header.ensures.layout c.in_ok-add_fixed.ensures in
    let told : GroupsBegun (refused_groups c.table_of.result bytes) middle after listed → GroupsBegun refused middle after listed =
    λ begun. subst (λ (table : Option Item). GroupsBegun (refused_groups table bytes) middle after listed) c.table_of.ensures begun in
    if_stopped c.add_refusals.result (GroupsBegun (refused_groups c.table_of.result bytes) middle after listed) _
    (λ begun. group_and_begun (header_group bytes) (behind ++ refused) before after c.args.sheet.now headed header
    (groups_begun_then behind refused before middle after headed listed c.in_ok-add_behind.ensures.shown (told begun)))
    c.add_refusals.ensures.stopped
