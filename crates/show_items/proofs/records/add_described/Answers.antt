use Rattle.std.proofs.Common.{List, [], ◌∷◌, ◌∙◌, ℕ, codes, Some, ap}
use Rattle.std.proofs.lemmas.Result.{on_ok_weaker}
use Rattle.base_model.specs.Bytes.{part}
use Rattle.field_lines.specs.Code.{structure_of}
use Rattle.field_lines.specs.Layouts.{Structure}
use Rattle.show_items.specs.Groups.{Group, fields_group, numbered}
use Rattle.show_items.specs.Records.{section_group}
use Rattle.field_lines.specs.Records.{section_descriptor}
use Rattle.show_items.proofs.ItemLemmas.{same_groups}
use Rattle.show_items.proofs.SheetLemmas.{groups_then}
use Rattle.show_items.proofs.records.add_described.Goals as goal

pub returns : goal.returns
returns c =
    let section = c.args.section.now in
    let descriptor = section.descriptor.now in
    let head : ℕ → Structure → Group = λ index structure. fields_group (numbered (codes "descriptor") index section.at) structure descriptor in
    let tail : ℕ → List ℕ → Group = λ index guid. section_group index guid section.body_at c.args.body.now in
    let index = c.args.index in
    let kind = part descriptor 16 16 in
    let sheet = c.args.sheet.now in
    let added = c.add_group.new.self in
    let new = c.add_section.new.sheet in
    let first = same_groups _ (head index section_descriptor ∷ []) (Some []) (Some []) sheet added
    (ap (λ (i : ℕ). head i (structure_of c.section_descriptor.result) ∷ []) c.from.ensures
    ∙ ap (λ (structure : Structure). head index structure ∷ []) c.section_descriptor.ensures.layout)
    c.in_ok-add_group.ensures in
    on_ok_weaker c.add_section.result
    (λ adds. groups_then (head index section_descriptor ∷ []) (tail index kind ∷ []) (Some []) (Some []) (Some []) sheet added new first
    (same_groups _ (tail index kind ∷ []) (Some []) (Some []) added new
    (ap (λ (i : ℕ). tail i c.guid_at-kind.result ∷ []) c.from-2.ensures
    ∙ ap (λ (guid : List ℕ). tail index guid ∷ []) c.guid_at-kind.ensures) adds))
    c.add_section.ensures
