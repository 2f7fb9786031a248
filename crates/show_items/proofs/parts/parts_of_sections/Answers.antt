use Rattle.std.proofs.Common.{◌≡◌, ℕ, suc, ◌+◌, ◌*◌, ◌-◌, ◌++◌, List, [], length, ap, subst, arith}
use Rattle.base_model.proofs.BytesLemmas.{length-part}
use Rattle.show_findings.specs.Places.{seen_number}
use Rattle.show_items.specs.Parts.{ArePartsOf}
use Rattle.show_items.specs.Records.{ArePartsFrom}
use Rattle.show_items.specs.declared.parts.Part.{Part}
use Rattle.show_items.proofs.PartLemmas.{found_all, found_then, no_section_left, none_counted, of_section, one_section_more}
use Rattle.show_items.proofs.parts.parts_of_sections.Goals as goal

pub returns-in_default : goal.returns-in_default
returns-in_default c =
    let bytes = c.args.bytes.now in
    let table = c.args.table.now in
    let index = c.loop-index.index in
    let count : ℕ = seen_number bytes 10 2 in
    found_all c.loop-index.parts.items (λ (all : List Part). ArePartsFrom table bytes count 0 all)
    (c.loop-index.invariant [] (no_section_left table bytes (count - index) index c.in_default.ensures.section))

pub guid_at-kind-requires : goal.guid_at-kind-requires
guid_at-kind-requires c =
    let bytes = c.args.bytes.now in
    let same = ap (λ (descriptor : List ℕ). length descriptor) c.in-Some.ensures.section.1.head in
    omega (arith, same, length-part bytes (128 + 72 * c.loop-index.index) 72 c.in-Some.ensures.section.0.within)

pub loop-index-preserved : goal.loop-index-preserved
loop-index-preserved c more rest =
    let bytes = c.args.bytes.now in
    let table = c.args.table.now in
    let index = c.loop-index.index in
    let section = c.in-Some.section in
    let added = c.in_ok-add_part_of.ensures in
    let count : ℕ = seen_number bytes 10 2 in
    let of = subst (λ (it : ℕ). ArePartsOf c.guid_at-kind.result table section.body.now it section.body_at added.0) c.from.ensures added.1 in
    let one : count - index ≡ suc (count - (index + 1)) = omega (arith, c.loop-index-test.true, c.seen_u16-index-end.ensures) in
    found_then c.loop-index.parts.items added.0 more c.add_part_of.new.parts.items (λ (all : List Part). ArePartsFrom table bytes count 0 all) added.2
    (c.loop-index.invariant (added.0 ++ more)
    (one_section_more table bytes (count - index) (count - (index + 1)) index added.0 more one c.in-Some.ensures.section.0
    (of_section table bytes c.guid_at-kind.result index section.at section.descriptor.now section.body_at section.body.now added.0
    c.in-Some.ensures.section.1 c.guid_at-kind.ensures of) rest))

pub returns : goal.returns
returns c =
    let bytes = c.args.bytes.now in
    let table = c.args.table.now in
    let index = c.loop-index.index in
    let count : ℕ = seen_number bytes 10 2 in
    let none : count - index ≡ 0 = omega (arith, c.loop-index-test.false, c.seen_u16-index-end.ensures) in
    found_all c.loop-index.parts.items (λ (all : List Part). ArePartsFrom table bytes count 0 all)
    (c.loop-index.invariant [] (none_counted table bytes (count - index) index none))
