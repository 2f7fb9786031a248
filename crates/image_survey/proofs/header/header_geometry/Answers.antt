use Rattle.std.proofs.Common.{◌∙◌, sym}
use Rattle.flash_model.specs.declared.geometry.Geometry.{Geometry}
use Rattle.image_survey.proofs.HeaderLemmas.{HasNumbers, has_numbers, SameNumbers, same_header, within_limits}
use Rattle.image_survey.proofs.header.header_geometry.Goals as goal

pub returns-in_default : goal.returns-in_default
returns-in_default c = λ geometry has.
    let numbers : HasNumbers geometry c.args.medium.now = has_numbers geometry c.args.medium.now has.header in
    let limits = within_limits geometry _ _ _
    (c.from-sector.ensures ∙ c.get_u32.ensures ∙ numbers.sector)
    (c.from-per_slot.ensures ∙ c.get_u32-2.ensures ∙ numbers.per_slot)
    (c.from-slots.ensures ∙ c.get_u32-3.ensures ∙ numbers.slots) in
    let taken = c.in_default.ensures.within.1 limits in
    cc

pub returns-then-not-begins_with : goal.returns-then-not-begins_with
returns-then-not-begins_with c = λ geometry has.
    let numbers : HasNumbers geometry c.args.medium.now = has_numbers geometry c.args.medium.now has.header in
    let made : Geometry = c.in-Ok.geometry in
    let same : SameNumbers geometry made = record {
      sector = sym numbers.sector ∙ sym c.get_u32.ensures ∙ sym c.from-sector.ensures ∙ sym c.in-Ok.ensures.sector;
      per_slot = sym numbers.per_slot ∙ sym c.get_u32-2.ensures ∙ sym c.from-per_slot.ensures ∙ sym c.in-Ok.ensures.per_slot;
      slots = sym numbers.slots ∙ sym c.get_u32-3.ensures ∙ sym c.from-slots.ensures ∙ sym c.in-Ok.ensures.slots;
    } in
    let begins = c.begins_with.ensures.1 (has.header ∙ same_header geometry made same ∙ sym c.header_of.ensures) in
    let fails = c.if-not-begins_with.true in
    cc
