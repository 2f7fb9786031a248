use Rattle.std.proofs.Common.{◌≡◌, ◌∙◌, List, [], ◌∷◌, ℕ, length, ap, replicate, lit≤}
use Rattle.base_model.specs.Bytes.{joined, spelled}
use Rattle.apei_bytes.proofs.Puts.{◌▸◌, no_field}
use Rattle.flash_model.specs.Layouts.{layout_of}
use Rattle.image_survey.proofs.HeaderLemmas.{put_at-whole}
use Rattle.erst_device.specs.Registers.{seen}
use Rattle.erst_port.specs.Saved.{signature, saved_head}
use Rattle.erst_port.proofs.SavedLemmas.{length-saved_head}
use Rattle.erst_port.proofs.saving.saved_head.Goals as goal

-- the fields as they were written
abbrev fields_of : (sector per_slot slots operation status registers range value offset id cursor : ℕ) → List (List ℕ)
fields_of sector per_slot slots operation status registers range value offset id cursor =
    spelled 8 signature ∷ spelled 4 1 ∷ spelled 4 sector ∷ spelled 4 per_slot ∷ spelled 4 slots ∷ spelled 4 operation ∷ spelled 4 status
    ∷ spelled 8 registers ∷ spelled 8 range ∷ spelled 8 value ∷ spelled 8 offset ∷ spelled 8 id ∷ spelled 8 cursor ∷ []

pub returns-clause-form : goal.returns-clause-form
returns-clause-form c = λ store.
    let fields = no_field (replicate 80 0) 0 (lit≤ tt) ▸ c.write_u64-version.ensures.wrote ▸ c.write_u32-sector.ensures.wrote ▸ c.write_u32-per_slot.ensures.wrote
    ▸ c.write_u32-slots.ensures.wrote ▸ c.write_u32-operation.ensures.wrote ▸ c.write_u32-status.ensures.wrote ▸ c.write_u32-base.ensures.wrote
    ▸ c.write_u64-range.ensures.wrote ▸ c.write_u64-value.ensures.wrote ▸ c.write_u64-offset.ensures.wrote ▸ c.write_u64-id.ensures.wrote
    ▸ c.write_u64-cursor.ensures.wrote ▸ c.write_u64.ensures.wrote in
    let sector = c.sector.ensures in
    let per_slot = c.per_slot.ensures in
    let slots = c.slots.ensures in
    let operation = c.operation_number.ensures in
    let status = c.number.ensures in
    let registers = c.args.registers.now in
    let addresses = c.args.addresses.now in
    let head : List ℕ = saved_head (layout_of c.args.geometry.now) addresses (seen registers store) in
    let is : joined (fields_of c.sector.result c.per_slot.result c.slots.result c.operation_number.result c.number.result addresses.registers addresses.range
    registers.value registers.offset registers.id registers.cursor) ≡ head =
    unfold saved_head in cc in
    fields.wrote.put
    ∙ put_at-whole (replicate 80 0) _ (ap (λ (xs : List ℕ). length xs) is ∙ length-saved_head (layout_of c.args.geometry.now) addresses (seen registers store)) ∙ is
