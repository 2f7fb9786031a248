use Rattle.std.proofs.Common.{◌≡◌, ◌∙◌, List, [], ◌∷◌, ℕ, length, ap, replicate, lit≤}
use Rattle.base_model.specs.Bytes.{joined, spelled}
use Rattle.apei_bytes.proofs.Puts.{◌▸◌, no_field}
use Rattle.image_survey.specs.Headers.{signature, header_with}
use Rattle.image_survey.proofs.HeaderLemmas.{length-header_with, put_at-whole}
use Rattle.image_survey.proofs.header.header_with.Goals as goal

-- the fields as they were written
abbrev fields_of : (sector per_slot slots size checksum : ℕ) → List (List ℕ)
fields_of sector per_slot slots size checksum =
    spelled 8 signature ∷ spelled 4 1 ∷ spelled 4 64 ∷ spelled 4 sector ∷ spelled 4 per_slot ∷ spelled 4 slots ∷ spelled 4 0 ∷ spelled 8 size ∷ spelled 4 checksum ∷ spelled 4 0 ∷ []

pub returns : goal.returns
returns c =
    let fields = no_field (replicate 48 0) 0 (lit≤ tt) ▸ c.write_u64-version.ensures.wrote ▸ c.write_u32-length.ensures.wrote ▸ c.write_u32-sector.ensures.wrote
    ▸ c.write_u32-per_slot.ensures.wrote ▸ c.write_u32-slots.ensures.wrote ▸ c.write_u32-reserved.ensures.wrote ▸ c.write_u32-size.ensures.wrote
    ▸ c.write_u64-sum.ensures.wrote ▸ c.write_u32-end.ensures.wrote ▸ c.write_u32.ensures.wrote in
    let sector = c.sector.ensures in
    let per_slot = c.per_slot.ensures in
    let slots = c.slots.ensures in
    let size = c.medium_size.ensures in
    let header : List ℕ = header_with c.args.geometry.now c.args.checksum in
    let is : joined (fields_of c.sector.result c.per_slot.result c.slots.result c.medium_size.result c.args.checksum) ≡ header = unfold header_with in cc in
    fields.wrote.put ∙ put_at-whole (replicate 48 0) _ (ap (λ (xs : List ℕ). length xs) is ∙ length-header_with c.args.geometry.now c.args.checksum) ∙ is
