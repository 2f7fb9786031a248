use Rattle.std.proofs.Common.{length, ap, sym, ◌∙◌}
use Rattle.uuid.specs.Text.{hyphenated_text, lower}
use Rattle.uuid.specs.Parts.{swap_fields}
use Rattle.apei_bytes.proofs.GuidLemmas.{text_is, length-hyphenated_text}
use Rattle.apei_bytes.proofs.guid.Guid.text.Goals as goal

pub copy_from_slice-requires : goal.copy_from_slice-requires
copy_from_slice-requires c =
    c.told-out
    ∙ sym (ap length (c.as_bytes.ensures.value ∙ c.encode_lower-text.ensures.text) ∙ length-hyphenated_text c.hyphenated.result)

pub returns : goal.returns
returns c =
    c.copy_from_slice.ensures.after
    ∙ c.as_bytes.ensures.value
    ∙ c.encode_lower-text.ensures.text
    ∙ ap (hyphenated_text lower) (c.hyphenated.ensures ∙ c.from_bytes_le-uuid.ensures ∙ ap swap_fields c.self.view_is)
    ∙ text_is c.args.self.now
