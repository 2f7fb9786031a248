use Rattle.std.proofs.Common.{◌∙◌}
use Rattle.field_lines.proofs.NumberLemmas.{padded_number}
use Rattle.field_lines.proofs.number.padded_number.Goals as goal

pub returns : goal.returns
returns c = c.get_u64.ensures ∙ padded_number c.args.bytes.now c.copy_from_slice.new.self c.requires c.copy_from_slice.ensures.after
