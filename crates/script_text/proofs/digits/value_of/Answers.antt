use Rattle.std.proofs.Common.{sym}
use Rattle.script_text.proofs.HexText.{value_read, value_taken, value_small}
use Rattle.script_text.proofs.digits.value_of.Goals as goal

pub returns-in-Ok-clause-value : goal.returns-in-Ok-clause-value
returns-in-Ok-clause-value c = value_read c.args.digit c.in-Ok.bytes (sym c.in-Ok.ensures)

pub returns-in-Ok-clause-small : goal.returns-in-Ok-clause-small
returns-in-Ok-clause-small c = value_small c.args.digit _ (value_read c.args.digit c.in-Ok.bytes (sym c.in-Ok.ensures))

pub returns-in-Err-clause-value : goal.returns-in-Err-clause-value
returns-in-Err-clause-value c = absurd (value_taken c.args.digit _ c.requires (sym c.in-Err.ensures))
