use Rattle.std.proofs.Common.{ℕ, ap, ◌∙◌}
use Rattle.erst_entries.specs.declared.entries.Entry.{Entry}
use Rattle.erst_entries.specs.Actions.{plain_entry}
use Rattle.erst_machine.proofs.EntryLemmas.{one_code}
use Rattle.erst_machine.proofs.entries.entry_of.Goals as goal

pub returns : goal.returns
returns c = λ code is.
    ap {B = Entry} (λ (a : ℕ). record { action = a; code = c.code-2.result; flags = 0; spare = 0; region = c.args.region; value = c.args.value; mask = c.args.mask }) c.code.ensures.value
    ∙ ap (λ (n : ℕ). plain_entry c.args.action n c.args.region c.args.value c.args.mask) (one_code c.code-2.result code c.args.instruction c.code-2.ensures is)
