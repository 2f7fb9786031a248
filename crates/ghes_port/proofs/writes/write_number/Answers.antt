use Rattle.std.proofs.Common.{◌∙◌, ap, sym, ℕ}
use Rattle.base_model.proofs.BytesLemmas.{length-spelled}
use Rattle.ghes_port.specs.declared.accesses.Access.TheVariants.{Write}
use Rattle.ghes_port.specs.Places.{octets}
use Rattle.ghes_port.proofs.writes.write_number.Goals as goal

pub returns : goal.returns
returns c = (ap (λ (n : ℕ). Write c.args.place n) (c.size_of.ensures ∙ sym (length-spelled (octets c.args.access) c.args.value)), c.put_number.ensures)
