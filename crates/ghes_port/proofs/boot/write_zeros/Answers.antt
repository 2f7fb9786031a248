use Rattle.std.proofs.Common.{◌∙◌, ℕ, List, ap, sym}
use Rattle.base_model.specs.Bytes.{put_at}
use Rattle.apei_tables.specs.declared.registers.Place.TheVariants.{Memory}
use Rattle.ghes_port.specs.declared.accesses.Access.TheVariants.{Write}
use Rattle.ghes_port.proofs.BootLawLemmas.{length-zeros, blank}
use Rattle.ghes_port.proofs.boot.write_zeros.Goals as goal

pub returns : goal.returns
returns c =
    (ap (λ (n : ℕ). Write (Memory c.args.at) n) (sym (length-zeros c.args.n)), c.put_part.ensures ∙ ap (λ (xs : List ℕ). put_at c.args.out.now 0 xs) (blank c.args.n c.requires.few))
