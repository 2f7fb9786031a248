use Rattle.smbios.proofs.StructureLemmas.{ends_at, no_zeros}
use Rattle.smbios.proofs.structures.strings_len.Goals as goal

pub returns-in-Some : goal.returns-in-Some
returns-in-Some c = ends_at c.args.bytes.now c.in-Some.at c.in-Some.ensures

pub returns-in-None : goal.returns-in-None
returns-in-None c = no_zeros c.args.bytes.now c.in-None.ensures
