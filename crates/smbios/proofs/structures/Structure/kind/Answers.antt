use Rattle.std.proofs.Common.{arith}
use Rattle.smbios.proofs.StructureLemmas.{none_first}
use Rattle.smbios.proofs.structures.Structure.kind.Goals as goal

pub returns-then-self-eq0 : goal.returns-then-self-eq0
returns-then-self-eq0 c = none_first c.args.self.now.formatted.now (omega arith)
