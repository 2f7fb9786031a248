use Rattle.ghes_port.proofs.BootLawLemmas.{list_left}
use Rattle.ghes_port.proofs.laws.a_boot_region_keeps_its_blocks.Goals as goal

pub returns : goal.returns
returns c = list_left
