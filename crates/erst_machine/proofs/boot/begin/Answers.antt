use Rattle.std.proofs.Common.{subst, sym}
use Rattle.apei_space.specs.RamState.{RamState}
use Rattle.ghes_ack.specs.Maps.{HasWindows}
use Rattle.erst_machine.specs.MachineState.{own_map}
use Rattle.erst_machine.proofs.BootLemmas.{own_windows, own_bits}
use Rattle.erst_machine.proofs.boot.begin.Goals as goal

pub new-requires-2-clause-windows : goal.new-requires-2-clause-windows
new-requires-2-clause-windows c = subst (λ (r : RamState). HasWindows own_map r) (sym c.in_ok-contents.ensures.shared) own_windows

pub new-requires-2-clause-bits : goal.new-requires-2-clause-bits
new-requires-2-clause-bits c = own_bits
