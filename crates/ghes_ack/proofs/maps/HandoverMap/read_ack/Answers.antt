use Rattle.std.proofs.Common.{◌∙◌, ℕ, Result, ap}
use Rattle.std.specs.Result.{result_unwrap_or}
use Rattle.apei_space.specs.declared.faults.SpaceFault.{SpaceFault}
use Rattle.apei_space.specs.RamState.{located}
use Rattle.ghes_ack.specs.Maps.{ack_bytes}
use Rattle.ghes_ack.proofs.MemoryLemmas.{number_read}
use Rattle.ghes_ack.proofs.maps.HandoverMap.read_ack.Goals as goal

pub returns-clause-value : goal.returns-clause-value
returns-clause-value c =
    c.unwrap_or.ensures
    ∙ ap (λ (r : Result ℕ SpaceFault). result_unwrap_or r 0) c.look.ensures.value
    ∙ number_read (located c.args.ram.now.windows c.args.self.now.ack.place (ack_bytes c.args.self.now)) c.args.ram.now.bytes (ack_bytes c.args.self.now)
