use Rattle.std.proofs.Common.{◌∙◌, ℕ, ◌<◌, ◌^◌, Result, IfOk, subst}
use Rattle.apei_space.specs.declared.faults.SpaceFault.{SpaceFault}
use Rattle.apei_tables.specs.Access.{bits}
use Rattle.apei_space.specs.RamState.{located}
use Rattle.ghes_ack.specs.Maps.{ack_bytes}
use Rattle.ghes_ack.proofs.MemoryLemmas.{change_stored, number_small}
use Rattle.ghes_ack.proofs.maps.HandoverMap.change_ack.Goals as goal

pub returns-clause-memory : goal.returns-clause-memory
returns-clause-memory c =
    c.change.ensures.memory ∙ change_stored (located c.args.ram.now.windows c.args.self.now.ack.place (ack_bytes c.args.self.now)) c.args.ram.now (ack_bytes c.args.self.now) c.args.keep c.args.set

pub returns-clause-small : goal.returns-clause-small
returns-clause-small c =
    number_small (located c.args.ram.now.windows c.args.self.now.ack.place (ack_bytes c.args.self.now)) c.args.ram.now.bytes (ack_bytes c.args.self.now) (bits c.args.self.now.ack.access)
    (subst (λ (r : Result ℕ SpaceFault). IfOk r (λ (value : ℕ). value < 2 ^ bits c.args.self.now.ack.access)) c.change.ensures.value c.change.ensures.small)
