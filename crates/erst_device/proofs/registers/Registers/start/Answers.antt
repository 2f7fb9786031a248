use Rattle.std.proofs.Common.{Some, ap, ◌∙◌}
use Rattle.erst_device.specs.declared.registers.Operation.{Operation}
use Rattle.erst_device.specs.Starts.{NoneBegun, WritesDummy}
use Rattle.erst_device.proofs.registers.Registers.start.Goals as goal

pub returns-in_default-clause-starts : goal.returns-in_default-clause-starts
returns-in_default-clause-starts g c = NoneBegun c.in_default.is

pub returns-in-Dummy-clause-starts : goal.returns-in-Dummy-clause-starts
returns-in-Dummy-clause-starts g c = WritesDummy (c.in-Some.is ∙ ap (λ (o : Operation). Some o) c.in-Dummy.is)
