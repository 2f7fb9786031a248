use Rattle.std.proofs.Common.{ℕ, List, subst, sym}
use Rattle.erst_client.specs.Commands.{Reads}
use Rattle.erst_machine.specs.Allowed.{Allows}
use Rattle.erst_commands.proofs.EquivalentReads.{record_alike, buffer_alike}
use Rattle.erst_commands.proofs.equivalence.equivalent_machines_read_alike.Goals as goal

pub returns-clause-records : goal.returns-clause-records
returns-clause-records g c = λ told client id budget one other read also equivalent machine room first second.
    record_alike g.F.Flash.tells told client id budget one other equivalent read.out also.out read.result also.result read.after also.after read.left also.left read.last also.last
    machine room first.reads first.quiet second.reads second.quiet

pub returns-clause-buffers : goal.returns-clause-buffers
returns-clause-buffers g c = λ told client id budget one other read also equivalent same first second.
    buffer_alike g.F.Flash.tells told client id budget one other equivalent read.out read.result also.result read.after also.after read.left also.left read.last also.last
    first.reads first.quiet
    (subst (λ (out : List ℕ). Reads (Allows g.F.Flash.tells) client id out budget other also.result also.after also.left also.last) (sym same) second.reads) second.quiet
