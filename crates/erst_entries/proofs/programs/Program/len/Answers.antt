use Rattle.std.proofs.Common.{◌≡◌, length, arith}
use Rattle.erst_entries.specs.Programs.{entries_of}
use Rattle.erst_entries.proofs.Listing.{length-entries_of}
use Rattle.erst_entries.proofs.programs.Program.len.Goals as goal

pub returns-clause-bound : goal.returns-clause-bound
returns-clause-bound c =
    let counted : length (entries_of c.self.inside.action c.self.inside.span.now) ≡ c.self.inside.len = c.self.invariant in
    omega (arith, counted, length-entries_of c.self.inside.action c.self.inside.span.now, c.self.told)
