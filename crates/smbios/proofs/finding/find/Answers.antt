use Rattle.std.proofs.Common.{◌∙◌, sym, arith}
use Rattle.std.proofs.lemmas.Bool.Decides.{nat_tests}
use Rattle.smbios.specs.Structures.{pair}
use Rattle.smbios.specs.Finding.{is_wanted}
use Rattle.smbios.proofs.FindingLemmas.{pass_more}
use Rattle.smbios.proofs.finding.find.Goals as goal

pub loop-found-preserved : goal.loop-found-preserved
loop-found-preserved c =
    let found = c.in-Some.found in
    let one = pair found.structure.formatted.now found.structure.strings.now in
    let before = c.loop-found.invariant in
    pass_more (is_wanted c.args.wanted) c.args.table.now before.0 c.loop-found.rest.now found.rest.now one before.1 c.in-Some.ensures.0
    c.in-Some.ensures.1 (sym c.is_wanted.ensures ∙ c.if-is_wanted.false) (grind (arith, nat_tests, c.kind.ensures, c.if-kind-eq-END_OF_TABLE.false))
