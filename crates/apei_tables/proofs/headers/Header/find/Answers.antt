use Rattle.std.proofs.Common.{◌≡◌, ◌%◌, ◌∙◌, nat_eq, true, take, sum, arith}
use Rattle.std.specs.List.{starts_with}
use Rattle.std.proofs.lemmas.Bool.Decides.{nat_tests}
use Rattle.apei_tables.proofs.Finding.{finds, begins}
use Rattle.apei_tables.proofs.headers.Header.find.Goals as goal

pub returns-clause-found : goal.returns-clause-found
returns-clause-found c =
    let starts : starts_with nat_eq c.args.bytes.now c.args.signature ≡ true = grind (arith, nat_tests) in
    let wanted : c.read-header.result.signature ≡ c.args.signature = c.read-header.ensures.signature ∙ begins c.args.bytes.now c.args.signature c.begins_with.ensures.size starts in
    let total : sum (take c.read-header.result.length c.args.bytes.now) % 256 ≡ 0 = omega arith in
    finds c.args.signature c.args.fixed c.args.bytes.now c.read-header.result c.requires (omega arith) c.read-header.ensures.spelled c.read-header.ensures.fits
    wanted c.read-header.ensures.length (omega arith) (omega arith) total
