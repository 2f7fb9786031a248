use Rattle.std.proofs.Common.{◌<◌, subst, sym, arith}
use Rattle.apei_bytes.specs.Writing.{Wrote}
use Rattle.apei_bytes.proofs.Puts.{spelled-one}
use Rattle.apei_bytes.proofs.write.write_u8.Goals as goal

pub returns-clause-wrote : goal.returns-clause-wrote
returns-clause-wrote c =
    let small : c.args.value < 256 = omega arith in
    subst (Wrote c.args.out.now c.write_bytes.new.out c.args.at c.write_bytes.result) (sym (spelled-one c.args.value small)) c.write_bytes.ensures.wrote
