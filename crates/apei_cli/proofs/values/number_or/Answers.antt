use Rattle.std.proofs.lemmas.Result.{err_from_is_err_and}
use Rattle.clap.specs.Words.{found_of, rows_of}
use Rattle.apei_cli.specs.Plan.{given}
use Rattle.apei_cli.proofs.GivenLemmas.{none_or}
use Rattle.apei_cli.proofs.values.number_or.Goals as goal

pub returns-in_err-number_of : goal.returns-in_err-number_of
returns-in_err-number_of c =
    let p = err_from_is_err_and c.from_residual.result c.from_residual.ensures.1 in
    rw (p.1, p.2) (c.in_err-number_of.ensures.0, none_or c.args.default c.args.most (given c.args.setting (rows_of (found_of c.args.matches.now))) c.in_err-number_of.ensures.1)
