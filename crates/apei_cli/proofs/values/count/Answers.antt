use Rattle.std.proofs.lemmas.Result.{err_from_is_err_and}
use Rattle.clap.specs.Words.{found_of, rows_of}
use Rattle.apei_cli.specs.Plan.{given}
use Rattle.apei_cli.specs.declared.setting.Setting.TheVariants.{Count}
use Rattle.apei_cli.proofs.GivenLemmas.{no_count}
use Rattle.apei_cli.proofs.values.count.Goals as goal

pub returns-in_err-count : goal.returns-in_err-count
returns-in_err-count c =
    let p = err_from_is_err_and c.from_residual.result c.from_residual.ensures.1 in
    rw (p.1, p.2) (c.in_err-count.ensures.0, no_count c.args.job (given Count (rows_of (found_of c.args.matches.now))) c.in_err-count.ensures.1)
