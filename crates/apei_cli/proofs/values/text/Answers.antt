use Rattle.std.proofs.Common.{◌∙◌, ap}
use Rattle.clap.specs.Words.{first_of, found_of, rows_of}
use Rattle.apei_cli.proofs.values.text.Goals as goal

pub returns : goal.returns
returns c = c.text.ensures ∙ ap (λ id. first_of id (rows_of (found_of c.args.matches.now))) c.name.ensures
