use Rattle.apei_cli.proofs.values.job_text.Goals as goal

pub returns : goal.returns
returns c = c.text.ensures
