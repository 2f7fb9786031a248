use Rattle.std.proofs.Common.{◌∙◌}
use Rattle.apei_cli.specs.Summaries.{summary_of}
use Rattle.apei_cli.proofs.SummaryLemmas.{written}
use Rattle.apei_cli.proofs.generate.summary.write_summary.Goals as goal

pub returns-clause-text : goal.returns-clause-text
returns-clause-text g c = λ told.
    written (summary_of c.args.commands c.args.tally.now c.args.live c.args.step) (g.O.Sink.written c.args.out.now) (g.O.Sink.written c.write_all.new.sink) c.write_all.result g.O.Sink.tells told
    c.as_slice.result.now (c.as_slice.ensures.value ∙ c.summary_text.ensures) c.write_all.ensures.all c.write_all.ensures.part
