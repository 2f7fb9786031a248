use Rattle.apei_script.specs.Sessions.{state_of}
use Rattle.apei_cli.proofs.GenerateLemmas.{generated}
use Rattle.apei_cli.proofs.generate.generator.generate.Goals as goal

pub returns-clause-generated : goal.returns-clause-generated
returns-clause-generated g c =
    generated g.F.Flash.tells g.O.Sink.tells (state_of c.args.player.now.session) c.args.seed c.args.count (state_of c.play_commands-tally.new.player.session) (state_of c.count.new.self.session)
    c.play_commands-tally.result c.count.result c.unwrap_or-live.result c.steps.result (g.O.Sink.written c.args.out.now) (g.O.Sink.written c.write_summary.new.out) c.write_summary.result
    c.play_commands-tally.ensures.played c.count.ensures.played c.stands.ensures.counted c.unwrap_or-live.ensures c.steps.ensures c.write_summary.ensures.text
