use Rattle.apei_show.proofs.OutputLemmas.{keeps_same}
use Rattle.apei_show.proofs.output.write_some.Goals as goal

pub loop-turn-init : goal.loop-turn-init
loop-turn-init g c = keeps_same (g.W.Write.contents c.args.writer.now)
