use Rattle.apei_notify.proofs.ToldLemmas.{all_heard}
use Rattle.ghes_hub.proofs.laws.each_has_heard.Goals as goal

pub returns : goal.returns
returns g c = all_heard g.L.Listener.hearing
