use Rattle.apei_script.proofs.EventChanges.{along}
use Rattle.apei_script.proofs.laws.events_take_their_changes.Goals as goal

pub returns-clause-never_falls : goal.returns-clause-never_falls
returns-clause-never_falls g c = λ first last trail happens. (along g.F.Flash.tells first last trail happens).never_falls

pub returns-clause-exact : goal.returns-clause-exact
returns-clause-exact g c = λ told first last trail happens. (along g.F.Flash.tells first last trail happens).exact told
