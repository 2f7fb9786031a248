use Rattle.record_store.specs.Finish.{changes_left}
use Rattle.record_store.proofs.Words.{IsOnWay}
use Rattle.record_store.proofs.store.Store.finish.Given as goal

abbrev pub invariant-loop : goal.invariant-loop
invariant-loop g l = IsOnWay g.F.Flash.tells l.initial.self l.self

abbrev pub decreases-loop : goal.decreases-loop
decreases-loop g l = changes_left l.self.layout l.self.pending
