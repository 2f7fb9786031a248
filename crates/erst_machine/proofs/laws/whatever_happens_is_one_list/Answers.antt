use Rattle.std.proofs.Common.{refl}
use Rattle.erst_machine.proofs.CrashTrail.{happens_then, reached_happens}
use Rattle.erst_machine.proofs.laws.whatever_happens_is_one_list.Goals as goal

pub returns-clause-accesses : goal.returns-clause-accesses
returns-clause-accesses g c = reached_happens g.F.Flash.tells

pub returns-clause-one : goal.returns-clause-one
returns-clause-one g c = λ first last event happens. (happens, refl)

pub returns-clause-more : goal.returns-clause-more
returns-clause-more g c = happens_then g.F.Flash.tells
