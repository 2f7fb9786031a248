use Rattle.std.proofs.Common.{inr}
use Rattle.erst_port.proofs.Dues.{follows, tears}
use Rattle.erst_port.proofs.PartLemmas.{held_whole, held_next, tears_part}
use Rattle.erst_port.proofs.mirror_laws.medium_follows.Goals as goal

pub returns-clause-made : goal.returns-clause-made
returns-clause-made c = follows

pub returns-clause-torn : goal.returns-clause-torn
returns-clause-torn c = tears

pub returns-clause-whole : goal.returns-clause-whole
returns-clause-whole c = held_whole

pub returns-clause-next : goal.returns-clause-next
returns-clause-next c sector told made kind place whole bytes due inside are = held_next sector told made.changes kind place whole due made.bytes bytes inside are

pub returns-clause-torn_part : goal.returns-clause-torn_part
returns-clause-torn_part c sector told made kind place whole n left due inside same = inr (tears_part sector told made.changes kind place whole due made.bytes n left inside same)
