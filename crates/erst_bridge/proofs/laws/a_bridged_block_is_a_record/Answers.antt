use Rattle.erst_bridge.proofs.RecordLemmas.{whole, length-bridged, name, body_is}
use Rattle.erst_bridge.proofs.laws.a_bridged_block_is_a_record.Goals as goal

pub returns-clause-whole : goal.returns-clause-whole
returns-clause-whole c = whole

pub returns-clause-size : goal.returns-clause-size
returns-clause-size c = length-bridged

pub returns-clause-name : goal.returns-clause-name
returns-clause-name c = name

pub returns-clause-body : goal.returns-clause-body
returns-clause-body c = body_is
