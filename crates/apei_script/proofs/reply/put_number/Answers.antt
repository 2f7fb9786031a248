use Rattle.apei_script.proofs.Made.{made_number}
use Rattle.apei_script.proofs.reply.put_number.Goals as goal

pub returns : goal.returns
returns c = made_number _ _ _ _ c.requires c.begin.ensures c.add_number.ensures.text c.add_number.ensures.short
