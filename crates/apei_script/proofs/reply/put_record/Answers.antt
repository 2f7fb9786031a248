use Rattle.apei_script.proofs.reply.put_record.Goals as goal

pub returns : goal.returns
returns c = rw c.get_u64.ensures at c.put_bytes.ensures
