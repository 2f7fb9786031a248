use Rattle.apei_script.proofs.reply.put_block.Goals as goal

pub returns : goal.returns
returns c = rw (c.from.ensures, c.get_u32.ensures) at c.put_bytes.ensures
