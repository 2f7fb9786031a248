use Rattle.cper_frame.proofs.mark.stamp.Goals as goal

pub returns : goal.returns
returns c = c.write_array.ensures.wrote.put
