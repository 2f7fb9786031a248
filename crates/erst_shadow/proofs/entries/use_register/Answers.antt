use Rattle.erst_shadow.proofs.entries.use_register.Goals as goal

pub returns : goal.returns
returns c = λ code is. let made = c.entry_of.ensures code is in cc
