use Rattle.std.proofs.Common.{refl, inl}
use Rattle.apei_c.proofs.saving.loaded.Goals as goal

pub returns-in-Ok-clause-refused : goal.returns-in-Ok-clause-refused
returns-in-Ok-clause-refused c = inl (refl, (c.in-Ok.port, (c.in-Ok.ensures.loaded, c.in-Ok.ensures.equivalent)))
