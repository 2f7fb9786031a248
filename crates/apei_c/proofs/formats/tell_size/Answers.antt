use Rattle.std.proofs.Common.{refl, inl}
use Rattle.apei_c.proofs.formats.tell_size.Goals as goal

pub returns : goal.returns
returns c = inl (refl, (c.in-Some.geometry, c.in-Some.ensures.some, c.medium_size.ensures))
