use Rattle.std.proofs.Common.{take}
use Rattle.std.proofs.lemmas.Slice.Eq.{slice_eq-Decides}
use Rattle.std.proofs.lemmas.Bool.Decides.{Decides-eqb}
use Rattle.base_model.specs.Bytes.{part}
use Rattle.image_survey.proofs.header.begins_with.Goals as goal

pub returns : goal.returns
unfolding part
returns c = slice_eq-Decides Decides-eqb (take 48 c.args.medium.now) c.args.header.now c.eq.result c.eq.ensures
