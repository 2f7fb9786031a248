use Rattle.image_survey.proofs.CutLemmas.{cut_format}
use Rattle.image_survey.proofs.medium_laws.a_cut_format_leaves_no_medium.Goals as goal

pub returns : goal.returns
returns c = cut_format
