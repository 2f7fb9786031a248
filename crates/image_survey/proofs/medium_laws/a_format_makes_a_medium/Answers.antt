use Rattle.image_survey.proofs.CutLemmas.{all_made, new_is_medium}
use Rattle.image_survey.proofs.medium_laws.a_format_makes_a_medium.Goals as goal

pub returns : goal.returns
returns c = record { made = all_made; medium = new_is_medium }
