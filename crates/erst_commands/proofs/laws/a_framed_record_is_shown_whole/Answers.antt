use Rattle.erst_commands.proofs.CopyLemmas.{framed_whole}
use Rattle.erst_commands.proofs.laws.a_framed_record_is_shown_whole.Goals as goal

pub returns : goal.returns
returns c = framed_whole
