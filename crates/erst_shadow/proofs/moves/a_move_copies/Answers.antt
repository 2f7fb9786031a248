use Rattle.erst_shadow.proofs.PlainLemmas.{move_copies}
use Rattle.erst_shadow.proofs.moves.a_move_copies.Goals as goal

pub returns : goal.returns
returns c = λ run at room made.
    move_copies run.first run.move.from run.move.target run.move.count at.source at.sink at.registers room run.action run.given run.budget run.answer run.left run.last made
