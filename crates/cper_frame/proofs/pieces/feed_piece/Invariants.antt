use Rattle.std.proofs.Common.{◌-◌, length}
use Rattle.cper_frame.specs.Pieces.{contents}
use Rattle.cper_frame.proofs.Cuts.{PieceSoFar}
use Rattle.cper_frame.proofs.pieces.feed_piece.Given as goal

abbrev pub invariant-loop-at : goal.invariant-loop-at
invariant-loop-at l = PieceSoFar l.initial.reader l.reader (contents l.initial.records.items) (contents l.records.items) l.piece l.at

abbrev pub decreases-loop-at : goal.decreases-loop-at
decreases-loop-at l = length l.piece - l.at
