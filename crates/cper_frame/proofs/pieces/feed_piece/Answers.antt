use Rattle.std.proofs.lemmas.List.{take_rest}
use Rattle.cper_frame.specs.Pieces.{contents}
use Rattle.cper_frame.proofs.Cuts.{piece_begins, piece_took, piece_stopped, piece_ends}
use Rattle.cper_frame.proofs.pieces.feed_piece.Goals as goal

pub loop-at-init : goal.loop-at-init
loop-at-init c = piece_begins c.args.reader.now (contents c.args.records.now.items) c.args.piece.now c.requires

pub loop-at-preserved : goal.loop-at-preserved
loop-at-preserved c =
    piece_took c.args.reader.now c.loop-at.reader c.step.new.reader (contents c.args.records.now.items) (contents c.loop-at.records.items)
    (contents c.step.new.records.items) c.args.piece.now _ c.loop-at.at c.in-Took.taken
    c.loop-at.invariant (take_rest c.args.piece.now c.loop-at.at) (rw c.in-Took.is at c.in_ok-taken.ensures)

pub returns-in-Stopped : goal.returns-in-Stopped
returns-in-Stopped c =
    piece_stopped c.args.reader.now c.loop-at.reader c.step.new.reader (contents c.args.records.now.items) (contents c.loop-at.records.items)
    (contents c.step.new.records.items) c.args.piece.now _ c.loop-at.at c.in-Stopped.error
    c.loop-at.invariant (take_rest c.args.piece.now c.loop-at.at) (rw c.in-Stopped.is at c.in_ok-taken.ensures)

pub returns : goal.returns
returns c = piece_ends c.args.reader.now c.loop-at.reader (contents c.args.records.now.items) (contents c.loop-at.records.items) c.args.piece.now c.loop-at.at c.loop-at.invariant c.loop-at-test.false
