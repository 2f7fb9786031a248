use Rattle.std.proofs.Common.{◌+◌, [], ◌++◌, take, drop, ap, sym, subst, ◌∙◌}
use Rattle.std.specs.List.{flat_map}
use Rattle.std.proofs.lemmas.List.{take_all}
use Rattle.cper_frame.specs.Pieces.{contents}
use Rattle.cper_frame.proofs.Cuts.{StreamSoFar, stream_begins, refused_split, refused_only, ended_split, ended_only, whole_at}
use Rattle.cper_frame.proofs.pieces.frames_in.Goals as goal

pub loop-piece-init : goal.loop-piece-init
loop-piece-init c =
    subst (λ vs. StreamSoFar c.args.limit c.in_ok-reader.reader [] (contents vs)) (sym c.new-records.ensures.items) (stream_begins c.args.limit c.in_ok-reader.reader c.in_ok-reader.ensures.reader)

pub returns-in-Some-clause-split : goal.returns-in-Some-clause-split
returns-in-Some-clause-split c =
    refused_split c.args.limit c.loop-piece.reader c.feed_piece.new.reader (flat_map (λ v. v.items) (take c.loop-piece.piece-index c.args.pieces.now)) c.as_slice.result.now
    (flat_map (λ v. v.items) (drop (c.loop-piece.piece-index + 1) c.args.pieces.now)) (flat_map (λ v. v.items) c.args.pieces.now)
    (contents c.loop-piece.records.items) (contents c.feed_piece.new.records.items) c.in-Some.error
    c.loop-piece.invariant (rw c.in-Some.is at c.in_ok-feed_piece.ensures)
    (whole_at (λ v. v.items) c.args.pieces.now c.loop-piece.piece-index c.piece-item.result c.loop-piece-test.true c.piece-item.is
    ∙ ap (λ xs. (flat_map (λ v. v.items) (take c.loop-piece.piece-index c.args.pieces.now) ++ xs) ++ flat_map (λ v. v.items)
    (drop (c.loop-piece.piece-index + 1) c.args.pieces.now)) (sym c.as_slice.ensures.value))

pub returns-in-Some-clause-only : goal.returns-in-Some-clause-only
returns-in-Some-clause-only c = λ others rest error other.
    refused_only c.args.limit c.loop-piece.reader c.feed_piece.new.reader (flat_map (λ v. v.items) (take c.loop-piece.piece-index c.args.pieces.now)) c.as_slice.result.now
    (flat_map (λ v. v.items) (drop (c.loop-piece.piece-index + 1) c.args.pieces.now)) (flat_map (λ v. v.items) c.args.pieces.now)
    (contents c.loop-piece.records.items) (contents c.feed_piece.new.records.items) others c.in-Some.error error rest
    c.loop-piece.invariant (rw c.in-Some.is at c.in_ok-feed_piece.ensures)
    (whole_at (λ v. v.items) c.args.pieces.now c.loop-piece.piece-index c.piece-item.result c.loop-piece-test.true c.piece-item.is
    ∙ ap (λ xs. (flat_map (λ v. v.items) (take c.loop-piece.piece-index c.args.pieces.now) ++ xs) ++ flat_map (λ v. v.items)
    (drop (c.loop-piece.piece-index + 1) c.args.pieces.now)) (sym c.as_slice.ensures.value))
    other

pub returns-clause-split : goal.returns-clause-split
returns-clause-split c =
    ended_split c.args.limit c.loop-piece.reader (flat_map (λ v. v.items) (take c.loop-piece.piece-index c.args.pieces.now))
    (flat_map (λ v. v.items) c.args.pieces.now) (contents c.loop-piece.records.items) c.loop-piece.invariant
    (ap (flat_map (λ v. v.items)) (sym (take_all c.loop-piece.piece-index c.args.pieces.now c.loop-piece-test.false)))

pub returns-clause-only : goal.returns-clause-only
returns-clause-only c = λ others rest error other.
    ended_only c.args.limit c.loop-piece.reader (flat_map (λ v. v.items) (take c.loop-piece.piece-index c.args.pieces.now))
    (flat_map (λ v. v.items) c.args.pieces.now) (contents c.loop-piece.records.items) others error rest c.loop-piece.invariant
    (ap (flat_map (λ v. v.items)) (sym (take_all c.loop-piece.piece-index c.args.pieces.now c.loop-piece-test.false))) other
