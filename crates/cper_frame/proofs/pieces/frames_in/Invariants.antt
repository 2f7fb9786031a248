use Rattle.std.proofs.Common.{take}
use Rattle.std.specs.List.{flat_map}
use Rattle.cper_frame.specs.Pieces.{contents}
use Rattle.cper_frame.proofs.Cuts.{StreamSoFar}
use Rattle.cper_frame.proofs.pieces.frames_in.Given as goal

abbrev pub invariant-loop-piece : goal.invariant-loop-piece
invariant-loop-piece l = StreamSoFar l.limit l.reader (flat_map (λ v. v.items) (take l.piece-index l.pieces)) (contents l.records.items)
