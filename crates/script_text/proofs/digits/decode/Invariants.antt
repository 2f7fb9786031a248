use Rattle.std.proofs.Common.{◌≡◌, ◌*◌, take, drop}
use Rattle.hex.specs.Hex.{decode_pairs}
use Rattle.hex.proofs.Pairs.{prepend}
use Rattle.script_text.proofs.digits.decode.Given as goal

abbrev pub invariant-loop-at : goal.invariant-loop-at
invariant-loop-at l =
    (decode_pairs 0 l.hex ≡ prepend (take l.at l.out) (decode_pairs (2 * l.at) (drop (2 * l.at) l.hex)))
    × (drop l.at l.out ≡ drop l.at l.fn.out)
