use Rattle.std.proofs.Common.{◌≡◌, ℕ, ◌+◌, ◌*◌, ◌/◌, length, take, drop, get_or, Ok, refl, sym, ap, subst, ◌∙◌, arith}
use Rattle.std.proofs.lemmas.List.{drop-drop, drop-set-lt}
use Rattle.hex.specs.Hex.{decode_of}
use Rattle.hex.proofs.Pairs.{decode_start, decode_step}
use Rattle.script_text.proofs.HexText.{digit_at, byte_of, all_read}
use Rattle.script_text.proofs.digits.decode.Goals as goal

pub value_of-requires : goal.value_of-requires
value_of-requires c = digit_at c.args.hex.now (2 * c.loop-at.at) c.requires.pairs (omega arith)

pub value_of-requires-in-loop-at : goal.value_of-requires-in-loop-at
value_of-requires-in-loop-at c = digit_at c.args.hex.now (2 * c.loop-at.at + 1) c.requires.pairs (omega arith)

pub loop-at-init : goal.loop-at-init
loop-at-init c = (decode_start c.args.hex.now c.args.out.now, refl)

pub loop-at-preserved : goal.loop-at-preserved
loop-at-preserved c =
    let byte = byte_of (get_or c.args.hex.now (2 * c.loop-at.at) 0) (get_or c.args.hex.now (2 * c.loop-at.at + 1) 0) c.value_of.result c.value_of-in-loop-at.result (2 * c.loop-at.at)
    c.value_of.ensures.value c.value_of-in-loop-at.ensures.value in
    let value = c.value_of.result * 16 + c.value_of-in-loop-at.result in (
      decode_step c.args.hex.now c.loop-at.out c.loop-at.at value (omega arith) (omega arith) byte c.loop-at.invariant.0,
      drop-set-lt (c.loop-at.at + 1) c.loop-at.out c.loop-at.at value (omega arith) ∙ sym (drop-drop 1 c.loop-at.at c.loop-at.out)
          ∙ ap (drop 1) c.loop-at.invariant.1 ∙ drop-drop 1 c.loop-at.at c.args.out.now,
    )

pub returns-clause-bytes : goal.returns-clause-bytes
returns-clause-bytes c =
    let half : length c.args.hex.now ≡ 2 * c.requires.pairs.even.0 = c.requires.pairs.even.1 in
    let last : c.loop-at.at ≡ length c.args.hex.now / 2 = omega arith in
    subst (λ (n : ℕ). decode_of c.args.hex.now ≡ Ok (take n c.loop-at.out)) last (all_read c.args.hex.now c.loop-at.out c.loop-at.at (omega arith) (omega arith) c.loop-at.invariant.0)

pub returns-clause-rest : goal.returns-clause-rest
returns-clause-rest c =
    let last : c.loop-at.at ≡ length c.args.hex.now / 2 = omega arith in
    subst (λ (n : ℕ). drop n c.loop-at.out ≡ drop n c.args.out.now) last c.loop-at.invariant.1
