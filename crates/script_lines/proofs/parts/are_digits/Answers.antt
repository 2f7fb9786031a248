use Rattle.std.proofs.Common.{sym, ◌∙◌, subst, List, ℕ}
use Rattle.std.specs.Prelude.{All, IsTrue}
use Rattle.std.specs.Char.{is_ascii_hexdigit}
use Rattle.std.proofs.lemmas.Bool.{and_parts}
use Rattle.std.proofs.lemmas.List.{take_all}
use Rattle.std.proofs.lemmas.List.Elements.{All-more}
use Rattle.script_lines.proofs.parts.are_digits.Goals as goal

pub loop-byte-preserved : goal.loop-byte-preserved
loop-byte-preserved c = λ e.
    let h = and_parts c.loop-byte.all c.is_digit-all.result e in
    All-more (λ x. IsTrue (is_ascii_hexdigit x)) c.args.text.now c.loop-byte.byte-index 0 c.loop-byte-test.true (c.loop-byte.invariant h.0) (sym c.is_digit-all.ensures ∙ h.1)

pub returns : goal.returns
returns c = λ e. subst (λ (t : List ℕ). All (λ x. IsTrue (is_ascii_hexdigit x)) t) (take_all c.loop-byte.byte-index c.args.text.now c.loop-byte-test.false) (c.loop-byte.invariant e)
