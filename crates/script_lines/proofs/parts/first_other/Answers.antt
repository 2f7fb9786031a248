use Rattle.std.proofs.Common.{sym, ◌∙◌, subst, List, ℕ}
use Rattle.std.specs.Prelude.{All, IsTrue}
use Rattle.std.specs.Char.{is_ascii_hexdigit}
use Rattle.std.proofs.lemmas.List.{take_all}
use Rattle.std.proofs.lemmas.List.Elements.{All-more}
use Rattle.script_lines.proofs.PairLemmas.{pairs_at}
use Rattle.script_lines.proofs.parts.first_other.Goals as goal

pub returns-then-not-is_ascii_hexdigit : goal.returns-then-not-is_ascii_hexdigit
returns-then-not-is_ascii_hexdigit c = pairs_at c.args.text.now c.loop-i.i c.loop-i-test.true c.loop-i.invariant (sym c.is_ascii_hexdigit.ensures.value ∙ c.if-not-is_ascii_hexdigit.true)

pub loop-i-preserved : goal.loop-i-preserved
loop-i-preserved c =
    All-more (λ x. IsTrue (is_ascii_hexdigit x)) c.args.text.now c.loop-i.i 0 c.loop-i-test.true c.loop-i.invariant (sym c.is_ascii_hexdigit.ensures.value ∙ c.if-not-is_ascii_hexdigit.false)

pub returns : goal.returns
returns c = subst (λ (t : List ℕ). All (λ x. IsTrue (is_ascii_hexdigit x)) t) (take_all c.loop-i.i c.args.text.now c.loop-i-test.false) c.loop-i.invariant
