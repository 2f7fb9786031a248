use Rattle.std.proofs.Common.{refl, arith, ◌≡◌, ◌<◌, ◌≤◌, ◌⊎◌, inl, inr}
use Rattle.script_lines.proofs.NumberLemmas.{read_more, read_stops}
use Rattle.script_lines.proofs.parts.longest_number.Goals as goal

pub returns-then-value-eq0 : goal.returns-then-value-eq0
returns-then-value-eq0 c =
    read_stops c.args.least c.args.most c.loop-i.value c.loop-i.i _ c.args.text.now c.requires (omega arith) c.loop-i-test.true refl c.loop-i.invariant
    (λ d small is some least most. let h : 0 < c.loop-i.value = some c.if-i-gt0.true in omega arith)

pub returns-in-None : goal.returns-in-None
returns-in-None c =
    read_stops c.args.least c.args.most c.loop-i.value c.loop-i.i _ c.args.text.now c.requires (omega arith) c.loop-i-test.true refl c.loop-i.invariant
    (λ d small is some least most. c.in-None.ensures d small is least most)

pub loop-i-preserved : goal.loop-i-preserved
loop-i-preserved c =
    let is = c.in-Some.ensures in
    read_more c.args.least c.args.most c.loop-i.value c.in-Some.next c.loop-i.i is.0 _ c.args.text.now (omega arith) c.loop-i-test.true refl c.loop-i.invariant
    (no_zero c.else-i-gt0.either) is.1 is.2 is.3 is.4 is.5
  where
    no_zero : (0 < c.loop-i.i) × (c.loop-i.value ≡ 0 → ⊥) ⊎ (c.loop-i.i ≤ 0) → 0 < c.loop-i.i → 0 < c.loop-i.value
    no_zero (inl both) h = let other = both.1 in omega arith
    no_zero (inr none) h = omega arith
