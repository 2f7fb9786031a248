use Rattle.std.proofs.Common.{ℕ, ◌+◌, ◌-◌, ◌*◌, ◌/◌, get_or, sym, subst, arith, inl, inr}
use Rattle.std.proofs.Math.Nat.{div-mul-le_self}
use Rattle.std.proofs.lemmas.Bool.{cases_lt}
use Rattle.flash_model.specs.declared.spans.Span.{Span}
use Rattle.flash_model.specs.Spans.{AreErasedBut, IsErasedBut}
use Rattle.flash_model.proofs.SpanLemmas.{no_bytes, known_of_none, stays_widened, widened_none, widened_more, widened_all}
use Rattle.flash_model.proofs.spans.widen.Goals as goal

pub returns-then-sector-eq0-clause-known : goal.returns-then-sector-eq0-clause-known
returns-then-sector-eq0-clause-known c old new same known =
    subst (λ (k : ℕ). AreErasedBut c.args.spans.now k new) (sym c.if-sector-eq0.true)
    (known_of_none c.args.spans.now old new (subst (λ (k : ℕ). AreErasedBut c.args.spans.now k old) c.if-sector-eq0.true known))

pub loop-number-init : goal.loop-number-init
loop-number-init c = widened_none c.args.sector c.args.at c.args.len (c.args.at / c.args.sector) c.args.spans.now (div-mul-le_self c.args.at c.args.sector)

pub returns-then-begin-end-clause-known : goal.returns-then-begin-end-clause-known
returns-then-begin-end-clause-known c =
    widened_all c.args.sector c.args.at c.args.len c.loop-number.number c.args.spans.now c.loop-number.spans c.loop-number.invariant (inr c.if-begin-end.true)

pub loop-number-preserved : goal.loop-number-preserved
loop-number-preserved c =
    let number = c.loop-number.number in
    let place = number * c.args.sector in
    let end = c.args.at + c.args.len in
    let span = get_or c.loop-number.spans number no_bytes in
    let wider : Span = record { from = c.min.result; to = c.max.result } in
    let is = c.loop-number.invariant.behind number (omega arith) in
    widened_more c.args.sector c.args.at c.args.len number c.args.spans.now c.loop-number.spans wider c.loop-number-test.true c.loop-number.invariant
    (λ image new same but.
    let kept : IsErasedBut span c.args.sector image place = subst (λ (k : Span). IsErasedBut k c.args.sector image place) (sym is) but in
    stays_widened span wider c.args.sector place c.args.at c.args.len image new same (omega (arith, c.min.ensures)) (omega (arith, c.min.ensures, c.saturating_sub.ensures))
    (omega (arith, c.max.ensures)) (omega (arith, c.max.ensures, c.min-in-loop-number.ensures, kept.to))
    (elim (cases_lt c.args.sector (end - place)) [
      | inl beyond ↦ inr (omega (arith, c.max.ensures, c.min-in-loop-number.ensures, kept.to))
      | inr within ↦ inl (omega (arith, c.max.ensures, c.min-in-loop-number.ensures))
    ])
    kept)

pub returns-clause-known : goal.returns-clause-known
returns-clause-known c =
    widened_all c.args.sector c.args.at c.args.len c.loop-number.number c.args.spans.now c.loop-number.spans c.loop-number.invariant (inl c.loop-number-test.false)
