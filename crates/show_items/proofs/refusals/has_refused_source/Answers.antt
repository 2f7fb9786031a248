use Rattle.std.proofs.Common.{◌≡◌, ◌∙◌, ℕ, suc, ◌+◌, ◌-◌, ◌<◌, true, false, codes, Option, is_some, sym, ap, arith}
use Rattle.linux_checks.specs.declared.reasons.Refusal.{Refusal}
use Rattle.linux_checks.specs.Hest.{source_refusal}
use Rattle.show_findings.specs.Places.{seen_number}
use Rattle.show_items.specs.Groups.{Head, numbered}
use Rattle.show_items.specs.Refusals.{has_any, refused_sources}
use Rattle.show_items.proofs.RefusalLemmas.{no_refused_source, none_refused, refused_source_then, some_refused}
use Rattle.show_items.proofs.refusals.has_refused_source.Goals as goal

pub returns-in_default : goal.returns-in_default
returns-in_default c =
    let bytes = c.args.bytes.now in
    let index : ℕ = c.loop-index.index in
    ap has_any (no_refused_source bytes (seen_number bytes 36 4 - index) index c.loop-index.at c.in_default.ensures.source ∙ c.loop-index.invariant)

pub returns-then-is_some : goal.returns-then-is_some
returns-then-is_some c =
    let bytes = c.args.bytes.now in
    let index : ℕ = c.loop-index.index in
    let left : ℕ = seen_number bytes 36 4 - index in
    let more : ℕ = seen_number bytes 36 4 - (index + 1) in
    let source = c.in-Some.source in
    let counted : index < seen_number bytes 36 4 = omega arith in
    let one : left ≡ suc more = omega (arith, counted) in
    let next : index + 1 ≡ suc index = omega arith in
    let whole = refused_source_then bytes left more index (index + 1) c.loop-index.at source.kind source.bytes.now source.next one next c.in-Some.ensures.source in
    let head : Head = numbered (codes "refused source") index c.loop-index.at in
    let some : is_some (source_refusal source.kind source.bytes.now) ≡ true =
    ap (λ (refused : Option Refusal). is_some refused) (sym c.source_refusal.ensures) ∙ sym c.is_some.ensures ∙ c.if-is_some.true in
    sym (some_refused head (source_refusal source.kind source.bytes.now) (refused_sources bytes more (index + 1) source.next) some)
    ∙ ap has_any (whole ∙ c.loop-index.invariant)

pub loop-index-preserved : goal.loop-index-preserved
loop-index-preserved c =
    let bytes = c.args.bytes.now in
    let index : ℕ = c.loop-index.index in
    let left : ℕ = seen_number bytes 36 4 - index in
    let more : ℕ = seen_number bytes 36 4 - (index + 1) in
    let source = c.in-Some.source in
    let counted : index < seen_number bytes 36 4 = omega arith in
    let one : left ≡ suc more = omega (arith, counted) in
    let next : index + 1 ≡ suc index = omega arith in
    let whole = refused_source_then bytes left more index (index + 1) c.loop-index.at source.kind source.bytes.now source.next one next c.in-Some.ensures.source in
    let head : Head = numbered (codes "refused source") index c.loop-index.at in
    let none : is_some (source_refusal source.kind source.bytes.now) ≡ false =
    ap (λ (refused : Option Refusal). is_some refused) (sym c.source_refusal.ensures) ∙ sym c.is_some.ensures ∙ c.if-is_some.false in
    none_refused head (source_refusal source.kind source.bytes.now) (refused_sources bytes more (index + 1) source.next) none ∙ whole ∙ c.loop-index.invariant

pub returns : goal.returns
returns c =
    let bytes = c.args.bytes.now in
    let index : ℕ = c.loop-index.index in
    let none : 0 ≡ seen_number bytes 36 4 - index = omega (arith, c.loop-index-test.false) in
    ap (λ (left : ℕ). has_any (refused_sources bytes left index c.loop-index.at)) none ∙ ap has_any c.loop-index.invariant
