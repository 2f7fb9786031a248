use Rattle.std.proofs.Common.{◌≡◌, ◌∙◌, ℕ, suc, ◌+◌, ◌-◌, ◌<◌, true, false, codes, Option, is_some, sym, ap, arith}
use Rattle.linux_checks.specs.declared.reasons.Refusal.{Refusal}
use Rattle.linux_checks.specs.Erst.{instruction_refusal}
use Rattle.show_findings.specs.Places.{seen_number}
use Rattle.show_items.specs.Groups.{Head, numbered}
use Rattle.show_items.specs.Refusals.{has_any, refused_entries}
use Rattle.show_items.specs.TablePlaces.{instruction_at}
use Rattle.show_items.proofs.RefusalLemmas.{entry_size, no_refused_entry, none_refused, refused_entry_and_more, some_refused}
use Rattle.show_items.proofs.refusals.has_refused_entry.Goals as goal

pub instruction_refusal-requires : goal.instruction_refusal-requires
instruction_refusal-requires c =
    omega (arith, entry_size c.args.bytes.now c.in-Some.entry.now c.loop-index.index c.in-Some.ensures.0 c.in-Some.ensures.1)

pub returns-in_default : goal.returns-in_default
returns-in_default c =
    let bytes = c.args.bytes.now in
    let index : ℕ = c.loop-index.index in
    let counted : index < seen_number bytes 44 4 = omega arith in
    ap has_any (no_refused_entry bytes (seen_number bytes 44 4 - index) index counted c.in_default.ensures ∙ c.loop-index.invariant)

pub returns-then-is_some : goal.returns-then-is_some
returns-then-is_some c =
    let bytes = c.args.bytes.now in
    let index : ℕ = c.loop-index.index in
    let left : ℕ = seen_number bytes 44 4 - index in
    let more : ℕ = seen_number bytes 44 4 - (index + 1) in
    let entry = c.in-Some.entry.now in
    let has = c.in-Some.ensures.0 in
    let counted : index < seen_number bytes 44 4 = has.counted in
    let one : left ≡ suc more = omega (arith, counted) in
    let next : index + 1 ≡ suc index = omega arith in
    let whole = refused_entry_and_more bytes left more index (index + 1) entry one next has c.in-Some.ensures.1 in
    let head : Head = numbered (codes "refused entry") index (instruction_at index) in
    let some : is_some (instruction_refusal entry) ≡ true =
    ap (λ (refused : Option Refusal). is_some refused) (sym c.instruction_refusal.ensures) ∙ sym c.is_some.ensures ∙ c.if-is_some.true in
    sym (some_refused head (instruction_refusal entry) (refused_entries bytes more (index + 1)) some) ∙ ap has_any (whole ∙ c.loop-index.invariant)

pub loop-index-preserved : goal.loop-index-preserved
loop-index-preserved c =
    let bytes = c.args.bytes.now in
    let index : ℕ = c.loop-index.index in
    let left : ℕ = seen_number bytes 44 4 - index in
    let more : ℕ = seen_number bytes 44 4 - (index + 1) in
    let entry = c.in-Some.entry.now in
    let has = c.in-Some.ensures.0 in
    let counted : index < seen_number bytes 44 4 = has.counted in
    let one : left ≡ suc more = omega (arith, counted) in
    let next : index + 1 ≡ suc index = omega arith in
    let whole = refused_entry_and_more bytes left more index (index + 1) entry one next has c.in-Some.ensures.1 in
    let head : Head = numbered (codes "refused entry") index (instruction_at index) in
    let none : is_some (instruction_refusal entry) ≡ false =
    ap (λ (refused : Option Refusal). is_some refused) (sym c.instruction_refusal.ensures) ∙ sym c.is_some.ensures ∙ c.if-is_some.false in
    none_refused head (instruction_refusal entry) (refused_entries bytes more (index + 1)) none ∙ whole ∙ c.loop-index.invariant

pub returns : goal.returns
returns c =
    let bytes = c.args.bytes.now in
    let index : ℕ = c.loop-index.index in
    let none : 0 ≡ seen_number bytes 44 4 - index = omega (arith, c.loop-index-test.false) in
    ap (λ (left : ℕ). has_any (refused_entries bytes left index)) none ∙ ap has_any c.loop-index.invariant
