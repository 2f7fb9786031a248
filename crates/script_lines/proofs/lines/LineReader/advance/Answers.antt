use Rattle.std.proofs.Common.{◌≡◌, ℕ, ◌+◌, true, false, length, Ok, sym, ap, subst, ◌∙◌, arith, length-append}
use Rattle.script_lines.specs.Lines.{PastLimits, TakesMore}
use Rattle.script_lines.proofs.ReadLemmas.{SamePlace-then, TakesMore-then, next_is_ended, ended_is_too_long, pending_is_too_long, next_is_last, scanned_before, all_scanned, nothing_left}
use Rattle.script_lines.proofs.lines.LineReader.advance.Goals as goal

pub returns-in-Some-clause-next : goal.returns-in-Some-clause-next
returns-in-Some-clause-next g c =
    let inv = c.taking.invariant in
    next_is_ended _ _ _ _ _ _ inv.more.0 c.in-Some.text inv.more.1 inv.place c.in-Some.ensures.first c.read_line.result c.read_line.ensures

pub returns-in-Some-clause-too_long : goal.returns-in-Some-clause-too_long
returns-in-Some-clause-too_long g c =
    let inv = c.taking.invariant in
    ended_is_too_long _ _ _ _ _ _ inv.more.0 c.in-Some.text inv.more.1 inv.place c.in-Some.ensures.first c.read_line.result c.read_line.ensures

pub returns-then-is_too_long-clause-too_long : goal.returns-then-is_too_long-clause-too_long
returns-then-is_too_long-clause-too_long g c =
    let inv = c.taking.invariant in
    let past : PastLimits c.taking.self.end (length c.taking.self.pending) 0 =
    subst (λ (n : ℕ). PastLimits c.taking.self.end n 0) c.taken-scanned.ensures.value (c.is_too_long.ensures.limits.0 c.if-is_too_long.true) in
    λ _. pending_is_too_long _ _ _ _ _ inv.more.0 inv.more.1 inv.place c.in_default.ensures.first c.is_too_long.ensures.within past

pub returns-then-is_at_end-clause-next : goal.returns-then-is_at_end-clause-next
returns-then-is_at_end-clause-next g c =
    let inv = c.taking.invariant in
    next_is_last _ _ _ _ _ _ inv.more.0 inv.more.1 inv.place c.in_default.ensures.first
    (λ told. inv.at_end told (sym c.is_at_end.ensures ∙ c.if-is_at_end.true)) _ c.read_last.result c.read_last.ensures.at_end c.read_last.ensures.read

pub returns-in-Ok-eq0-clause-next : goal.returns-in-Ok-eq0-clause-next
returns-in-Ok-eq0-clause-next g c =
    let inv = c.taking.invariant in
    let filled = c.in-Ok-eq0.ensures in
    let none = c.in-Ok-eq0.field-0-test in
    let more = subst (TakesMore g.I.Source.tells c.taking.self c.fill.new.self (g.I.Source.rest c.taking.script) (g.I.Source.rest c.fill.new.script)) none filled.more in
    let end = λ (told : g.I.Source.tells). filled.end told (ap Ok none) in
    next_is_last _ _ _ _ _ _ (inv.more.0 + 0) (TakesMore-then _ _ _ _ _ _ _ inv.more.0 0 inv.more.1 more) (SamePlace-then _ _ _ inv.place filled.place)
    (all_scanned _ _ _ _ _ c.in_default.ensures.first more) (nothing_left _ _ _ _ _ more end) _ c.read_last-in-Ok-eq0.result c.read_last-in-Ok-eq0.ensures.at_end c.read_last-in-Ok-eq0.ensures.read

pub taking-preserved : goal.taking-preserved
taking-preserved g c =
    let inv = c.taking.invariant in
    let filled = c.in-Ok.ensures in
    record {
      place = SamePlace-then _ _ _ inv.place filled.place;
      more = (inv.more.0 + c.in-Ok.field-0, TakesMore-then _ _ _ _ _ _ _ inv.more.0 c.in-Ok.field-0 inv.more.1 filled.more);
      at_end = λ told e. let false_end : true ≡ false = sym e ∙ filled.place.at_end ∙ sym c.is_at_end.ensures ∙ c.if-is_at_end.false in absurd (cc false_end);
      within = omega (arith, c.taken-scanned.ensures.value, ap length filled.more.pending, length-append c.taking.self.pending filled.more.bytes);
      one_line = scanned_before _ _ _ _ _ c.in-Ok.field-0 c.taken-scanned.result c.taken-scanned.ensures.value c.in_default.ensures.first filled.more;
      no_fault = filled.cause.ok ∙ inv.no_fault;
    }
