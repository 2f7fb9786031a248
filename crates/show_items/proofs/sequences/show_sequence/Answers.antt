use Rattle.std.proofs.Common.{arith, rules, ℕ, List, Option, [], ◌≡◌, ◌∙◌, ◌<◌, length, drop, inl, inr, subst, eqb-true}
use Rattle.show_items.specs.Items.{counted}
use Rattle.show_items.specs.Judged.{StopsAll}
use Rattle.show_items.specs.Sequences.{AreFirst, behind_first, first_len}
use Rattle.show_items.proofs.BeginningLemmas.{stopped_so}
use Rattle.show_items.proofs.SequenceLemmas.{all_shown, first_begun, next_begun, none_left}
use Rattle.show_items.proofs.SheetLemmas.{no_items}
use Rattle.show_items.proofs.sequences.show_sequence.Goals as goal

pub loop-rest-preserved : goal.loop-rest-preserved
loop-rest-preserved g c =
    let rest = c.loop-rest.rest.now in
    let at : ℕ = c.loop-rest.at in
    let some : 0 < length rest = omega (arith, c.in_ok-len.ensures.some, c.in_ok-len.ensures.within) in
    let next : c.saturating_add-at.result ≡ counted at (first_len rest) =
    subst (λ (n : ℕ). c.saturating_add-at.result ≡ counted at n) c.in_ok-len.ensures.exact c.saturating_add-at.ensures in
    let same : c.behind-rest.result.now ≡ behind_first rest =
    subst (λ (n : ℕ). c.behind-rest.result.now ≡ drop n rest) c.in_ok-len.ensures.exact c.behind-rest.ensures in
    record {
      whole = λ last after items are shows.
          let all = all_shown at c.saturating_add-at.result rest c.behind-rest.result.now next same some
          (g.P.Pages.written c.loop-rest.pages) (g.P.Pages.written c.show_next.new.pages) after c.loop-rest.sheet c.show_next.new.sheet last
          c.in_ok-len.ensures.shown items are shows in
          c.loop-rest.invariant.whole last after all.0 all.1 all.2;
      stopped = λ after begun.
          c.loop-rest.invariant.stopped after
          (next_begun at c.saturating_add-at.result rest c.behind-rest.result.now next same some
          (g.P.Pages.written c.loop-rest.pages) (g.P.Pages.written c.show_next.new.pages) after c.loop-rest.sheet c.show_next.new.sheet
          c.in_ok-len.ensures.shown begun);
      written = c.in_ok-len.ensures.cause ∙ c.loop-rest.invariant.written;
    }

pub returns-clause-shown : goal.returns-clause-shown
returns-clause-shown g c =
    let none : length c.loop-rest.rest.now ≡ 0 = first_of (grind (arith, c.is_empty.ensures, c.loop-rest-test.ensures, c.loop-rest-test.false), search (rules, eqb-true)) in
    c.loop-rest.invariant.whole c.loop-rest.sheet (g.P.Pages.written c.loop-rest.pages) [] (inr (inl (none_left c.loop-rest.rest.now none)))
    (no_items (g.P.Pages.written c.loop-rest.pages) c.loop-rest.sheet)

pub returns-in_err-len-clause-stopped : goal.returns-in_err-len-clause-stopped
returns-in_err-len-clause-stopped g c =
    let rest = c.loop-rest.rest.now in
    let at : ℕ = c.loop-rest.at in
    let before : Option (List ℕ) = g.P.Pages.written c.loop-rest.pages in
    let after : Option (List ℕ) = g.P.Pages.written c.show_next.new.pages in
    let some : 0 < length rest = first_of (search rules, grind (arith, c.is_empty.ensures, c.loop-rest-test.ensures, c.loop-rest-test.true)) in
    stopped_so c.from_residual.result c.in_err-len.field-0.0 (StopsAll (AreFirst at rest) before after c.loop-rest.sheet) _ c.from_residual.ensures.1
    (λ first. c.loop-rest.invariant.stopped after (first_begun at rest some before after c.loop-rest.sheet first)) c.in_err-len.ensures.stopped
