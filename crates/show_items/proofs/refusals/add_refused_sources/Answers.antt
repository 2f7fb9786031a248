use Rattle.std.proofs.Common.{◌≡◌, ◌∙◌, ℕ, suc, ◌+◌, ◌-◌, ◌<◌, List, [], ◌∷◌, Option, subst, arith}
use Rattle.show_findings.specs.Places.{seen_number}
use Rattle.show_items.specs.Groups.{Group}
use Rattle.show_items.specs.Sheets.{AddsGroups}
use Rattle.show_items.specs.Refusals.{refused_sources, source_refusals}
use Rattle.show_items.proofs.BeginningLemmas.{added_and_stopped, same_begun, stops, turned_and_begun}
use Rattle.show_items.proofs.SheetLemmas.{no_groups}
use Rattle.show_items.proofs.ItemLemmas.{turned_and_more}
use Rattle.show_items.proofs.RefusalLemmas.{no_refused_source, refused_source_then}
use Rattle.show_items.proofs.refusals.add_refused_sources.Goals as goal

pub returns-in_default-clause-shown : goal.returns-in_default-clause-shown
returns-in_default-clause-shown g c =
    let written : Option (List ℕ) = g.P.Pages.written c.loop-index.pages in
    let sheet = c.loop-index.sheet in
    let bytes = c.args.bytes.now in
    let left : ℕ = seen_number bytes 36 4 - c.loop-index.index in
    c.loop-index.invariant.whole sheet written
    (subst (λ (groups : List Group). AddsGroups groups written written sheet sheet)
    (no_refused_source bytes left c.loop-index.index c.loop-index.at c.in_default.ensures.source) (no_groups written sheet))

pub loop-index-preserved : goal.loop-index-preserved
loop-index-preserved g c =
    let bytes = c.args.bytes.now in
    let index : ℕ = c.loop-index.index in
    let left : ℕ = seen_number bytes 36 4 - index in
    let more : ℕ = seen_number bytes 36 4 - (index + 1) in
    let source = c.in-Some.source in
    let counted : index < seen_number bytes 36 4 = omega arith in
    let one : left ≡ suc more = omega (arith, counted) in
    let next : index + 1 ≡ suc index = omega arith in
    let whole = refused_source_then bytes left more index (index + 1) c.loop-index.at source.kind source.bytes.now source.next one next c.in-Some.ensures.source in
    record {
      whole = λ last after rest.
          c.loop-index.invariant.whole last after
          (subst (λ (groups : List Group). AddsGroups groups (g.P.Pages.written c.loop-index.pages) after c.loop-index.sheet last) whole
          (turned_and_more (source_refusals index c.loop-index.at source.kind source.bytes.now) (refused_sources bytes more (index + 1) source.next)
          (g.P.Pages.written c.loop-index.pages) (g.P.Pages.written c.turn.new.pages) after c.loop-index.sheet c.add_source_refusal.new.sheet c.turn.new.self last
          c.in_ok-add_source_refusal.ensures c.in_ok-turn.ensures.turned rest));
      stopped = λ after begun.
          c.loop-index.invariant.stopped after
          (same_begun _ _ (g.P.Pages.written c.loop-index.pages) after c.loop-index.sheet whole
          (turned_and_begun (source_refusals index c.loop-index.at source.kind source.bytes.now) (refused_sources bytes more (index + 1) source.next)
          (g.P.Pages.written c.loop-index.pages) (g.P.Pages.written c.turn.new.pages) after c.loop-index.sheet c.add_source_refusal.new.sheet c.turn.new.self
          c.in_ok-add_source_refusal.ensures c.in_ok-turn.ensures.turned begun));
      written = c.in_ok-turn.ensures.cause ∙ c.loop-index.invariant.written;
    }

pub returns-clause-shown : goal.returns-clause-shown
returns-clause-shown g c =
    let written : Option (List ℕ) = g.P.Pages.written c.loop-index.pages in
    let sheet = c.loop-index.sheet in
    let bytes = c.args.bytes.now in
    let index : ℕ = c.loop-index.index in
    let none : 0 ≡ seen_number bytes 36 4 - index = omega (arith, c.loop-index-test.false) in
    c.loop-index.invariant.whole sheet written
    (subst (λ (left : ℕ). AddsGroups (refused_sources bytes left index c.loop-index.at) written written sheet sheet) none (no_groups written sheet))

pub returns-in_err-turn-clause-stopped : goal.returns-in_err-turn-clause-stopped
returns-in_err-turn-clause-stopped g c =
    let bytes = c.args.bytes.now in
    let index : ℕ = c.loop-index.index in
    let left : ℕ = seen_number bytes 36 4 - index in
    let more : ℕ = seen_number bytes 36 4 - (index + 1) in
    let source = c.in-Some.source in
    let counted : index < seen_number bytes 36 4 = omega arith in
    let one : left ≡ suc more = omega (arith, counted) in
    let next : index + 1 ≡ suc index = omega arith in
    let whole = refused_source_then bytes left more index (index + 1) c.loop-index.at source.kind source.bytes.now source.next one next c.in-Some.ensures.source in
    let before : Option (List ℕ) = g.P.Pages.written c.loop-index.pages in
    let after : Option (List ℕ) = g.P.Pages.written c.turn.new.pages in
    stops c.from_residual-in_err-turn.result _
    (c.loop-index.invariant.stopped after
    (same_begun _ _ before after c.loop-index.sheet whole
    (added_and_stopped (source_refusals index c.loop-index.at source.kind source.bytes.now) (refused_sources bytes more (index + 1) source.next)
    before after c.loop-index.sheet c.add_source_refusal.new.sheet c.in_ok-add_source_refusal.ensures c.in_err-turn.ensures.stopped)))
