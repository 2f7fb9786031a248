use Rattle.std.proofs.Common.{◌≡◌, ◌∙◌, ℕ, suc, ◌+◌, ◌-◌, ◌<◌, List, [], ◌∷◌, Option, subst, arith}
use Rattle.show_findings.specs.Places.{seen_number}
use Rattle.show_items.specs.Groups.{Group}
use Rattle.show_items.specs.Sheets.{AddsGroups}
use Rattle.show_items.specs.Refusals.{entry_refusals, refused_entries}
use Rattle.show_items.proofs.BeginningLemmas.{added_and_stopped, same_begun, stops, turned_and_begun}
use Rattle.show_items.proofs.SheetLemmas.{no_groups}
use Rattle.show_items.proofs.ItemLemmas.{turned_and_more}
use Rattle.show_items.proofs.RefusalLemmas.{entry_size, no_refused_entry, refused_entry_and_more}
use Rattle.show_items.proofs.refusals.add_refused_entries.Goals as goal

pub add_entry_refusal-requires : goal.add_entry_refusal-requires
add_entry_refusal-requires g c = entry_size c.args.bytes.now c.in-Some.entry.now c.loop-index.index c.in-Some.ensures.0 c.in-Some.ensures.1

pub returns-in_default-clause-shown : goal.returns-in_default-clause-shown
returns-in_default-clause-shown g c =
    let written : Option (List ℕ) = g.P.Pages.written c.loop-index.pages in
    let sheet = c.loop-index.sheet in
    let bytes = c.args.bytes.now in
    let count : ℕ = seen_number bytes 44 4 in
    let counted : c.loop-index.index < count = omega arith in
    c.loop-index.invariant.whole sheet written
    (subst (λ (groups : List Group). AddsGroups groups written written sheet sheet)
    (no_refused_entry bytes (count - c.loop-index.index) c.loop-index.index counted c.in_default.ensures) (no_groups written sheet))

pub loop-index-preserved : goal.loop-index-preserved
loop-index-preserved g c =
    let bytes = c.args.bytes.now in
    let index : ℕ = c.loop-index.index in
    let left : ℕ = seen_number bytes 44 4 - index in
    let more : ℕ = seen_number bytes 44 4 - (index + 1) in
    let entry = c.in-Some.entry.now in
    let has = c.in-Some.ensures.0 in
    let counted : index < seen_number bytes 44 4 = has.counted in
    let one : left ≡ suc more = omega (arith, counted) in
    let next : index + 1 ≡ suc index = omega arith in
    let whole = refused_entry_and_more bytes left more index (index + 1) entry one next has c.in-Some.ensures.1 in
    record {
      whole = λ last after rest.
          c.loop-index.invariant.whole last after
          (subst (λ (groups : List Group). AddsGroups groups (g.P.Pages.written c.loop-index.pages) after c.loop-index.sheet last) whole
          (turned_and_more (entry_refusals index entry) (refused_entries bytes more (index + 1))
          (g.P.Pages.written c.loop-index.pages) (g.P.Pages.written c.turn.new.pages) after c.loop-index.sheet c.add_entry_refusal.new.sheet c.turn.new.self last
          c.in_ok-add_entry_refusal.ensures c.in_ok-turn.ensures.turned rest));
      stopped = λ after begun.
          c.loop-index.invariant.stopped after
          (same_begun _ _ (g.P.Pages.written c.loop-index.pages) after c.loop-index.sheet whole
          (turned_and_begun (entry_refusals index entry) (refused_entries bytes more (index + 1))
          (g.P.Pages.written c.loop-index.pages) (g.P.Pages.written c.turn.new.pages) after c.loop-index.sheet c.add_entry_refusal.new.sheet c.turn.new.self
          c.in_ok-add_entry_refusal.ensures c.in_ok-turn.ensures.turned begun));
      written = c.in_ok-turn.ensures.cause ∙ c.loop-index.invariant.written;
    }

pub returns-clause-shown : goal.returns-clause-shown
returns-clause-shown g c =
    let written : Option (List ℕ) = g.P.Pages.written c.loop-index.pages in
    let sheet = c.loop-index.sheet in
    let bytes = c.args.bytes.now in
    let index : ℕ = c.loop-index.index in
    let none : 0 ≡ seen_number bytes 44 4 - index = omega (arith, c.loop-index-test.false) in
    c.loop-index.invariant.whole sheet written
    (subst (λ (left : ℕ). AddsGroups (refused_entries bytes left index) written written sheet sheet) none (no_groups written sheet))

pub returns-in_err-turn-clause-stopped : goal.returns-in_err-turn-clause-stopped
returns-in_err-turn-clause-stopped g c =
    let bytes = c.args.bytes.now in
    let index : ℕ = c.loop-index.index in
    let left : ℕ = seen_number bytes 44 4 - index in
    let more : ℕ = seen_number bytes 44 4 - (index + 1) in
    let entry = c.in-Some.entry.now in
    let has = c.in-Some.ensures.0 in
    let counted : index < seen_number bytes 44 4 = has.counted in
    let one : left ≡ suc more = omega (arith, counted) in
    let next : index + 1 ≡ suc index = omega arith in
    let whole = refused_entry_and_more bytes left more index (index + 1) entry one next has c.in-Some.ensures.1 in
    let before : Option (List ℕ) = g.P.Pages.written c.loop-index.pages in
    let after : Option (List ℕ) = g.P.Pages.written c.turn.new.pages in
    stops c.from_residual-in_err-turn.result _
    (c.loop-index.invariant.stopped after
    (same_begun _ _ before after c.loop-index.sheet whole
    (added_and_stopped (entry_refusals index entry) (refused_entries bytes more (index + 1))
    before after c.loop-index.sheet c.add_entry_refusal.new.sheet c.in_ok-add_entry_refusal.ensures c.in_err-turn.ensures.stopped)))
