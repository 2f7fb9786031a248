use Rattle.std.proofs.Common.{arith, ℕ, ◌∙◌, ◌≤◌, ◌<◌, ◌/◌, [], length, subst}
use Rattle.show_items.specs.Places.{StopsIf}
use Rattle.show_items.specs.Storage.{IsStored, end_of_places, has_identifier}
use Rattle.show_items.proofs.BeginningLemmas.{stopped_so}
use Rattle.show_items.proofs.PlaceLemmas.{next_place_begun, no_place_left, one_place_begun, one_place_more}
use Rattle.show_items.proofs.SheetLemmas.{no_items}
use Rattle.show_items.proofs.storage.show_places.Goals as goal

pub loop-place-preserved : goal.loop-place-preserved
loop-place-preserved g c =
    let written = g.P.Pages.written in
    let bytes = c.args.bytes.now in
    let place = c.loop-place.place in
    let below : place < end_of_places bytes = subst (λ (n : ℕ). place < length bytes / n) c.requires.size c.loop-place-test.true in
    record {
      shown = λ last after items rest more.
          let all = one_place_more (has_identifier bytes) (IsStored bytes) place (end_of_places bytes) (written c.loop-place.pages) (written c.show_place.new.pages) after
          c.loop-place.sheet c.show_place.new.sheet last items below c.in_ok-show_place.ensures.shown rest more in
          c.loop-place.invariant.shown last after all.0 all.1 all.2;
      stopped = λ after begun.
          c.loop-place.invariant.stopped after
          (next_place_begun (has_identifier bytes) (IsStored bytes) place (end_of_places bytes) (written c.loop-place.pages) (written c.show_place.new.pages) after
          c.loop-place.sheet c.show_place.new.sheet below c.in_ok-show_place.ensures.shown begun);
      cause = c.in_ok-show_place.ensures.cause ∙ c.loop-place.invariant.cause;
    }

pub returns-clause-shown : goal.returns-clause-shown
returns-clause-shown g c =
    let bytes = c.args.bytes.now in
    let place = c.loop-place.place in
    let written = g.P.Pages.written c.loop-place.pages in
    let over : length bytes / c.args.size ≤ place = omega (arith, c.loop-place-test.false) in
    let end : end_of_places bytes ≤ place = subst (λ (n : ℕ). length bytes / n ≤ place) c.requires.size over in
    c.loop-place.invariant.shown c.loop-place.sheet written []
    (no_place_left (has_identifier bytes) (IsStored bytes) place (end_of_places bytes) end) (no_items written c.loop-place.sheet)

pub returns-in_err-show_place-clause-stopped : goal.returns-in_err-show_place-clause-stopped
returns-in_err-show_place-clause-stopped g c =
    let bytes = c.args.bytes.now in
    let place = c.loop-place.place in
    let before = g.P.Pages.written c.loop-place.pages in
    let after = g.P.Pages.written c.show_place.new.pages in
    let below : place < end_of_places bytes = subst (λ (n : ℕ). place < length bytes / n) c.requires.size c.loop-place-test.true in
    stopped_so c.from_residual.result c.in_err-show_place.field-0.0
    (StopsIf (has_identifier bytes place) (IsStored bytes place) before after c.loop-place.sheet) _ c.from_residual.ensures.1
    (λ begun. c.loop-place.invariant.stopped after
    (one_place_begun (has_identifier bytes) (IsStored bytes) place (end_of_places bytes) before after c.loop-place.sheet below begun))
    c.in_err-show_place.ensures.stopped
