use Rattle.std.proofs.Common.{arith, rules, ◌∙◌, ◌≤◌, ◌<◌, []}
use Rattle.show_items.specs.Images.{IsRecordIn, is_first}
use Rattle.show_items.proofs.BeginningLemmas.{stopped_so}
use Rattle.show_items.proofs.PlaceLemmas.{next_place_begun, no_place_left, one_place_begun, one_place_more}
use Rattle.show_items.proofs.SheetLemmas.{no_items}
use Rattle.show_items.specs.Places.{StopsIf}
use Rattle.show_items.proofs.images.show_records.Goals as goal

pub loop-slot-preserved : goal.loop-slot-preserved
loop-slot-preserved g c =
    let written = g.P.Pages.written in
    let geometry = c.args.geometry.now in
    let image = c.args.image.now in
    let slot = c.loop-slot.slot in
    let below : slot < geometry.slots = first_of (omega (arith, c.loop-slot-test.true), search rules) in
    record {
      shown = λ last after items rest more.
          let all = one_place_more (is_first geometry image) (IsRecordIn geometry image) slot geometry.slots (written c.loop-slot.pages) (written c.show_slot.new.pages) after
          c.loop-slot.sheet c.show_slot.new.sheet last items below c.in_ok-show_slot.ensures.shown rest more in
          c.loop-slot.invariant.shown last after all.0 all.1 all.2;
      stopped = λ after begun.
          c.loop-slot.invariant.stopped after
          (next_place_begun (is_first geometry image) (IsRecordIn geometry image) slot geometry.slots (written c.loop-slot.pages) (written c.show_slot.new.pages) after
          c.loop-slot.sheet c.show_slot.new.sheet below c.in_ok-show_slot.ensures.shown begun);
      cause = c.in_ok-show_slot.ensures.cause ∙ c.loop-slot.invariant.cause;
    }

pub returns-clause-shown : goal.returns-clause-shown
returns-clause-shown g c =
    let geometry = c.args.geometry.now in
    let image = c.args.image.now in
    let written = g.P.Pages.written c.loop-slot.pages in
    let over : geometry.slots ≤ c.loop-slot.slot = first_of (omega (arith, c.loop-slot-test.false), search rules) in
    c.loop-slot.invariant.shown c.loop-slot.sheet written []
    (no_place_left (is_first geometry image) (IsRecordIn geometry image) c.loop-slot.slot geometry.slots over) (no_items written c.loop-slot.sheet)

pub returns-in_err-show_slot-clause-stopped : goal.returns-in_err-show_slot-clause-stopped
returns-in_err-show_slot-clause-stopped g c =
    let geometry = c.args.geometry.now in
    let image = c.args.image.now in
    let slot = c.loop-slot.slot in
    let before = g.P.Pages.written c.loop-slot.pages in
    let after = g.P.Pages.written c.show_slot.new.pages in
    let below : slot < geometry.slots = first_of (omega (arith, c.loop-slot-test.true), search rules) in
    stopped_so c.from_residual.result c.in_err-show_slot.field-0.0
    (StopsIf (is_first geometry image slot) (IsRecordIn geometry image slot) before after c.loop-slot.sheet) _ c.from_residual.ensures.1
    (λ begun. c.loop-slot.invariant.stopped after
    (one_place_begun (is_first geometry image) (IsRecordIn geometry image) slot geometry.slots before after c.loop-slot.sheet below begun))
    c.in_err-show_slot.ensures.stopped
