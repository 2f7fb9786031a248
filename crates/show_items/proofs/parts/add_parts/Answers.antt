use Rattle.std.proofs.Common.{◌∙◌, ℕ, ◌≤◌, List, Option, length, arith}
use Rattle.show_items.proofs.BeginningLemmas.{stops}
use Rattle.show_items.proofs.PartLemmas.{next_added, next_begun, next_stopped, none_added}
use Rattle.show_items.proofs.parts.add_parts.Goals as goal

pub loop-part-preserved : goal.loop-part-preserved
loop-part-preserved g c =
    let parts = c.args.parts.now in
    let index = c.loop-part.part-index in
    let before : Option (List ℕ) = g.P.Pages.written c.loop-part.pages in
    let middle : Option (List ℕ) = g.P.Pages.written c.turn.new.pages in
    record {
      stop = c.in_ok-turn.ensures.cause ∙ c.loop-part.invariant.stop;
      whole = λ last after adds. c.loop-part.invariant.whole last after
          (next_added parts index _ before middle after c.loop-part.sheet c.add_part.new.self c.turn.new.self last c.loop-part-test.true
          c.in_ok-add_part.ensures c.in_ok-turn.ensures.turned adds);
      stopped = λ after begun. c.loop-part.invariant.stopped after
          (next_begun parts index _ before middle after c.loop-part.sheet c.add_part.new.self c.turn.new.self c.loop-part-test.true
          c.in_ok-add_part.ensures c.in_ok-turn.ensures.turned begun);
    }

pub returns-in_err-turn-clause-stopped : goal.returns-in_err-turn-clause-stopped
returns-in_err-turn-clause-stopped g c =
    let before : Option (List ℕ) = g.P.Pages.written c.loop-part.pages in
    let after : Option (List ℕ) = g.P.Pages.written c.turn.new.pages in
    stops c.from_residual-in_err-turn.result _
    (c.loop-part.invariant.stopped after
    (next_stopped c.args.parts.now c.loop-part.part-index _ before after c.loop-part.sheet c.add_part.new.self c.loop-part-test.true
    c.in_ok-add_part.ensures c.in_err-turn.ensures.stopped))

pub returns-clause-groups : goal.returns-clause-groups
returns-clause-groups g c =
    let over : length c.args.parts.now ≤ c.loop-part.part-index = omega (arith, c.loop-part-test.false) in
    c.loop-part.invariant.whole c.loop-part.sheet (g.P.Pages.written c.loop-part.pages)
    (none_added c.args.parts.now c.loop-part.part-index (g.P.Pages.written c.loop-part.pages) c.loop-part.sheet over)
