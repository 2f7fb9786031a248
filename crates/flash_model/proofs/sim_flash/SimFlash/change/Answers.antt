use Rattle.std.proofs.Common.{◌≡◌, ℕ, true, false, List, [], ◌∷◌, ◌++◌, ap, ◌-◌, ◌^◌, length, refl, sym, ◌∙◌}
use Rattle.std.proofs.lemmas.List.{with_items_is}
use Rattle.flash_model.specs.Content.{bytes_of}
use Rattle.flash_model.specs.contracts.sim_flash.SimFlash.{the_view}
use Rattle.flash_model.specs.declared.tear.Tear.{Tear}
use Rattle.flash_model.specs.declared.power.Power.TheVariants.{Lost}
use Rattle.flash_model.specs.Simulation.{Reaches, fate_of, steps_of, tear_at, image_left}
use Rattle.flash_model.proofs.Changes.{fate_of-last, fate_of-lost, fate_of-powered, ChangeFails-last, ChangeFails-lost, ChangeFails-torn, ChangeFails-whole, faults_after-torn, faults_after-whole}
use Rattle.flash_model.proofs.sim_flash.SimFlash.change.Goals as goal
use Rattle.flash_model.proofs.sim_flash.SimFlash.change.Goals.{After-leave}

-- power is on, and one more change can be counted
powered : (c : After-leave) → fate_of (the_view c.self.inside) ≡ Reaches c.tear_at-tear.result
powered c =
    let steps = c.self.invariant.0 in
    fate_of-powered (the_view c.self.inside) (λ (e : steps_of (the_view c.self.inside) ≡ 2 ^ 64 - 1). c.if-self.false (sym steps ∙ e))
    (λ (lost : c.self.inside.power ≡ Lost). absurd (let e : true ≡ false = sym (c.is_lost.ensures.1 lost) ∙ c.if-is_lost.false in cc))
    ∙ ap (λ (step : ℕ). Reaches (tear_at c.self.inside.power c.self.inside.failing.items step)) steps
    ∙ sym (ap Reaches (c.tear_at-tear.ensures ∙ ap (λ (failing : List (ℕ × Tear)). tear_at c.self.inside.power failing c.self.inside.steps) c.deref-2.ensures.value))

-- one change more, and the image that it left
past_so : (c : After-leave) → c.then-past-2.result.changes
    ≡ c.self.inside.past.changes ++ (record { before = c.self.inside.image.items; at = c.args.at; len = length (bytes_of c.args.content) }) ∷ []
past_so c =
    c.then-past-2.ensures
    ∙ ap (λ (before : List ℕ). c.self.inside.past.changes ++ (record { before = before; at = c.args.at; len = c.len.result }) ∷ []) c.deref-3.ensures.value
    ∙ ap (λ (n : ℕ). c.self.inside.past.changes ++ (record { before = c.self.inside.image.items; at = c.args.at; len = n }) ∷ []) c.len.ensures

left_so : (c : After-leave) → c.leave.new.image ≡ image_left c.tear_at-tear.result c.self.inside.image.items c.args.at (bytes_of c.args.content)
left_so c = c.leave.ensures.left ∙ ap (λ (image : List ℕ). image_left c.tear_at-tear.result image c.args.at (bytes_of c.args.content)) c.deref_mut.ensures.value

pub returns-then-self-clause-after : goal.returns-then-self-clause-after
returns-then-self-clause-after c =
    let fate = fate_of-last (the_view c.self.inside) (c.self.invariant.0 ∙ c.if-self.true) in
    rw (← c.self.view_is, fate, c.next_count-self-inside.ensures, c.count_unpowered-self-inside.ensures) refl

pub returns-then-self-clause-fails : goal.returns-then-self-clause-fails
returns-then-self-clause-fails c = rw (← c.self.view_is) (λ _. ChangeFails-last _ (c.self.invariant.0 ∙ c.if-self.true), λ _. refl)

pub returns-then-is_lost-clause-after : goal.returns-then-is_lost-clause-after
returns-then-is_lost-clause-after c =
    let more = λ (e : steps_of (the_view c.self.inside) ≡ 2 ^ 64 - 1). c.if-self.false (sym c.self.invariant.0 ∙ e) in
    let fate = fate_of-lost (the_view c.self.inside) more (c.is_lost.ensures.0 c.if-is_lost.true) in
    rw (← c.self.view_is, fate, c.then-past.ensures, c.deref.ensures.value, c.next_count-self-inside-then-is_lost.ensures, c.next_count-self-inside-then-is_lost-2.ensures) refl

pub returns-then-is_lost-clause-fails : goal.returns-then-is_lost-clause-fails
returns-then-is_lost-clause-fails c =
    let more = λ (e : steps_of (the_view c.self.inside) ≡ 2 ^ 64 - 1). c.if-self.false (sym c.self.invariant.0 ∙ e) in
    rw (← c.self.view_is) (λ _. ChangeFails-lost _ more (c.is_lost.ensures.0 c.if-is_lost.true), λ _. refl)

pub returns-then-is_some-clause-after : goal.returns-then-is_some-clause-after
returns-then-is_some-clause-after c =
    let here = (goal.at.returns-then-is_some-clause-after c).After-leave in
    let written = with_items_is c.self.inside.image c.leave.new.image (c.leave.auto.image ∙ c.deref_mut.ensures.len) in
    let faults = faults_after-torn c.tear_at-tear.result c.self.inside.faults (sym c.is_some.ensures ∙ c.if-is_some.true) in
    rw (← c.self.view_is, powered here)
    (rw (written, past_so here, c.self.invariant.0, left_so here, c.after-self-inside.ensures, c.next_count-self-inside-then-is_some.ensures, faults) refl)

pub returns-then-is_some-clause-fails : goal.returns-then-is_some-clause-fails
returns-then-is_some-clause-fails c =
    let here = powered (goal.at.returns-then-is_some-clause-fails c).After-leave in
    rw (← c.self.view_is) (λ _. ChangeFails-torn _ _ here (sym c.is_some.ensures ∙ c.if-is_some.true), λ _. refl)

pub returns-clause-after : goal.returns-clause-after
returns-clause-after c =
    let here = (goal.at.returns-clause-after c).After-leave in
    let written = with_items_is c.self.inside.image c.leave.new.image (c.leave.auto.image ∙ c.deref_mut.ensures.len) in
    let faults = faults_after-whole c.tear_at-tear.result c.self.inside.faults (sym c.is_some.ensures ∙ c.if-is_some.false) in
    rw (← c.self.view_is, powered here)
    (rw (written, past_so here, c.self.invariant.0, left_so here, c.after-self-inside.ensures, faults) refl)

pub returns-clause-fails : goal.returns-clause-fails
returns-clause-fails c =
    let here = powered (goal.at.returns-clause-fails c).After-leave in
    rw (← c.self.view_is) (λ failed. cc, λ fails. absurd (ChangeFails-whole _ _ here (sym c.is_some.ensures ∙ c.if-is_some.false) fails))
