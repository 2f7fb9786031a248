use Rattle.std.proofs.Common.{◌≡◌, ◌∙◌, ℕ, List, take, refl, sym, ap, arith}
use Rattle.std.specs.Vec.{with_items}
use Rattle.std.proofs.lemmas.List.{with_items_is}
use Rattle.erst_bridge.specs.declared.events.BridgeEvent.TheVariants.{Line}
use Rattle.erst_bridge.specs.Bridges.{Off, station_rules, asker_of, TurnsReader, state_of, after_reader}
use Rattle.erst_bridge.proofs.TurnLemmas.{holds_none, as_seen, stays_on}
use Rattle.erst_bridge.proofs.bridge.Bridge.turn.Goals as goal

pub returns-in_default : goal.returns-in_default
returns-in_default g c =
    let inside = c.self.inside in
    let bytes = take inside.size inside.bytes.items in
    let before = state_of inside.stage inside.id bytes in
    let on : before ≡ Off → ⊥ = λ off. c.requires (sym c.self.view_is ∙ off) in
    let event = c.turn_reader-event.result in
    let last = g.S.Station.last c.turn_reader-event.new.station in
    let kept : (with_items inside.bytes c.turn_reader-event.new.bytes).items ≡ c.turn_reader-event.new.bytes = with_items_is inside.bytes c.turn_reader-event.new.bytes (omega arith) in
    let rules = station_rules g.S.Space.state g.S.Space.allows g.S.Station.reads g.S.Station.last in
    let asker = asker_of c.args.client.now c.args.budget.now in
    let bridges = as_seen rules asker c.args.station.now
    before c.args.self.now (Line event) (after_reader event inside.id last before)
    (state_of c.turn_reader-event.new.stage inside.id (take c.turn_reader-event.new.size (with_items inside.bytes c.turn_reader-event.new.bytes).items))
    c.args.budget.now c.turn_reader-event.new.station
    c.self.view_is
    (ap (λ (xs : List ℕ). after_reader event inside.id last (state_of inside.stage inside.id (take inside.size xs))) (sym c.deref_mut.ensures.value) ∙ sym c.turn_reader-event.ensures.state
    ∙ ap (λ (xs : List ℕ). state_of c.turn_reader-event.new.stage inside.id (take c.turn_reader-event.new.size xs)) (sym kept))
    (TurnsReader inside.id before event c.turn_reader-event.new.station (holds_none inside.stage inside.id bytes c.in_default.not-Holding on) c.turn_reader-event.ensures.reads) in
    record {
      bridges = bridges;
      on = stays_on rules asker c.args.station.now _ _ _ _ _ bridges;
      client = refl;
      cause = tt;
    }
