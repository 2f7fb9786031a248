use Rattle.std.proofs.Common.{ℕ, ◌+◌, List, sym, subst, Ok, Err}
use Rattle.erst_client.specs.Commands.{Writes}
use Rattle.erst_bridge.specs.declared.events.BridgeEvent.TheVariants.{Stored}
use Rattle.erst_bridge.specs.Bridges.{station_rules, asker_of, Bridges, Holds, Releases, Stores, Keeps, RunsOut}
use Rattle.erst_bridge.proofs.IdentifierLemmas.{is_last, below_last}
use Rattle.erst_bridge.proofs.bridge.offer.Goals as goal

pub returns-in_default-clause-bridges : goal.returns-in_default-clause-bridges
returns-in_default-clause-bridges g c = λ block is. RunsOut c.args.id block (is_last c.args.id c.requires c.in_default.ensures)

pub returns-in-Ok-clause-bridges : goal.returns-in-Ok-clause-bridges
returns-in-Ok-clause-bridges g c = λ block is.
    subst (λ (name : ℕ). Bridges (station_rules g.S.Space.state g.S.Space.allows g.S.Station.reads g.S.Station.last) (asker_of c.args.client.now c.args.budget.now) c.args.station.now
    (Holds c.args.id block) (Stored name) (record { bridge = Releases (c.args.id + 1); left = c.write.new.budget; station = c.write.new.space }))
    (sym c.in-Some.ensures.0)
    (Stores c.args.id block c.write.new.budget c.write.new.space (below_last c.args.id c.ranges.id.fits c.in-Some.ensures.1)
    (subst (λ (bytes : List ℕ). Writes g.S.Space.allows c.args.client.now bytes c.args.budget.now (g.S.Space.state c.args.station.now) (Ok tt)
    c.write.new.budget (g.S.Space.state c.write.new.space)) is c.in-Ok.ensures.writes))

pub returns-in-Err-clause-bridges : goal.returns-in-Err-clause-bridges
returns-in-Err-clause-bridges g c = λ block is.
    Keeps c.args.id block c.in-Err.error c.write.new.budget c.write.new.space (below_last c.args.id c.ranges.id.fits c.in-Some.ensures.1)
    (subst (λ (bytes : List ℕ). Writes g.S.Space.allows c.args.client.now bytes c.args.budget.now (g.S.Space.state c.args.station.now) (Err c.in-Err.error)
    c.write.new.budget (g.S.Space.state c.write.new.space)) is c.in-Err.ensures.writes)
