use Rattle.std.proofs.Common.{◌∙◌, ℕ, List, take, drop, sym, ap}
use Rattle.ghes_ack.specs.declared.events.Event.{Event}
use Rattle.erst_bridge.specs.BridgedRecord.{bridged}
use Rattle.erst_bridge.specs.Bridges.{Holds, state_of, after_reader}
use Rattle.erst_bridge.proofs.RecordLemmas.{drop-bridged}
use Rattle.erst_bridge.proofs.bridge.turn_reader.Goals as goal

pub returns-in-Took-clause-state : goal.returns-in-Took-clause-state
returns-in-Took-clause-state g c =
    ap (λ (xs : List ℕ). Holds c.args.id (drop 200 xs)) c.make_record.ensures.made
    ∙ ap (Holds c.args.id) (drop-bridged c.taken.result.now c.args.id c.ranges.id.fits ∙ c.taken.ensures.last)
    ∙ sym (ap (λ (e : Event). after_reader e c.args.id (g.S.Station.last c.reader_turn-event.new.self) (state_of c.args.stage.now c.args.id (take c.args.size.now c.args.bytes.now))) c.in-Took.is)

pub returns-in-Took-clause-has : goal.returns-in-Took-clause-has
returns-in-Took-clause-has g c = (
  c.requires.named,
  c.make_record.ensures.made ∙ ap (λ (xs : List ℕ). bridged xs c.args.id) (sym (ap (drop 200) c.make_record.ensures.made ∙ drop-bridged c.taken.result.now c.args.id c.ranges.id.fits)),
)
