use Rattle.std.proofs.Common.{◌≡◌, List, [], ◌∷◌, length, get_or, slice_index_or, sym, ap, subst, arith}
use Rattle.apei_space.specs.RamState.{RamState}
use Rattle.ghes_ack.specs.declared.maps.HandoverMap.{HandoverMap}
use Rattle.ghes_ack.specs.declared.events.Side.{Side}
use Rattle.ghes_ack.specs.declared.events.Event.{Event}
use Rattle.ghes_ack.specs.declared.events.Event.TheVariants.{Idle}
use Rattle.ghes_ack.specs.Machine.{Machine}
use Rattle.ghes_ack.specs.Maps.{HasWindows, window, memory_after}
use Rattle.ghes_ack.specs.Elsewhere.{SameWhere, IsOffBlock}
use Rattle.ghes_ack.specs.Handovers.{HandoverState, StandsFor, over}
use Rattle.ghes_ack.specs.Sides.{Turns, MakesTurns}
use Rattle.ghes_ack.proofs.ElsewhereLemmas.{elsewhere_left}
use Rattle.ghes_ack.proofs.handover.Handover.turn.Goals as goal

-- what a turn leaves elsewhere
elsewhere : (side : Side) (event : Event) (old : HandoverState) (ram : RamState) (new : HandoverState) (memory : RamState) (m : Machine) → StandsFor old ram m →
    Turns side event (over old ram) (over new memory) m → SameWhere (IsOffBlock old.map) ram memory
elsewhere side event old ram new memory m st t =
    let after : HasWindows old.map memory = subst (λ (at : HandoverMap). HasWindows at memory) t.map t.turned.stands.windows in
    elsewhere_left old.map event ram memory st.windows after t.memory_is

-- it stands for the same where nothing was done
here : (first old : HandoverState) (between ram : RamState) (m : Machine) → first ≡ old → between ≡ ram → StandsFor old ram m → StandsFor first between m
here first old between ram m same still st = subst (λ (h : HandoverState). StandsFor h between m) (sym same) (subst (λ (r : RamState). StandsFor old r m) (sym still) st)

-- turns with one place for events are one turn
one_turn : (side : Side) (events : List Event) (h : HandoverState) (ram : RamState) (after : HandoverState) (memory : RamState) (m : Machine) →
    length events ≡ 1 → MakesTurns side events (over h ram) (over after memory) m →
    Turns side (slice_index_or events 0 Idle) (over h ram) (over after memory) m
one_turn side [] h ram after memory m one t = absurd (omega (arith, one))
one_turn side (e ∷ []) h ram after memory m one t =
    let (between, is, same) = t.left in
    record {
      turned = record { event_is = ap (λ (es : List Event). get_or es 0 Idle) t.turned.events_are; stands = t.turned.stands };
      map = t.map;
      memory_is = subst (λ (r : RamState). r ≡ memory_after h.map e ram (window h.map r)) (sym same) is;
    }
one_turn side (e ∷ f ∷ es) h ram after memory m one t = absurd (omega (arith, one))

-- one turn after nothing was done
turned : (side : Side) (events : List Event) (first old : HandoverState) (between ram : RamState) (after : HandoverState) (memory : RamState) (m : Machine) →
    first ≡ old → between ≡ ram → length events ≡ 1 →
    ((n : Machine) → StandsFor first between n → MakesTurns side events (over first between) (over after memory) n) → StandsFor old ram m →
    Turns side (slice_index_or events 0 Idle) (over old ram) (over after memory) m
turned side events first old between ram after memory m same still one makes st =
    subst (λ (h : HandoverState). Turns side (slice_index_or events 0 Idle) (over h ram) (over after memory) m) same
    (subst (λ (r : RamState). Turns side (slice_index_or events 0 Idle) (over first r) (over after memory) m) still
    (one_turn side events first between after memory m one (makes m (here first old between ram m same still st))))

pub returns-in-Some-clause-elsewhere : goal.returns-in-Some-clause-elsewhere
returns-in-Some-clause-elsewhere c =
    elsewhere c.args.side c.in-Some.event c.args.self.now c.args.ram.now c.move_piece.new.self c.move_piece.new.ram c.requires.0 c.requires.1 (c.in-Some.ensures c.requires.0 c.requires.1)

pub make_turns-requires : goal.make_turns-requires
make_turns-requires c = (c.requires.0, here c.move_piece.new.self c.args.self.now c.move_piece.new.ram c.args.ram.now c.requires.0 c.in_default.ensures.0 c.in_default.ensures.1 c.requires.1)

pub returns-clause-turned : goal.returns-clause-turned
returns-clause-turned c =
    λ m st. (turned c.args.side c.make_turns.new.events c.move_piece.new.self c.args.self.now c.move_piece.new.ram c.args.ram.now c.make_turns.new.self
    c.make_turns.new.ram m c.in_default.ensures.0 c.in_default.ensures.1 c.make_turns.auto.events
    c.make_turns.ensures st).turned

pub returns-clause-memory : goal.returns-clause-memory
returns-clause-memory c =
    (turned c.args.side c.make_turns.new.events c.move_piece.new.self c.args.self.now c.move_piece.new.ram c.args.ram.now c.make_turns.new.self
    c.make_turns.new.ram c.requires.0 c.in_default.ensures.0 c.in_default.ensures.1 c.make_turns.auto.events
    c.make_turns.ensures c.requires.1).memory_is

pub returns-clause-map : goal.returns-clause-map
returns-clause-map c =
    (turned c.args.side c.make_turns.new.events c.move_piece.new.self c.args.self.now c.move_piece.new.ram c.args.ram.now c.make_turns.new.self
    c.make_turns.new.ram c.requires.0 c.in_default.ensures.0 c.in_default.ensures.1 c.make_turns.auto.events
    c.make_turns.ensures c.requires.1).map

pub returns-clause-elsewhere : goal.returns-clause-elsewhere
returns-clause-elsewhere c =
    elsewhere c.args.side (slice_index_or c.make_turns.new.events 0 Idle) c.args.self.now c.args.ram.now c.make_turns.new.self c.make_turns.new.ram c.requires.0 c.requires.1
    (turned c.args.side c.make_turns.new.events c.move_piece.new.self c.args.self.now c.move_piece.new.ram c.args.ram.now c.make_turns.new.self
    c.make_turns.new.ram c.requires.0 c.in_default.ensures.0 c.in_default.ensures.1 c.make_turns.auto.events
    c.make_turns.ensures c.requires.1)
