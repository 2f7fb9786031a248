use Rattle.std.proofs.Common.{◌≡◌, ◌∙◌, ℕ, ◌+◌, ◌-◌, ◌≤◌, List, ◌++◌, length, take, drop, sym, ap, subst, arith, length-append, length-take}
use Rattle.std.proofs.lemmas.List.{take_all, take-append-le}
use Rattle.std.proofs.Math.Seq.{take-append-add}
use Rattle.apei_space.specs.RamState.{RamState}
use Rattle.ghes_ack.specs.declared.events.Side.{Side}
use Rattle.ghes_ack.specs.declared.events.Event.{Event}
use Rattle.ghes_ack.specs.Machine.{Machine, turned_times}
use Rattle.ghes_ack.specs.Handovers.{HandoverState, over}
use Rattle.ghes_ack.specs.Sides.{MakesTurns, handover_of}
use Rattle.ghes_ack.specs.Sides.{Stands}
use Rattle.ghes_ack.proofs.JoinLemmas.{SideDone}
use Rattle.ghes_ack.proofs.RunLemmas.{no_turns, turns_then}
use Rattle.ghes_ack.proofs.BothSides.{side_able, side_done}
use Rattle.ghes_ack.proofs.turns.all_turns.Goals as goal
use Rattle.ghes_ack.proofs.turns.all_turns.Goals.{After-run_of-made}

pub loop-done-init : goal.loop-done-init
loop-done-init c = (omega arith, c.requires.consistent, λ m st. no_turns c.args.side (handover_of c.args.ends c.args.blocks.now) c.args.ram.now m st)

-- it stands for the state of the machine after the turns so far
stands_then : (side : Side) (events : List Event) (h after : HandoverState) (ram memory : RamState) (m : Machine) → MakesTurns side events (over h ram) (over after memory) m → Stands after memory
stands_then side events h after ram memory m turns = (turned_times side (length events) m, turns.turned.stands)

pub run_of-made-requires-clause-able : goal.run_of-made-requires-clause-able
run_of-made-requires-clause-able c =
    side_able c.args.side c.loop-done.stand c.loop-done.blocks c.loop-done.ram c.loop-done.invariant.1
    (stands_then _ _ _ _ _ _ _ (c.loop-done.invariant.2 c.requires.stands.0 c.requires.stands.1))

-- the events that are added
next_events : (events new rest : List Event) (done made : ℕ) → done ≤ length events → made ≤ length new → take (done + made) (take done events ++ (new ++ rest)) ≡ take done events ++ take made new
next_events events new rest done made le few =
    let n : length (take done events) ≡ done = length-take done events ∙ omega (arith, le) in
    ap (λ (k : ℕ). take (k + made) (take done events ++ (new ++ rest))) (sym n)
    ∙ take-append-add (take done events) (new ++ rest) made
    ∙ ap (λ (es : List Event). take done events ++ es) (take-append-le made new rest few)

next_fits : (events new rest : List Event) (done made : ℕ) → done ≤ length events → made ≤ length new → done + made ≤ length (take done events ++ (new ++ rest))
next_fits events new rest done made le few =
    let n = length-take done events in
    let a = length-append (take done events) (new ++ rest) in
    let b = length-append new rest in
    omega (arith, n, a, b, le, few)

-- the next turns are the machine's
next_done : (c : After-run_of-made) → SideDone c.args.side (take c.run_of-made.result.1 c.run_of-made.new.events) c.loop-done.stand c.run_of-made.result.0
    c.loop-done.blocks c.run_of-made.new.blocks c.loop-done.ram c.run_of-made.new.ram
next_done c =
    side_done c.args.side c.loop-done.stand c.run_of-made.result.0 c.loop-done.blocks c.run_of-made.new.blocks c.loop-done.ram c.run_of-made.new.ram
    (take c.run_of-made.result.1 c.run_of-made.new.events)
    c.loop-done.invariant.1 c.run_of-made.ensures.room (stands_then _ _ _ _ _ _ _ (c.loop-done.invariant.2 c.requires.stands.0 c.requires.stands.1)) c.run_of-made.ensures.runs

pub loop-done-preserved : goal.loop-done-preserved
loop-done-preserved c =
    let side = c.args.side in
    let rest : List Event = drop (length c.loop-done.events - c.loop-done.done) (drop c.loop-done.done c.loop-done.events) in
    let le = c.loop-done.invariant.0 in
    let few = c.run_of-made.ensures.count.few in
    let long = c.run_of-made.auto.events in
    let done = next_done (goal.at.loop-done-preserved c).After-run_of-made in
    let inside : c.run_of-made.result.1 ≤ length c.run_of-made.new.events = omega (arith, few, long) in (
      next_fits c.loop-done.events c.run_of-made.new.events rest c.loop-done.done c.run_of-made.result.1 le inside,
      done.consistent,
      λ m st.
          let a = c.loop-done.invariant.2 m st in
          let b = done.turns (turned_times side (length (take c.loop-done.done c.loop-done.events)) m) a.turned.stands in
          subst (λ (es : List Event). MakesTurns side es (over (handover_of c.args.ends c.args.blocks.now) c.args.ram.now)
          (over (handover_of c.run_of-made.result.0 c.run_of-made.new.blocks) c.run_of-made.new.ram) m)
          (sym (next_events c.loop-done.events c.run_of-made.new.events rest c.loop-done.done c.run_of-made.result.1 le inside))
          (turns_then side (take c.loop-done.done c.loop-done.events) (take c.run_of-made.result.1 c.run_of-made.new.events)
          (handover_of c.args.ends c.args.blocks.now) (handover_of c.loop-done.stand c.loop-done.blocks)
          (handover_of c.run_of-made.result.0 c.run_of-made.new.blocks)
          c.args.ram.now c.loop-done.ram c.run_of-made.new.ram m st a b),
    )

pub returns-clause-consistent : goal.returns-clause-consistent
returns-clause-consistent c = c.loop-done.invariant.1

pub returns-clause-turns : goal.returns-clause-turns
returns-clause-turns c =
    let all = c.loop-done-test.false in
    λ m st. subst (λ (es : List Event). MakesTurns c.args.side es (over (handover_of c.args.ends c.args.blocks.now) c.args.ram.now)
    (over (handover_of c.loop-done.stand c.loop-done.blocks) c.loop-done.ram) m)
    (take_all c.loop-done.done c.loop-done.events (omega (arith, all))) (c.loop-done.invariant.2 m st)
