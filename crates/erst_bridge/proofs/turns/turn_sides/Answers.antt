use Rattle.std.proofs.Common.{◌∙◌, refl, ℕ, ◌+◌, ap, subst, arith}
use Rattle.erst_client.specs.Commands.{ClientState}
use Rattle.erst_bridge.specs.Turns.{IsTurn}
use Rattle.erst_bridge.specs.Made.{turn_of}
use Rattle.erst_bridge.proofs.TurnsLemmas.{none_made, one_more}
use Rattle.erst_bridge.proofs.turns.turn_sides.Goals as goal

pub turning-init : goal.turning-init
turning-init g c = record {
  so = rw c.clear.ensures.items (none_made g.F.Flash.tells c.args.client.now c.args.steps c.args.bridge.now c.args.machine.now);
  on = c.requires.on;
  client = refl;
  count = c.clear.ensures.len;
  room = omega (arith, c.requires.room, c.clear.ensures.capacity);
}

pub unwrap-requires : goal.unwrap-requires
unwrap-requires g c =
    let count = c.turning.invariant.count in
    let room = c.turning.invariant.room in
    c.push.ensures.succeeds (omega arith)

pub turning-preserved : goal.turning-preserved
turning-preserved g c =
    let before = c.turning.invariant in
    let pushed = rw c.unwrap.ensures at c.push.ensures.items in
    let counted = rw c.unwrap.ensures at c.push.ensures.len in
    let turn = subst (λ (client : ClientState). IsTurn g.F.Flash.tells client c.args.steps c.turning.bridge c.turning.machine (turn_of c.turn_side-turn.result)
    c.turn_side-turn.new.bridge c.turn_side-turn.new.machine) before.client c.turn_side-turn.ensures.turn in
    record {
      so = one_more g.F.Flash.tells c.args.client.now c.args.steps c.args.bridge.now c.args.machine.now c.args.sides.now c.turning.side-index c.turning.made.items c.push.new.self.items
          c.turning.bridge c.turning.machine c.turn_side-turn.result c.steps-step.result c.turn_side-turn.new.bridge c.turn_side-turn.new.machine (omega arith)
          before.so turn c.turn_side-turn.ensures.side c.steps-step.ensures.told c.steps-step.ensures.value pushed;
      on = c.turn_side-turn.ensures.on;
      client = c.turn_side-turn.ensures.client ∙ before.client;
      count = counted ∙ ap (λ (n : ℕ). n + 1) before.count;
      room = omega (arith, c.push.ensures.capacity, before.room);
    }
