use Rattle.std.proofs.Common.{◌≡◌, ◌∙◌, ◌-◌, length, ap, arith}
use Rattle.std.proofs.lemmas.List.{length-drop}
use Rattle.ghes_ack.specs.WindowQueues.{IsWide}
use Rattle.ghes_ack.proofs.RoomLemmas.{All-more}
use Rattle.std.proofs.lemmas.List.Elements.{All-drop}
use Rattle.ghes_ack.proofs.window_blocks.Blocks.forget.Goals as goal

pub loop-block-preserved : goal.loop-block-preserved
loop-block-preserved g c =
    let room = c.loop-block.invariant.0 in
    let places = room.places in
    let few = room.few in
    let counted = room.counted in
    let popped = c.in-Some-pop_front.ensures.cases in
    let pushed = c.push_reserved-in-Some-pop_front.ensures.len in
    let l : length c.pop_front.new.self.items ≡ length c.loop-block.self.waiting.items - 1 = ap length c.pop_front.ensures.rest ∙ length-drop 1 c.loop-block.self.waiting.items in (
      record {
        places = omega (arith, places, popped, pushed);
        few = omega (arith, few, popped);
        counted = omega (arith, l, counted, popped);
        queue = let q = room.queue in let e = c.pop_front.ensures.capacity in omega (arith, q, e);
        stack = let q = room.stack in let e = c.push_reserved-in-Some-pop_front.ensures.capacity in omega (arith, q, e);
        waiting_room = rw c.pop_front.ensures.rest (All-drop (IsWide (g.M.HasWindow.window_of c.loop-block.self.map).len) 1 c.loop-block.self.waiting.items room.waiting_room);
        work_room = room.work_room;
        spare_room = rw c.push_reserved-in-Some-pop_front.ensures.items (All-more (IsWide (g.M.HasWindow.window_of c.loop-block.self.map).len)
            c.loop-block.self.spare.items c.in-Some-pop_front.block room.spare_room
            (rw c.in-Some-pop_front.ensures.lookup (room.waiting_room 0 c.in-Some-pop_front.block (omega (arith, counted, popped)))));
        last_room = room.last_room;
      },
      c.loop-block.invariant.1,
      c.loop-block.invariant.2,
    )
