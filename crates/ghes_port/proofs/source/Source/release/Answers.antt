use Rattle.std.proofs.Common.{◌≡◌, ◌∙◌, ℕ, List, length, drop, map, All, sym, ap, subst, arith}
use Rattle.std.proofs.lemmas.List.{drop-map, length-drop}
use Rattle.std.proofs.lemmas.List.Elements.{All-drop}
use Rattle.ghes_ack.proofs.RoomLemmas.{All-more}
use Rattle.ghes_port.specs.Machine.{IsGood}
use Rattle.ghes_port.specs.Queues.{IsWide, blocks_of}
use Rattle.ghes_port.proofs.SourceLemmas.{fills_first}
use Rattle.ghes_port.proofs.source.Source.release.Goals as goal

pub invariant_of-self : goal.invariant_of-self
invariant_of-self c =
    let len = c.self.inside.map.len in
    let source = c.self.invariant.0 in
    let room = c.self.invariant.1 in
    let rest : blocks_of c.pop_front.new.self ≡ drop 1 (blocks_of c.self.inside.queue) = ap (map (λ v. v.items)) c.in-Some.ensures.rest ∙ sym (drop-map (λ v. v.items) 1 c.self.inside.queue.items) in
    let good : All (IsGood len) (blocks_of c.pop_front.new.self) = subst (λ (bs : List (List ℕ)). All (IsGood len) bs) (sym rest)
    (All-drop (IsGood len) 1 (blocks_of c.self.inside.queue) source.good) in
    let count = room.count in
    let counted = room.counted in
    let popped = c.in-Some.ensures.cases in
    let pushed = c.push_reserved.ensures.len in
    let shorter = ap length c.in-Some.ensures.rest ∙ length-drop 1 c.self.inside.queue.items in
    let queue_room = room.queue_room in
    let spare_room = room.spare_room in
    let one = c.pop_front.ensures.capacity in
    let other = c.push_reserved.ensures.capacity in (
      record { placed = source.placed; good = good; reached = fills_first len (blocks_of c.pop_front.new.self) good },
      record {
        count = omega (arith, count, popped, pushed);
        counted = omega (arith, shorter, counted, popped);
        few = room.few;
        short = room.short;
        queue_room = omega (arith, queue_room, one);
        spare_room = omega (arith, spare_room, other);
        queue_wide = subst (λ (vs : List _). All (IsWide len) vs) (sym c.in-Some.ensures.rest) (All-drop (IsWide len) 1 c.self.inside.queue.items room.queue_wide);
        spare_wide = rw c.push_reserved.ensures.items
            (All-more (IsWide len) c.self.inside.spare.items c.in-Some.block room.spare_wide
            ((subst (λ (vs : List _). All (IsWide len) vs) c.in-Some.ensures.items room.queue_wide) 0 c.in-Some.block (omega (arith))));
      },
    )
