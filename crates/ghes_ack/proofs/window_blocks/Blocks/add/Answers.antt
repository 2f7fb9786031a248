use Rattle.std.proofs.Common.{◌≡◌, ◌∙◌, ℕ, ◌-◌, ◌≤◌, Bool, cond, List, [], ◌∷◌, ◌++◌, length, map, vec_len, vec_capacity, refl, ap, arith, length-append}
use Rattle.std.proofs.lemmas.List.{map-append}
use Rattle.std.proofs.lemmas.Grind.{common_steps}
use Rattle.ghes_ack.specs.WindowQueues.{IsWide}
use Rattle.ghes_ack.proofs.RoomLemmas.{All-more}
use Rattle.std.proofs.lemmas.List.Elements.{All-take}
use Rattle.ghes_ack.proofs.window_blocks.Blocks.add.Goals as goal

pub returns-in-Some : goal.returns-in-Some
returns-in-Some g c =
    let cap : (g.M.HasWindow.window_of c.args.self.now.map).len ≤ vec_capacity c.in-Some.place =
    grind (arith, common_steps, c.in-Some.ensures.value c.in-Some.place, c.requires.room.spare_room (vec_len c.args.self.now.spare - 1) c.in-Some.place) in
    let fits = c.requires.fits in
    let empty = c.clear.ensures.len in
    let same = c.clear.ensures.capacity in
    let ok = c.extend_from_slice.ensures.succeeds (omega (arith, cap, fits, empty, same)) in
    let items : c.extend_from_slice.new.self.items ≡ c.args.block.now =
    c.extend_from_slice.ensures.items ∙ ap (λ (b : Bool). cond b (c.clear.new.self.items ++ c.args.block.now) c.clear.new.self.items) ok
    ∙ ap (λ (x : List ℕ). x ++ c.args.block.now) c.clear.ensures.items in
    let room = c.requires.room in
    let places = room.places in
    let few = c.requires.few in
    let counted = room.counted in
    let popped = c.in-Some.ensures.cases in
    let pushed = c.push_back_reserved.ensures.len in
    let grown = c.extend_from_slice.ensures.capacity in
    let wide : (g.M.HasWindow.window_of c.args.self.now.map).len ≤ vec_capacity c.extend_from_slice.new.self = omega (arith, cap, same, grown) in
    let longer = ap length c.push_back_reserved.ensures.items ∙ length-append c.args.self.now.waiting.items (c.extend_from_slice.new.self ∷ []) in
    record {
      waiting =
          ap (map (λ v. v.items)) c.push_back_reserved.ensures.items
          ∙ map-append (λ v. v.items) c.args.self.now.waiting.items (c.extend_from_slice.new.self ∷ [])
          ∙ ap (λ (x : List ℕ). map (λ v. v.items) c.args.self.now.waiting.items ++ x ∷ []) items;
      at_work = refl;
      same = record { map = refl; filled = refl; copied = refl; last = refl };
      room = record {
        places = omega (arith, places, popped, pushed);
        few = omega (arith, few, pushed);
        counted = omega (arith, longer, counted, pushed);
        queue = let q = room.queue in let e = c.push_back_reserved.ensures.capacity in omega (arith, q, e);
        stack = let q = room.stack in let e = c.pop.ensures.capacity in omega (arith, q, e);
        waiting_room = rw c.push_back_reserved.ensures.items (All-more (IsWide (g.M.HasWindow.window_of c.args.self.now.map).len) c.args.self.now.waiting.items
            c.extend_from_slice.new.self room.waiting_room wide);
        work_room = room.work_room;
        spare_room = rw c.in-Some.ensures.rest (All-take (IsWide (g.M.HasWindow.window_of c.args.self.now.map).len) (vec_len c.args.self.now.spare - 1) c.args.self.now.spare.items room.spare_room);
        last_room = room.last_room;
      };
    }
