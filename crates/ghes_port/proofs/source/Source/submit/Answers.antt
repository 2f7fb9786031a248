use Rattle.std.proofs.Common.{◌≡◌, ◌∙◌, ℕ, ◌≤◌, ◌-◌, Bool, cond, List, [], ◌∷◌, ◌++◌, length, map, All, sym, ap, subst, arith, vec_len, vec_capacity, length-append}
use Rattle.std.proofs.lemmas.List.{map-append}
use Rattle.std.proofs.lemmas.List.Elements.{All-take}
use Rattle.std.proofs.lemmas.Grind.{common_steps}
use Rattle.ghes_ack.proofs.RoomLemmas.{All-more}
use Rattle.base_model.proofs.BytesLemmas.{AreBytes-each}
use Rattle.ghes_port.specs.Machine.{SourceState, IsGood, submitted}
use Rattle.ghes_port.specs.Sound.{IsReached}
use Rattle.ghes_port.specs.Queues.{IsWide, blocks_of}
use Rattle.ghes_port.proofs.BlockLemmas.{good_of}
use Rattle.ghes_port.proofs.SourceLemmas.{reached_more}
use Rattle.ghes_port.proofs.source.Source.submit.Goals as goal
use Rattle.ghes_port.proofs.source.Source.submit.Goals.{After-len}

wide : (c : After-len) → c.self.inside.map.len ≤ vec_capacity c.in-Some.place
wide c = let room = c.self.invariant.1 in grind (arith, common_steps, c.in-Some.ensures.value c.in-Some.place, room.spare_wide (vec_len c.self.inside.spare - 1) c.in-Some.place)

copied : (c : After-len) → c.extend_from_slice.new.self.items ≡ c.args.block.now
copied c =
    let cap = wide c in
    let fits = c.in_default.ensures.fits.fits in
    let empty = c.clear.ensures.len in
    let same = c.clear.ensures.capacity in
    let ok = c.extend_from_slice.ensures.succeeds (omega (arith, cap, fits, empty, same)) in
    c.extend_from_slice.ensures.items ∙ ap (λ (b : Bool). cond b (c.clear.new.self.items ++ c.args.block.now) c.clear.new.self.items) ok
    ∙ ap (λ (x : List ℕ). x ++ c.args.block.now) c.clear.ensures.items

more : (c : After-len) → blocks_of c.push_back_reserved.new.self ≡ blocks_of c.self.inside.queue ++ c.args.block.now ∷ []
more c =
    ap (map (λ v. v.items)) c.push_back_reserved.ensures.items
    ∙ map-append (λ v. v.items) c.self.inside.queue.items (c.extend_from_slice.new.self ∷ [])
    ∙ ap (λ (x : List ℕ). blocks_of c.self.inside.queue ++ x ∷ []) (copied c)

good : (c : After-len) → IsGood c.self.inside.map.len c.args.block.now
good c = good_of c.self.inside.map.len c.args.block.now c.in_default.ensures.exact c.in_default.ensures.fits (AreBytes-each c.args.block.now (λ k. omega (arith, c.type_inv.block k)))

pub invariant_of-self-2 : goal.invariant_of-self-2
invariant_of-self-2 c =
    let at = (goal.at.invariant_of-self-2 c).After-len in
    let len = c.self.inside.map.len in
    let source = c.self.invariant.0 in
    let room = c.self.invariant.1 in
    let queue = blocks_of c.self.inside.queue in
    let is = more at in
    let cap = wide at in
    let same = c.clear.ensures.capacity in
    let grown = c.extend_from_slice.ensures.capacity in
    let new_wide : len ≤ vec_capacity c.extend_from_slice.new.self = omega (arith, cap, same, grown) in
    let count = room.count in
    let counted = room.counted in
    let popped = c.in-Some.ensures.cases in
    let pushed = c.push_back_reserved.ensures.len in
    let longer = ap length c.push_back_reserved.ensures.items ∙ length-append c.self.inside.queue.items (c.extend_from_slice.new.self ∷ []) in
    let queue_room = room.queue_room in
    let spare_room = room.spare_room in
    let one = c.push_back_reserved.ensures.capacity in
    let other = c.pop.ensures.capacity in (
      record {
        placed = source.placed;
        good = subst (λ (bs : List (List ℕ)). All (IsGood len) bs) (sym is) (All-more (IsGood len) queue c.args.block.now source.good (good at));
        reached = subst (λ (bs : List (List ℕ)). IsReached c.self.inside.map bs c.self.inside.stage) (sym is)
            (reached_more c.self.inside.map queue c.args.block.now c.self.inside.stage c.in_default.ensures.fits.head source.reached);
      },
      record {
        count = omega (arith, count, popped, pushed);
        counted = omega (arith, longer, counted, pushed);
        few = room.few;
        short = room.short;
        queue_room = omega (arith, queue_room, one);
        spare_room = omega (arith, spare_room, other);
        queue_wide = rw c.push_back_reserved.ensures.items (All-more (IsWide len) c.self.inside.queue.items c.extend_from_slice.new.self room.queue_wide new_wide);
        spare_wide = rw c.in-Some.ensures.rest (All-take (IsWide len) (vec_len c.self.inside.spare - 1) c.self.inside.spare.items room.spare_wide);
      },
    )

pub returns-clause-added : goal.returns-clause-added
returns-clause-added c =
    let is = more (goal.at.returns-clause-added c).After-len in
    ap (λ (bs : List (List ℕ)). record { id = c.self.inside.id; map = c.self.inside.map; stage = c.self.inside.stage; queue = bs; places = c.self.inside.places }) is
    ∙ ap (λ (s : SourceState). submitted s c.args.block.now) c.self.view_is

pub returns-clause-good : goal.returns-clause-good
returns-clause-good c =
    let same : c.self.inside.map.len ≡ c.args.self.now.map.len = ap (λ (s : SourceState). s.map.len) c.self.view_is in
    subst (λ (n : ℕ). IsGood n c.args.block.now) same (good (goal.at.returns-clause-good c).After-len)
