use Rattle.std.proofs.Common.{◌≡◌, ◌∙◌, ℕ, ◌+◌, length, drop, Vec, Option, Some, sym, ap, subst, arith}
use Rattle.std.specs.declared.alloc.Global.{Global}
use Rattle.std.specs.Vec.{with_items}
use Rattle.ghes_ack.specs.WindowQueues.{count_of}
use Rattle.ghes_ack.proofs.Terms.{IsWideIfSome}
use Rattle.ghes_ack.proofs.RoomLemmas.{room_with}
use Rattle.ghes_ack.proofs.SideLemmas.{clears_at, begins_at, copies_at, takes_at}
use Rattle.ghes_ack.proofs.blocks.reader.copy_or_clear.Goals as goal

pub returns-in_default-clause-runs : goal.returns-in_default-clause-runs
returns-in_default-clause-runs c =
    clears_at c.args.blocks.now c.take.new.self c.args.ram.now c.clear-end.new.ram c.note.new.events (drop 1 c.args.events.now) (sym c.in_default.ensures.value)
    c.take.ensures.after c.requires.far c.clear-end.ensures c.note.ensures

pub returns-then-at-count-clause-room : goal.returns-then-at-count-clause-room
returns-then-at-count-clause-room c =
    let some : c.args.blocks.now.at_work ≡ Some c.in-Some.bytes = sym c.in-Some.ensures.value in
    room_with c.args.blocks.now (Some (with_items c.in-Some.bytes c.copy_pieces.new.bytes)) (c.args.blocks.now.copied + c.min-count.result) (sym (ap count_of some))
    (subst (IsWideIfSome c.args.blocks.now.map.len) some c.requires.able.room.work_room) c.requires.able.room

pub returns-then-at-count-clause-runs : goal.returns-then-at-count-clause-runs
returns-then-at-count-clause-runs c =
    let n : length c.in-Some.bytes.items ≡ c.in-Some.bytes.len = ap length (sym c.deref_mut.ensures.value) ∙ c.deref_mut.ensures.len in
    let l = c.len-2.ensures in
    let more = c.if-at-count.true in
    copies_at c.min-count.result c.args.blocks.now c.in-Some.bytes c.deref_mut.result.now c.copy_pieces.new.bytes c.args.ram.now c.note-then-at-count.new.events
    (drop c.min-count.result c.args.events.now) (sym c.in-Some.ensures.value) c.deref_mut.ensures.value
    (omega (arith, n, l, more)) c.copy_pieces.ensures (c.copy_pieces.auto.bytes ∙ c.deref_mut.ensures.len) c.note-then-at-count.ensures

pub returns-clause-runs : goal.returns-clause-runs
returns-clause-runs c =
    let some : c.args.blocks.now.at_work ≡ Some c.in-Some.bytes = sym c.in-Some.ensures.value in
    let n : length c.in-Some.bytes.items ≡ c.in-Some.bytes.len = ap length (sym c.deref_mut.ensures.value) ∙ c.deref_mut.ensures.len in
    let l = c.len-2.ensures in
    let first = c.len.ensures in
    let last = c.if-at-count.false in
    let begins = begins_at c.args.blocks.now c.in-Some.bytes some c.requires.far in
    let d = c.div_ceil.ensures in
    let k = c.min-count.ensures in
    let room = c.requires.some in
    takes_at c.min-count.result c.args.blocks.now c.take-2.new.self c.in-Some.bytes c.deref_mut.result.now c.copy_pieces.new.bytes c.args.ram.now
    c.note_taken.new.events (drop c.min-count.result c.args.events.now)
    (omega (arith, k, d, first, begins, n, room)) some c.deref_mut.ensures.value (omega (arith, k, d, first, begins, n, room)) (omega (arith, n, l, last))
    c.copy_pieces.ensures (c.copy_pieces.auto.bytes ∙ c.deref_mut.ensures.len) c.note_taken.ensures
    (c.take-2.ensures.last ∙ ap (λ (o : Option (Vec ℕ Global)). record c.args.blocks.now {
      at_work = o;
      copied = c.args.blocks.now.copied + c.min-count.result;
      last = with_items c.in-Some.bytes c.copy_pieces.new.bytes;
      spare = c.take-2.new.self.spare;
    }) c.take.ensures.after)
