use Rattle.std.proofs.Common.{refl, rules}
use Rattle.std.specs.VecDeque.{deque_capacity}
use Rattle.record_store.proofs.FreeListLemmas.{joined_at}
use Rattle.record_store.proofs.index.list_free.Goals as goal

pub returns-in-Err : goal.returns-in-Err
returns-in-Err c =
    let joined = joined_at c.args.geometry.now.slots (deque_capacity c.args.found.now.free) c.in-Err.at c.args.slot c.args.found.now.free.items
    c.insert.new.self.items c.insert.result c.requires.free c.requires.within c.requires.room
    c.in-Err.ensures.position (rw c.args.found.now.free.ok.0 at c.insert.ensures.full) c.insert.ensures.items in
    record { gains = joined.gains; free = joined.free; room = search rules; ids = refl; places = refl; looks = refl }
