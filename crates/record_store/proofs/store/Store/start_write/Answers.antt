use Rattle.std.proofs.Common.{◌*◌, length, subst, ◌∙◌}
use Rattle.std.proofs.lemmas.Result.{on_ok_weaker}
use Rattle.base_model.specs.Flash.{raised}
use Rattle.base_model.specs.Layout.{Layout, room_of}
use Rattle.record_model.specs.Records.{parts_of}
use Rattle.record_store.specs.Answers.{TakesReads}
use Rattle.record_store.proofs.StoreLemmas.{kept_map, starts_then, start_from, same_slots_for, start_reads}
use Rattle.record_store.proofs.store.Store.start_write.Goals as goal

pub returns-clause-answer : goal.returns-clause-answer
returns-clause-answer g c tells =
    let leaves = c.in_ok-settle.ensures.leaves in
    let same = kept_map c.args.self.now c.settle.new.self (leaves.kept tells) leaves.equivalent in
    start_from c.args.self.now c.settle.new.self c.begin_write.new.self c.args.id c.args.bytes.now c.begin_write.result leaves.equivalent.layout same (c.begin_write.ensures.answer tells)

pub returns-clause-leaves : goal.returns-clause-leaves
returns-clause-leaves g c =
    starts_then _ g.F.Flash.tells c.args.self.now c.settle.new.self c.begin_write.new.self _ c.begin_write.result c.in_ok-settle.ensures.leaves c.begin_write.ensures.still c.begin_write.ensures.leaves

pub returns-clause-slots : goal.returns-clause-slots
returns-clause-slots g c =
    on_ok_weaker c.begin_write.result (λ free told.
    same_slots_for c.args.self.now c.begin_write.new.self (length c.args.bytes.now) (c.begin_write.ensures.leaves.equivalent.layout
    ∙ c.in_ok-settle.ensures.leaves.equivalent.layout) (free told ∙ c.in_ok-settle.ensures.free told))
    c.begin_write.ensures.free

pub returns-clause-reads : goal.returns-clause-reads
returns-clause-reads g c =
    subst (λ (l : Layout). TakesReads (λ done. raised (2 * parts_of (room_of l) (length c.args.bytes.now))) c.args.self.now c.begin_write.new.self
    c.begin_write.result) c.in_ok-settle.ensures.leaves.equivalent.layout
    (start_reads g.F.Flash.tells (2 * parts_of (room_of c.settle.new.self.layout) (length c.args.bytes.now)) c.args.self.now c.settle.new.self c.begin_write.new.self _ c.begin_write.result
    c.in_ok-settle.ensures.reads c.begin_write.ensures.still)
