use Rattle.std.proofs.Common.{◌*◌, length}
use Rattle.base_model.specs.Flash.{raised}
use Rattle.base_model.specs.Layout.{room_of}
use Rattle.record_model.specs.Records.{parts_of}
use Rattle.record_store.proofs.FinishLemmas.{write_made, write_refused, finish_reads}
use Rattle.record_store.proofs.store.Store.write.Goals as goal

pub returns-in-Ok : goal.returns-in-Ok
returns-in-Ok g c =
    let made = write_made g.F.Flash.tells c.args.self.now c.start_write.new.self c.finish.new.self c.args.id c.args.bytes.now _ c.finish.result
    c.in-Ok.ensures.leaves c.in-Ok.ensures.answer c.in-Ok.ensures.slots c.finish.ensures in
    record {
      answer = made.answer;
      placed = made.placed;
      reads = finish_reads (λ (x : Unit {0}). raised (2 * parts_of (room_of c.args.self.now.layout) (length c.args.bytes.now))) c.args.self.now
          c.start_write.new.self c.finish.new.self _ c.finish.result c.in-Ok.ensures.reads c.finish.ensures.error c.finish.ensures.reads;
      leaves = made.leaves;
    }

pub returns-in-Err-clause-leaves : goal.returns-in-Err-clause-leaves
returns-in-Err-clause-leaves g c =
    write_refused g.F.Flash.tells c.args.self.now c.start_write.new.self c.args.id c.args.bytes.now c.in-Err.error c.in-Err.ensures.leaves c.in-Err.ensures.answer
