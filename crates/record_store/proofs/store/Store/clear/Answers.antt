use Rattle.std.proofs.Common.{ℕ}
use Rattle.record_store.proofs.FinishLemmas.{clear_made, clear_refused, finish_reads}
use Rattle.record_store.proofs.store.Store.clear.Goals as goal

pub returns-in-Ok : goal.returns-in-Ok
returns-in-Ok g c =
    let made = clear_made g.F.Flash.tells c.args.self.now c.start_clear.new.self c.finish.new.self c.args.id _ c.finish.result c.in-Ok.ensures.leaves c.in-Ok.ensures.answer c.finish.ensures in
    record {
      answer = made.answer;
      reads = finish_reads (λ (x : Unit {0}) (reads : ℕ). reads) c.args.self.now c.start_clear.new.self c.finish.new.self _ c.finish.result
          c.in-Ok.ensures.reads c.finish.ensures.error c.finish.ensures.reads;
      leaves = made.leaves;
    }

pub returns-in-Err-clause-leaves : goal.returns-in-Err-clause-leaves
returns-in-Err-clause-leaves g c =
    clear_refused g.F.Flash.tells c.args.self.now c.start_clear.new.self c.args.id c.in-Err.error c.in-Err.ensures.leaves c.in-Err.ensures.answer
