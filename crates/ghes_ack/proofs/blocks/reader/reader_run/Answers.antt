use Rattle.std.proofs.Common.{take, sym, subst}
use Rattle.ghes_ack.specs.declared.ends.ReaderEnd.{ReaderEnd}
use Rattle.ghes_ack.specs.Handovers.{over}
use Rattle.ghes_ack.specs.OwnTurns.{ReaderRuns}
use Rattle.ghes_ack.proofs.blocks.reader.reader_run.Goals as goal

pub returns-in-Reads-clause-runs : goal.returns-in-Reads-clause-runs
returns-in-Reads-clause-runs c =
    subst (λ (end : ReaderEnd). ReaderRuns end (over c.args.blocks.now c.args.ram.now) (take c.copy_or_clear.result.1 c.copy_or_clear.new.events)
    c.copy_or_clear.result.0 (over c.copy_or_clear.new.blocks c.copy_or_clear.new.ram)) (sym c.in-Reads.is)
    c.copy_or_clear.ensures.runs
