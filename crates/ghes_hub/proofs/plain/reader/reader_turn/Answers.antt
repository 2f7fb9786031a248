use Rattle.std.proofs.Common.{sym, subst}
use Rattle.ghes_ack.specs.declared.ends.ReaderEnd.{ReaderEnd}
use Rattle.ghes_ack.specs.Handovers.{over}
use Rattle.ghes_hub.specs.PlainSides.{ReaderTurns}
use Rattle.ghes_hub.proofs.plain.reader.reader_turn.Goals as goal

pub returns-in-Reads : goal.returns-in-Reads
returns-in-Reads c =
    subst (λ (end : ReaderEnd). ReaderTurns end (over c.args.blocks.now c.args.ram.now) c.copy_or_clear.result.1 c.copy_or_clear.result.0
    (over c.copy_or_clear.new.blocks c.copy_or_clear.new.ram)) (sym c.in-Reads.is)
    (c.copy_or_clear.ensures.sound, c.copy_or_clear.ensures.makes)
