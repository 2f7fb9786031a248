use Rattle.std.proofs.Common.{sym, subst}
use Rattle.ghes_ack.specs.declared.ends.FirmwareEnd.{FirmwareEnd}
use Rattle.ghes_ack.specs.Handovers.{over}
use Rattle.ghes_hub.specs.PlainSides.{FirmwareTurns}
use Rattle.ghes_hub.proofs.plain.firmware.firmware_turn.Goals as goal

pub returns-in-Writes : goal.returns-in-Writes
returns-in-Writes c =
    subst (λ (end : FirmwareEnd). FirmwareTurns end (over c.args.blocks.now c.args.ram.now) c.fill_or_publish.result.1 c.fill_or_publish.result.0
    (over c.fill_or_publish.new.blocks c.fill_or_publish.new.ram)) (sym c.in-Writes.is)
    (c.fill_or_publish.ensures.sound, c.fill_or_publish.ensures.makes)
