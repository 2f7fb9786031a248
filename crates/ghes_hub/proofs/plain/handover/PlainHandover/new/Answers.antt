use Rattle.std.proofs.Common.{subst, sym}
use Rattle.ghes_ack.specs.declared.ends.Ends.{Ends}
use Rattle.ghes_ack.specs.Machine.{started}
use Rattle.ghes_ack.specs.Sides.{handover_of}
use Rattle.ghes_ack.specs.Windows.{block_bytes}
use Rattle.ghes_hub.specs.Plain.{PlainStands}
use Rattle.ghes_hub.proofs.PlainStart.{begun_stands}
use Rattle.ghes_hub.proofs.plain.handover.PlainHandover.new.Goals as goal

pub returns-clause-stands : goal.returns-clause-stands
returns-clause-stands c =
    subst (λ (ends : Ends). PlainStands (handover_of ends c.in_ok-blocks.blocks) c.begin.new.ram (started (block_bytes c.args.map.window c.args.ram.now))) (sym c.at_start-ends.ensures)
    (begun_stands c.args.map c.in_ok-blocks.blocks c.args.ram.now c.begin.new.ram c.in_ok-blocks.ensures.map c.in_ok-blocks.ensures.empty c.requires c.begin.ensures)
