use Rattle.std.proofs.Common.{sym, subst}
use Rattle.ghes_ack.specs.Elsewhere.{SameWhere, IsOffMap}
use Rattle.ghes_ack.specs.Machine.{started}
use Rattle.ghes_ack.specs.Maps.{window}
use Rattle.ghes_ack.specs.Handovers.{StandsFor}
use Rattle.ghes_ack.specs.declared.ends.Ends.{Ends}
use Rattle.ghes_ack.specs.Sides.{handover_of}
use Rattle.ghes_ack.proofs.ElsewhereLemmas.{elsewhere_started}
use Rattle.ghes_ack.proofs.StartLemmas.{begun}
use Rattle.ghes_ack.proofs.handover.Handover.new.Goals as goal

pub returns-clause-stands : goal.returns-clause-stands
returns-clause-stands c =
    subst (λ (ends : Ends). StandsFor (handover_of ends c.in_ok-blocks.blocks) c.begin_with_register.new.ram (started (window c.args.map c.args.ram.now))) (sym c.at_start-ends.ensures)
    (begun c.args.map c.in_ok-blocks.blocks c.args.ram.now c.begin_with_register.new.ram c.in_ok-blocks.ensures.map c.in_ok-blocks.ensures.empty c.requires.windows c.begin_with_register.ensures.memory
    (c.begin_with_register.ensures.set c.requires.bits)).stands

pub returns-clause-elsewhere : goal.returns-clause-elsewhere
returns-clause-elsewhere c = subst (SameWhere (IsOffMap c.args.map) c.args.ram.now) (sym c.begin_with_register.ensures.memory) (elsewhere_started c.args.map c.args.ram.now c.requires.windows)
