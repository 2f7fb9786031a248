use Rattle.std.proofs.Common.{subst, sym}
use Rattle.ghes_ack.specs.Elsewhere.{SameWhere}
use Rattle.ghes_hub.specs.declared.layouts.Layout.{Layout}
use Rattle.ghes_hub.specs.Layouts.{HasLayout, layout_windows}
use Rattle.ghes_hub.specs.Places.{IsOff}
use Rattle.ghes_hub.proofs.PlainStart.{plain_elsewhere_started}
use Rattle.ghes_hub.proofs.source.Source.new.Goals as goal

pub returns-in_ok-new-in-Plain-clause-elsewhere : goal.returns-in_ok-new-in-Plain-clause-elsewhere
returns-in_ok-new-in-Plain-clause-elsewhere c =
    subst (λ (l : Layout). SameWhere (IsOff (layout_windows l)) c.args.ram.now c.new-in-Plain.new.ram) (sym c.in-Plain.is)
    (plain_elsewhere_started c.in-Plain.map c.args.ram.now c.new-in-Plain.new.ram (subst (λ (l : Layout). HasLayout l c.args.ram.now) c.in-Plain.is c.requires) c.in_ok-new-in-Plain.ensures.memory)
