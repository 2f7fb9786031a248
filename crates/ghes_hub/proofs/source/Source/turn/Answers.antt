use Rattle.std.proofs.Common.{subst, sym}
use Rattle.ghes_ack.specs.Elsewhere.{SameWhere}
use Rattle.ghes_hub.specs.declared.source.Source.{Source}
use Rattle.ghes_hub.specs.Places.{IsOff, layout_windows}
use Rattle.ghes_hub.specs.OneSource.{layout_in, SourceStands}
use Rattle.ghes_hub.proofs.PlainStart.{plain_turn_elsewhere}
use Rattle.ghes_ack.specs.Machine.{Machine}
use Rattle.ghes_hub.proofs.source.Source.turn.Goals as goal

pub returns-in-Plain-clause-elsewhere : goal.returns-in-Plain-clause-elsewhere
returns-in-Plain-clause-elsewhere c =
    let (m, st) = subst (λ (p : Source). ((m : Machine) × SourceStands p c.args.ram.now m)) c.in-Plain.is c.requires in
    subst (λ (p : Source). SameWhere (IsOff (layout_windows (layout_in p))) c.args.ram.now c.turn-in-Plain.new.ram) (sym c.in-Plain.is)
    (plain_turn_elsewhere c.args.side c.turn-in-Plain.result c.in-Plain.handover c.turn-in-Plain.new.self c.args.ram.now c.turn-in-Plain.new.ram m st (c.turn-in-Plain.ensures.turned m st))
