use Rattle.std.proofs.Common.{ℕ, subst}
use Rattle.ghes_ack.specs.Handovers.{AreTurned}
use Rattle.ghes_ack.proofs.handover.Handover.turns.Goals as goal

pub returns-clause-turned : goal.returns-clause-turned
returns-clause-turned c =
    λ m st. subst (λ (n : ℕ). AreTurned c.args.side n c.make_turns.new.events c.make_turns.new.self c.make_turns.new.ram m) c.make_turns.auto.events (c.make_turns.ensures m st).turned

pub returns-clause-memory : goal.returns-clause-memory
returns-clause-memory c = (c.make_turns.ensures c.requires.0 c.requires.1).left

pub returns-clause-elsewhere : goal.returns-clause-elsewhere
returns-clause-elsewhere c = (c.make_turns.ensures c.requires.0 c.requires.1).elsewhere

pub returns-clause-map : goal.returns-clause-map
returns-clause-map c = (c.make_turns.ensures c.requires.0 c.requires.1).map
