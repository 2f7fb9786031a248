use Rattle.ghes_ack.proofs.BothSides.{able_in_place, turned_in_place, consistent_in_place}
use Rattle.ghes_ack.proofs.handover.Handover.move_piece.Goals as goal

pub piece_turn-requires : goal.piece_turn-requires
piece_turn-requires c = able_in_place c.args.side c.self.inside.ends c.in-Some.ends c.self.inside.blocks c.args.self.now c.args.ram.now c.in-Some.is c.self.invariant c.self.view_is c.requires

pub returns-in-Some : goal.returns-in-Some
returns-in-Some c =
    turned_in_place c.args.side c.self.inside.ends c.in-Some.ends c.self.inside.blocks c.args.self.now c.args.ram.now c.in-Some.is c.self.invariant c.self.view_is c.requires
    c.piece_turn.new.blocks c.piece_turn.new.ram c.piece_turn.ensures.room c.piece_turn.result c.piece_turn.ensures.runs

pub invariant_of-self : goal.invariant_of-self
invariant_of-self c =
    consistent_in_place c.args.side c.self.inside.ends c.in-Some.ends c.self.inside.blocks c.args.self.now c.args.ram.now c.in-Some.is c.self.invariant c.self.view_is c.requires
    c.piece_turn.new.blocks c.piece_turn.new.ram c.piece_turn.ensures.room c.piece_turn.result c.piece_turn.ensures.runs
