use Rattle.std.proofs.Common.{◌∙◌, ◌+◌, ap, ℕ, List, length}
use Rattle.base_model.specs.Bytes.{put_at}
use Rattle.apei_tables.specs.declared.registers.Place.TheVariants.{Memory}
use Rattle.ghes_port.specs.declared.accesses.Access.TheVariants.{Write}
use Rattle.ghes_port.specs.Machine.{piece_at}
use Rattle.ghes_port.proofs.SourceLemmas.{piece_is}
use Rattle.ghes_port.proofs.writes.write_piece.Goals as goal

pub returns : goal.returns
returns c =
    let e = piece_is c.args.block.now (piece_at c.args.piece) c.min-end.result c.requires.begins c.min-end.ensures in
    (ap (λ (b : List ℕ). Write (Memory (c.args.at + piece_at c.args.piece)) (length b)) e, c.put_part.ensures ∙ ap (λ (b : List ℕ). put_at c.args.out.now 0 b) e)
