use Rattle.std.proofs.Common.{◌*◌, refl}
use Rattle.ghes_ack.specs.Windows.{block_bytes}
use Rattle.ghes_ack.proofs.WriteLemmas.{piece_is}
use Rattle.ghes_ack.proofs.ends.MayRead.copy_piece.Goals as goal

pub returns : goal.returns
returns g c =
    piece_is c.args.bytes.now c.copy.new.out (block_bytes (g.M.HasWindow.window_of c.args.map.now) c.args.ram.now) (64 * c.args.piece) 64 c.min-end.result _
    c.min-end.ensures c.requires.begins refl c.copy.auto.out c.copy.ensures
