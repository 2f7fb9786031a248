use Rattle.std.proofs.Common.{◌*◌, refl}
use Rattle.ghes_ack.specs.Maps.{window}
use Rattle.ghes_ack.proofs.WriteLemmas.{piece_is}
use Rattle.ghes_ack.proofs.blocks.reader.copy_pieces.Goals as goal

pub returns : goal.returns
returns c =
    piece_is c.args.bytes.now c.copy.new.out (window c.args.map.now c.args.ram.now) (64 * c.args.piece) (64 * c.args.count) c.min-end.result _ c.min-end.ensures
    c.requires.begins refl c.copy.auto.out c.copy.ensures
