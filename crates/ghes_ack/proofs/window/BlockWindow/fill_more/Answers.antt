use Rattle.std.proofs.Common.{◌≡◌, ◌∙◌, ℕ, ◌+◌, ◌-◌, ◌*◌, ◌<◌, ◌≤◌, min, List, length, take, drop, refl, sym, ap, arith}
use Rattle.base_model.specs.Bytes.{part, spelled, put_at}
use Rattle.base_model.proofs.BytesLemmas.{length-spelled}
use Rattle.apei_space.specs.RamState.{RamState}
use Rattle.ghes_ack.specs.declared.window.BlockWindow.{BlockWindow}
use Rattle.ghes_ack.specs.Pieces.{with_pieces, with_status}
use Rattle.ghes_ack.specs.Windows.{HasBlock, with_block, block_bytes}
use Rattle.ghes_ack.proofs.WindowLemmas.{HasBlock-with_block, length-status}
use Rattle.ghes_ack.proofs.WriteLemmas.{filled_start, filled_on}
use Rattle.ghes_ack.proofs.window.BlockWindow.fill_more.Goals as goal

pub write_part-requires-clause-block : goal.write_part-requires-clause-block
write_part-requires-clause-block c =
    HasBlock-with_block c.args.self.now c.args.ram.now c.show.new.ram (with_status (block_bytes c.args.self.now c.args.ram.now) (spelled 4 0)) c.show.ensures
    (length-status c.args.self.now c.args.ram.now (spelled 4 0) (length-spelled 4 0) c.requires.block) c.requires.block

start : (at : BlockWindow) (ram hid new : RamState) (block : List ℕ) (piece count end : ℕ) → piece ≡ 0 → HasBlock at ram → 20 ≤ length block →
    length block ≤ at.len → 0 < count → end ≡ min (length block) (64 * piece + 64 * count) →
    hid ≡ with_block at ram (with_status (block_bytes at ram) (spelled 4 0)) →
    new ≡ with_block at hid (put_at (block_bytes at hid) 4 (take (end - 4) (drop 4 block))) →
    new ≡ with_block at ram (with_pieces (block_bytes at ram) block piece count)
unfolding part
start at ram hid new block piece count end zero w head fits some is_end is_hid is =
    filled_start at ram hid new block (take (end - 4) (drop 4 block)) count end w head fits some (omega (arith, is_end, zero)) refl is_hid is
    ∙ ap (λ (k : ℕ). with_block at ram (with_pieces (block_bytes at ram) block k count)) (sym zero)

pub returns-then-piece-eq0 : goal.returns-then-piece-eq0
returns-then-piece-eq0 c =
    start c.args.self.now c.args.ram.now c.show.new.ram c.write_part.new.ram c.args.block.now c.args.piece c.args.count c.min-end.result c.if-piece-eq0.true
    c.requires.block c.requires.head c.requires.fits c.requires.some c.min-end.ensures c.show.ensures c.write_part.ensures

on : (at : BlockWindow) (ram new : RamState) (block : List ℕ) (piece count end : ℕ) → (piece ≡ 0 → ⊥) → 64 * piece < length block → end ≡ min (length block) (64 * piece + 64 * count) →
    new ≡ with_block at ram (put_at (block_bytes at ram) (64 * piece) (take (end - 64 * piece) (drop (64 * piece) block))) →
    new ≡ with_block at ram (with_pieces (block_bytes at ram) block piece count)
unfolding part
on at ram new block piece count end not_0 more is_end is =
    filled_on at ram new block (take (end - 64 * piece) (drop (64 * piece) block)) piece count end (grind arith) more is_end refl is

pub returns-else-piece-eq0 : goal.returns-else-piece-eq0
returns-else-piece-eq0 c =
    on c.args.self.now c.args.ram.now c.write_part-else-piece-eq0.new.ram c.args.block.now c.args.piece c.args.count c.min-end.result c.if-piece-eq0.false
    c.requires.begins c.min-end.ensures c.write_part-else-piece-eq0.ensures
