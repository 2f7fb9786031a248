use Rattle.std.proofs.Common.{◌≡◌, ◌∙◌, ℕ, ◌+◌, ◌-◌, ◌*◌, ◌<◌, min, List, length, take, drop, sym, ap, arith}
use Rattle.base_model.specs.Bytes.{part, put_at}
use Rattle.apei_space.specs.RamState.{RamState}
use Rattle.ghes_ack.specs.declared.window.BlockWindow.{BlockWindow}
use Rattle.ghes_ack.specs.Pieces.{with_piece}
use Rattle.ghes_ack.specs.Windows.{with_block, block_bytes}
use Rattle.ghes_ack.proofs.WriteLemmas.{filled_behind}
use Rattle.ghes_ack.proofs.window.BlockWindow.fill.Goals as goal

filled : (at : BlockWindow) (ram new : RamState) (block : List ℕ) (piece end : ℕ) → (piece ≡ 0 → ⊥) → 64 * piece < length block → end ≡ min (length block) (64 * piece + 64) →
    new ≡ with_block at ram (put_at (block_bytes at ram) (64 * piece) (take (end - 64 * piece) (drop (64 * piece) block))) → new ≡ with_block at ram (with_piece (block_bytes at ram) block piece)
unfolding part
filled at ram new block piece end not_0 more is_end is =
    filled_behind at ram new block (take (end - 64 * piece) (drop (64 * piece) block)) piece (grind arith) more (ap (λ (e : ℕ). take (e - 64 * piece) (drop (64 * piece) block)) is_end) is

pub returns-then-piece-eq0 : goal.returns-then-piece-eq0
returns-then-piece-eq0 c = c.write_first.ensures
    ∙ ap (λ (k : ℕ). with_block c.args.self.now c.args.ram.now (with_piece (block_bytes c.args.self.now c.args.ram.now) c.args.block.now k))
    (sym c.if-piece-eq0.true)

pub returns-else-piece-eq0 : goal.returns-else-piece-eq0
returns-else-piece-eq0 c = filled c.args.self.now c.args.ram.now c.write_part.new.ram c.args.block.now c.args.piece c.min-end.result c.if-piece-eq0.false
    c.requires.begins c.min-end.ensures c.write_part.ensures
