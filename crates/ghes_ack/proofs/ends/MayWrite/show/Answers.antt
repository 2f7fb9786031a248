use Rattle.std.proofs.Common.{◌≡◌, ◌∙◌, ℕ, List, take, ap, arith}
use Rattle.base_model.specs.Bytes.{spelled}
use Rattle.base_model.proofs.BytesLemmas.{spelled-number_at, AreBytes-each}
use Rattle.ghes_ack.specs.Windows.{block_bytes, with_block}
use Rattle.ghes_ack.proofs.PieceLemmas.{part-front}
use Rattle.ghes_ack.specs.Machine.{with_status}
use Rattle.ghes_ack.proofs.ends.MayWrite.show.Goals as goal

pub returns : goal.returns
returns g c =
    let block = c.args.block.now in
    let at = g.M.HasWindow.window_of c.args.map.now in
    let head = c.requires.head in
    let front : spelled 4 c.get_u32.result ≡ take 4 block = ap (spelled 4) c.get_u32.ensures ∙ spelled-number_at block 0 4
    (AreBytes-each block (λ k. omega (arith, c.type_inv.block k))) (omega (arith, head)) ∙ part-front block 4 in
    let window = c.window.ensures.window in
    let shown = c.show.ensures in
    let seen : c.show.new.ram ≡ with_block at c.args.ram.now (with_status (block_bytes at c.args.ram.now) (spelled 4 c.get_u32.result)) = cc in
    seen ∙ ap (λ (word : List ℕ). with_block at c.args.ram.now (with_status (block_bytes at c.args.ram.now) word)) front
