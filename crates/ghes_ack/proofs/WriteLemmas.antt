-- Writes and reads of pieces.
use Rattle.std.proofs.Common.{◌≡◌, ◌∙◌, ℕ, suc, ◌+◌, ◌-◌, ◌*◌, ◌<◌, ◌≤◌, min, List, ◌++◌, length, take, drop, refl, sym, ap, subst, arith, append_assoc, length-append}
use Rattle.std.proofs.lemmas.List.{take_at, drop-drop, length-take, length-drop}
use Rattle.base_model.specs.Bytes.{part, spelled, put_at}
use Rattle.base_model.proofs.BytesLemmas.{length-spelled, part-append, SameOutside-put_at}
use Rattle.apei_space.specs.RamState.{RamState}
use Rattle.apei_tables.specs.declared.registers.Place.TheVariants.{Memory}
use Rattle.ghes_ack.specs.declared.window.BlockWindow.{BlockWindow}
use Rattle.ghes_ack.specs.Pieces.{zeros, hidden, with_piece, with_pieces}
use Rattle.ghes_ack.specs.Windows.{HasBlock, block_bytes, with_block}
use Rattle.ghes_ack.proofs.PieceLemmas.{length-hidden, hidden_behind, hidden_start, part_min, length-part-min}
use Rattle.ghes_ack.proofs.PlacedLemmas.{stored_placed, fits_in}
use Rattle.ghes_ack.proofs.WindowLemmas.{block_placed, length-block, block-with_block, length-status}

-- the later of two writes at one place stays
put_twice : (bytes : List ℕ) (at : ℕ) (x y : List ℕ) → at + length x ≤ length bytes → length y ≡ length x → put_at (put_at bytes at x) at y ≡ put_at bytes at y
unfolding put_at
put_twice bytes at x y fits same =
    let s = SameOutside-put_at bytes at x fits in
    let after : drop (at + length y) (put_at bytes at x) ≡ drop (at + length y) bytes = subst (λ (k : ℕ). drop (at + k) (put_at bytes at x) ≡ drop (at + k) bytes) (sym same) s.after in
    ap (λ (xs : List ℕ). xs ++ y ++ drop (at + length y) (put_at bytes at x)) s.before
    ∙ ap (λ (xs : List ℕ). take at bytes ++ y ++ xs) after

-- two writes one behind the other are one
put_next : (bytes : List ℕ) (at : ℕ) (x y : List ℕ) → at + length x ≤ length bytes → put_at (put_at bytes at x) (at + length x) y ≡ put_at bytes at (x ++ y)
unfolding put_at
put_next bytes at x y fits =
    let s = SameOutside-put_at bytes at x fits in
    let n = length-append (take at bytes) x in
    let l = length-take at bytes in
    let front : take (at + length x) (put_at bytes at x) ≡ take at bytes ++ x = take_at (take at bytes ++ x) (drop (at + length x) bytes) (at + length x) (omega (arith, n, l, fits)) in
    let m = length-append x y in
    let back : drop (at + length x + length y) (put_at bytes at x) ≡ drop (at + length (x ++ y)) bytes =
    sym (drop-drop (length y) (at + length x) (put_at bytes at x)) ∙ ap (drop (length y)) s.after ∙ drop-drop (length y) (at + length x) bytes
    ∙ ap (λ (k : ℕ). drop k bytes) (omega (arith, m)) in
    ap (λ (xs : List ℕ). xs ++ y ++ drop (at + length x + length y) (put_at bytes at x)) front
    ∙ ap (λ (xs : List ℕ). take at bytes ++ x ++ y ++ xs) back
    ∙ ap (λ (xs : List ℕ). xs ++ drop (at + length (x ++ y)) bytes) (append_assoc (take at bytes) x y)

-- the later of two writes of the window stays
pub block_twice : (at : BlockWindow) (ram : RamState) (x y : List ℕ) → HasBlock at ram → length x ≡ at.len → length y ≡ at.len → with_block at (with_block at ram x) y ≡ with_block at ram y
block_twice at ram x y w nx ny =
    let b = block_placed at ram w in
    let fits = fits_in ram (Memory at.block) at.len b.0 w.fills b.1 in
    ap (λ (r : RamState). with_block at r y) (stored_placed ram (Memory at.block) at.len b.0 x b.1)
    ∙ stored_placed (record ram { bytes = put_at ram.bytes b.0 x }) (Memory at.block) at.len b.0 y b.1
    ∙ ap (λ (xs : List ℕ). record ram { bytes = xs }) (put_twice ram.bytes b.0 x y (omega (arith, nx, fits)) (ny ∙ sym nx))
    ∙ sym (stored_placed ram (Memory at.block) at.len b.0 y b.1)

pub length-with_pieces : (w block : List ℕ) (k n : ℕ) → length block ≤ length w → 64 * k < length block → length (with_pieces w block k n) ≡ length w
unfolding put_at
length-with_pieces w block k n fits more =
    let h = length-hidden block in
    let l = length-part-min (hidden block) (64 * k) (64 * n) in
    let a = length-append (take (64 * k) w ++ part (hidden block) (64 * k) (64 * n)) (drop (64 * k + length (part (hidden block) (64 * k) (64 * n))) w) in
    long w (64 * k) (part (hidden block) (64 * k) (64 * n)) (omega (arith, h, l, fits, more)) where
      long : (bytes : List ℕ) (at : ℕ) (others : List ℕ) → at + length others ≤ length bytes → length (put_at bytes at others) ≡ length bytes
      long bytes at others le = (SameOutside-put_at bytes at others le).same_length

-- a piece and those behind it
pub pieces_next : (w block : List ℕ) (k n : ℕ) → length block ≤ length w → 64 * (k + 1) < length block → with_pieces (with_piece w block k) block (k + 1) n ≡ with_pieces w block k (suc n)
pieces_next w block k n fits more =
    let h = length-hidden block in
    let x = part (hidden block) (64 * k) 64 in
    let y = part (hidden block) (64 * (k + 1)) (64 * n) in
    let l : length (part (hidden block) (64 * k) 64) ≡ 64 = length-part-min (hidden block) (64 * k) 64 ∙ omega (arith, h, more) in
    let at : 64 * (k + 1) ≡ 64 * k + length (part (hidden block) (64 * k) 64) = omega (arith, l) in
    let behind : 64 * (k + 1) ≡ 64 * k + 64 = omega arith in
    let count : 64 + 64 * n ≡ 64 * suc n = omega arith in
    ap (λ (i : ℕ). put_at (with_piece w block k) i (part (hidden block) (64 * (k + 1)) (64 * n))) at
    ∙ put_next w (64 * k) (part (hidden block) (64 * k) 64) (part (hidden block) (64 * (k + 1)) (64 * n)) (omega (arith, l, fits, more))
    ∙ ap (λ (i : ℕ). put_at w (64 * k) (part (hidden block) (64 * k) 64 ++ part (hidden block) i (64 * n))) behind
    ∙ ap (put_at w (64 * k)) (part-append (hidden block) (64 * k) 64 (64 * n) ∙ ap (part (hidden block) (64 * k)) count)

-- the first pieces: the status word, and what is behind it
zeros_spelled : spelled 4 0 ≡ zeros 4
unfolding spelled
zeros_spelled = refl

pub filled_start : (at : BlockWindow) (ram hid new : RamState) (block bytes : List ℕ) (count end : ℕ) → HasBlock at ram → 20 ≤ length block →
    length block ≤ at.len → 0 < count → end ≡ min (length block) (64 * count) → bytes ≡ part block 4 (end - 4) →
    hid ≡ with_block at ram (put_at (block_bytes at ram) 0 (spelled 4 0)) → new ≡ with_block at hid (put_at (block_bytes at hid) 4 bytes) →
    new ≡ with_block at ram (with_pieces (block_bytes at ram) block 0 count)
filled_start at ram hid new block bytes count end w head fits some is_end is_bytes is_hid is =
    let four = length-spelled 4 0 in
    let n = length-block at ram w in
    let wide : length (put_at (block_bytes at ram) 0 (spelled 4 0)) ≡ at.len = length-status at ram (spelled 4 0) four w in
    let shown : block_bytes at hid ≡ put_at (block_bytes at ram) 0 (spelled 4 0) = ap (block_bytes at) is_hid ∙ block-with_block at ram (put_at (block_bytes at ram) 0 (spelled 4 0)) w wide in
    let behind : 4 ≡ 0 + length (spelled 4 0) = omega (arith, four) in
    let whole : spelled 4 0 ++ bytes ≡ part (hidden block) 0 (64 * count) =
    ap (λ (x : List ℕ). spelled 4 0 ++ x) is_bytes ∙ ap (λ (x : List ℕ). x ++ part block 4 (end - 4)) zeros_spelled
    ∙ hidden_start block (64 * count) end 4 (omega (arith, some)) is_end (omega (arith, is_end, head, some)) in
    let joined : put_at (put_at (block_bytes at ram) 0 (spelled 4 0)) 4 bytes ≡ with_pieces (block_bytes at ram) block 0 count =
    ap (λ (i : ℕ). put_at (put_at (block_bytes at ram) 0 (spelled 4 0)) i bytes) behind
    ∙ put_next (block_bytes at ram) 0 (spelled 4 0) bytes (omega (arith, four, n, head, fits))
    ∙ ap (put_at (block_bytes at ram) 0) whole in
    let long : length (with_pieces (block_bytes at ram) block 0 count) ≡ at.len = length-with_pieces (block_bytes at ram) block 0 count (omega (arith, n, fits)) (omega (arith, head)) ∙ n in
    is
    ∙ ap (λ (x : List ℕ). with_block at hid (put_at x 4 bytes)) shown
    ∙ ap (with_block at hid) joined
    ∙ ap (λ (r : RamState). with_block at r (with_pieces (block_bytes at ram) block 0 count)) is_hid
    ∙ block_twice at ram (put_at (block_bytes at ram) 0 (spelled 4 0)) (with_pieces (block_bytes at ram) block 0 count) w wide long

-- pieces behind the first
pub filled_on : (at : BlockWindow) (ram new : RamState) (block bytes : List ℕ) (piece count end : ℕ) → 0 < piece → 64 * piece < length block →
    end ≡ min (length block) (64 * piece + 64 * count) → bytes ≡ part block (64 * piece) (end - 64 * piece) →
    new ≡ with_block at ram (put_at (block_bytes at ram) (64 * piece) bytes) → new ≡ with_block at ram (with_pieces (block_bytes at ram) block piece count)
filled_on at ram new block bytes piece count end some more is_end is_bytes is =
    let n = length-hidden block in
    let whole : bytes ≡ part (hidden block) (64 * piece) (64 * count) =
    is_bytes ∙ sym (hidden_behind block (64 * piece) (end - 64 * piece) (omega (arith, some)) (omega (arith, more)))
    ∙ part_min (hidden block) (64 * piece) (end - 64 * piece) (64 * count) (omega (arith, n, more, is_end)) in
    is ∙ ap (λ (x : List ℕ). with_block at ram (put_at (block_bytes at ram) (64 * piece) x)) whole

-- a piece
pub filled_behind : (at : BlockWindow) (ram new : RamState) (block bytes : List ℕ) (piece : ℕ) → 0 < piece → 64 * piece < length block →
    bytes ≡ part block (64 * piece) (min (length block) (64 * piece + 64) - 64 * piece) →
    new ≡ with_block at ram (put_at (block_bytes at ram) (64 * piece) bytes) → new ≡ with_block at ram (with_piece (block_bytes at ram) block piece)
filled_behind at ram new block bytes piece some more e is =
    let n = length-hidden block in
    let whole : bytes ≡ part (hidden block) (64 * piece) 64 =
    e ∙ sym (hidden_behind block (64 * piece) (min (length block) (64 * piece + 64) - 64 * piece) (omega (arith, some)) (omega (arith, more)))
    ∙ part_min (hidden block) (64 * piece) (min (length block) (64 * piece + 64) - 64 * piece) 64 (omega (arith, n, more)) in
    is ∙ ap (λ (x : List ℕ). with_block at ram (put_at (block_bytes at ram) (64 * piece) x)) whole

-- a write in the middle of a list
pub mid_is : (old others : List ℕ) (at n : ℕ) → length others ≡ n → take at old ++ (others ++ drop n (drop at old)) ≡ put_at old at others
unfolding put_at
mid_is old others at n is =
    ap (λ (i : ℕ). take at old ++ (others ++ drop i (drop at old))) (sym is)
    ∙ ap (λ (zs : List ℕ). take at old ++ (others ++ zs)) (drop-drop (length others) at old)
    ∙ sym (append_assoc (take at old) others (drop (at + length others) old))

-- bytes of the window in the middle of others
pub piece_is : (bytes out w : List ℕ) (at p end len : ℕ) → end ≡ min (length bytes) (at + p) → at < length bytes →
    len ≡ length (take (end - at) (drop at bytes)) → length out ≡ len → out ≡ part w at len →
    take at bytes ++ (out ++ drop (end - at) (drop at bytes)) ≡ put_at bytes at (part w at (min p (length bytes - at)))
piece_is bytes out w at p end len is_end more is_len is_out is =
    let l = is_len ∙ length-take (end - at) (drop at bytes) in
    let d = length-drop at bytes in
    let n : len ≡ min p (length bytes - at) = omega (arith, l, d, is_end, more) in
    mid_is bytes out at (end - at) (omega (arith, is_out, l, d, is_end, more)) ∙ ap (put_at bytes at) (is ∙ ap (part w at) n)
