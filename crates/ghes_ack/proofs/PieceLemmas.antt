-- What writes into the window leave in it.
use Rattle.std.proofs.Common.{◌≡◌, ℕ, ◌+◌, ◌-◌, ◌*◌, ◌<◌, ◌≤◌, ◌⊎◌, zero-add, inl, inr, min, List, ◌++◌, length, take, drop, refl, sym, ap, ◌∙◌, arith, append_assoc, length-append, length-drop}
use Rattle.std.proofs.lemmas.List.{take-take, take_all, take_at, drop_at, drop-append-le, take-append-drop, length-take, length-replicate, drop-drop, drop-take, take_min}
use Rattle.std.proofs.Math.Seq.{take-append-add}
use Rattle.std.proofs.lemmas.Bool.{cases_lt}
use Rattle.base_model.specs.Bytes.{part, little, number_at, spelled, put_at}
use Rattle.base_model.proofs.BytesLemmas.{length-spelled, little-spelled, part-append, part-part, part-put_at, number_at-part, part-append_right, length-put_at}
use Rattle.ghes_ack.specs.Pieces.{pieces, zeros, hidden, with_piece, with_status}

pub part-front : (w : List ℕ) (n : ℕ) → part w 0 n ≡ take n w
unfolding part
part-front w n = refl

length-zeros : (n : ℕ) → length (zeros n) ≡ n
length-zeros n = length-replicate {A = ℕ} n 0

pub length-hidden : (block : List ℕ) → length (hidden block) ≡ length block
length-hidden block =
    let a = length-append (zeros (min 4 (length block))) (drop 4 block) in
    let b = length-zeros (min 4 (length block)) in
    let c = length-drop 4 block in
    omega (arith, a, b, c)

pub take_part : (h : List ℕ) (a p : ℕ) → take a h ++ part h a p ≡ take (a + p) h
take_part h a p =
    let z : 0 + a ≡ a = zero-add a in
    ap (λ (x : List ℕ). x ++ part h a p) (sym (part-front h a))
    ∙ ap (λ (i : ℕ). part h 0 a ++ part h i p) (sym z)
    ∙ part-append h 0 a p
    ∙ part-front h (a + p)

-- the next p bytes of h go to their place
pub next_bytes : (w h : List ℕ) (a p : ℕ) → a ≤ length h → length h ≤ length w → take a (take (length h) w) ≡ take a h →
    take (a + p) (take (length h) (put_at w a (part h a p))) ≡ take (a + p) h
unfolding put_at
next_bytes w h a p le room front =
    let before : take a w ≡ take a h = sym (take-take a (length h) w le) ∙ front in
    let joins : take a h ++ part h a p ≡ take (a + p) h =
    take_part h a p in
    let all : put_at w a (part h a p) ≡ take (a + p) h ++ drop (a + length (part h a p)) w =
    ap (λ (x : List ℕ). x ++ part h a p ++ drop (a + length (part h a p)) w) before
    ∙ ap (λ (x : List ℕ). x ++ drop (a + length (part h a p)) w) joins in
    rw all (go (drop (a + length (part h a p)) w)) where
      go : (rest : List ℕ) → take (a + p) (take (length h) (take (a + p) h ++ rest)) ≡ take (a + p) h
      go rest = elim (cases_lt (length h) (a + p)) [
        | inl short ↦
            let e : take (a + p) h ≡ h = take_all (a + p) h (omega arith) in
            rw e (ap (take (a + p)) (take_at h rest (length h) refl) ∙ e)
        | inr fits ↦
            let n : length (take (a + p) h) ≡ a + p = length-take (a + p) h ∙ omega arith in
            take-take (a + p) (length h) (take (a + p) h ++ rest) fits ∙ take_at (take (a + p) h) rest (a + p) n
      ]

-- the zeros in the place of the status word
zeros_long : (block : List ℕ) → 4 ≤ length block → length (zeros (min 4 (length block))) ≡ 4
zeros_long block h = length-zeros (min 4 (length block)) ∙ omega arith

pub drop-hidden : (block : List ℕ) → 4 ≤ length block → drop 4 (hidden block) ≡ drop 4 block
drop-hidden block h = drop_at (zeros (min 4 (length block))) (drop 4 block) 4 (zeros_long block h)

-- the status word goes to the front last
pub published_whole : (w block : List ℕ) → 4 ≤ length block → take (length block) w ≡ hidden block →
    take (length block) (with_status w (take 4 block)) ≡ block
unfolding put_at
published_whole w block h filled =
    let n4 : length (take 4 block) ≡ 4 = length-take 4 block ∙ omega arith in
    let split : w ≡ hidden block ++ drop (length block) w = sym (take-append-drop (length block) w) ∙ ap (λ (x : List ℕ). x ++ drop (length block) w) filled in
    let k : 4 ≤ length (hidden block) = rw (length-hidden block) h in
    let rest : drop 4 w ≡ drop 4 block ++ drop (length block) w =
    ap (drop 4) split
    ∙ drop-append-le 4 (hidden block) (drop (length block) w) k
    ∙ ap (λ (x : List ℕ). x ++ drop (length block) w) (drop-hidden block h) in
    let at : 0 + length (take 4 block) ≡ 4 = omega (arith, n4) in
    let is : with_status w (take 4 block) ≡ block ++ drop (length block) w =
    ap (λ (i : ℕ). take 4 block ++ drop i w) at
    ∙ ap (λ (x : List ℕ). take 4 block ++ x) rest
    ∙ sym (append_assoc (take 4 block) (drop 4 block) (drop (length block) w))
    ∙ ap (λ (x : List ℕ). x ++ drop (length block) w) (take-append-drop 4 block) in
    ap (take (length block)) is ∙ take_at block (drop (length block) w) (length block) refl

pub number_at-take : (w : List ℕ) (n : ℕ) → 4 ≤ n → number_at (take n w) 0 4 ≡ number_at w 0 4
number_at-take w n h = ap (λ (x : List ℕ). number_at x 0 4) (sym (part-front w n)) ∙ number_at-part w 0 n 0 4 h

pub status-put : (w word : List ℕ) → length word ≡ 4 → 4 ≤ length w → number_at (with_status w word) 0 4 ≡ little word
unfolding number_at
status-put w word n room =
    let p = part-put_at w 0 word (omega (arith, n)) in
    ap little (ap (part (put_at w 0 word) 0) (sym n) ∙ p)

pub status-cleared : (w : List ℕ) → 4 ≤ length w → number_at (with_status w (spelled 4 0)) 0 4 ≡ 0
status-cleared w room = status-put w (spelled 4 0) (length-spelled 4 0) room ∙ little-spelled 4 0 (omega arith)

pub status-hidden : (block : List ℕ) → 4 ≤ length block → number_at (hidden block) 0 4 ≡ 0
unfolding number_at part
status-hidden block h = let e : min 4 (length block) ≡ 4 = omega arith in rw e refl

-- the copies so far, and the next one
pub next_copied : (w block : List ℕ) (a : ℕ) → take (length block) w ≡ block → a ≤ length block →
    take a block ++ part w a (min 64 (length block - a)) ≡ take (a + 64) block
next_copied w block a whole le =
    let inside : part w a (min 64 (length block - a)) ≡ part block a (min 64 (length block - a)) =
    ap (λ (i : ℕ). part w i (min 64 (length block - a))) (sym (zero-add a))
    ∙ sym (part-part w 0 (length block) a (min 64 (length block - a)) (omega arith))
    ∙ ap (λ (x : List ℕ). part x a (min 64 (length block - a))) (part-front w (length block) ∙ whole) in
    let joins : take a block ++ part block a (min 64 (length block - a)) ≡ take (a + min 64 (length block - a)) block =
    take_part block a (min 64 (length block - a)) in
    ap (λ (x : List ℕ). take a block ++ x) inside ∙ joins ∙ go (cases_lt (length block) (a + 64)) where
      go : (length block < a + 64) ⊎ (a + 64 ≤ length block) → take (a + min 64 (length block - a)) block ≡ take (a + 64) block
      go (inl short) = take_all (a + min 64 (length block - a)) block (omega arith) ∙ sym (take_all (a + 64) block (omega arith))
      go (inr fits) = let e : a + min 64 (length block - a) ≡ a + 64 = omega arith in ap (λ (n : ℕ). take n block) e

pub length-part-min : (w : List ℕ) (a p : ℕ) → length (part w a p) ≡ min p (length w - a)
unfolding part
length-part-min w a p = length-take p (drop a w) ∙ ap (min p) (length-drop a w)

-- a part is cut where the bytes end
pub part_min : (bytes : List ℕ) (at n p : ℕ) → n ≡ min p (length bytes - at) → part bytes at n ≡ part bytes at p
unfolding part
part_min bytes at n p is =
    ap (λ (k : ℕ). take k (drop at bytes)) (is ∙ ap (min p) (sym (length-drop at bytes))) ∙ take_min p (drop at bytes)

-- the bytes stay as many
pub length-with_piece : (w block : List ℕ) (k : ℕ) → length block ≤ length w → k < pieces block → length (with_piece w block k) ≡ length w
length-with_piece w block k fits more =
    let n = length-hidden block in
    let l = length-part-min (hidden block) (64 * k) 64 in
    length-put_at w (64 * k) (part (hidden block) (64 * k) 64) (omega (arith, n, l, fits, more))

pub length-with_status : (w word : List ℕ) → length word ≡ 4 → 4 ≤ length w → length (with_status w word) ≡ length w
length-with_status w word n room = length-put_at w 0 word (omega (arith, n, room))

-- a piece behind the status word
pub hidden_behind : (block : List ℕ) (at n : ℕ) → 4 ≤ at → at ≤ length block → part (hidden block) at n ≡ part block at n
unfolding part
hidden_behind block at n four le =
    let z4 = zeros_long block (omega arith) in
    let sum : 4 + (at - 4) ≡ at = omega (arith, four) in
    part-append_right (zeros (min 4 (length block))) (drop 4 block) at (at - 4) n (omega (arith, z4, four))
    ∙ ap (take n) (drop-drop (at - 4) 4 block ∙ ap (λ (k : ℕ). drop k block) sum)

-- the first bytes: zeros in the place of the status word, and the bytes behind it
pub hidden_start : (block : List ℕ) (p end word : ℕ) → 4 ≤ p → end ≡ min (length block) p → word ≡ min end 4 →
    zeros word ++ part block word (end - word) ≡ part (hidden block) 0 p
unfolding part
hidden_start block p end word four is_end is_word =
    let same : word ≡ min 4 (length block) = omega (arith, four, is_end, is_word) in
    let n = length-hidden block in
    let all : end ≡ min p (length (hidden block)) = omega (arith, n, is_end) in
    let long : length (zeros (min 4 (length block))) ≡ word = length-zeros (min 4 (length block)) ∙ sym same in
    let sum : length (zeros (min 4 (length block))) + (end - word) ≡ end = omega (arith, long, is_word) in
    ap (λ (k : ℕ). zeros k ++ take (end - word) (drop word block)) same
    ∙ ap (λ (x : List ℕ). zeros (min 4 (length block)) ++ x) (behind (cases_lt (length block) 4))
    ∙ sym (take-append-add (zeros (min 4 (length block))) (drop 4 block) (end - word))
    ∙ ap (λ (k : ℕ). take k (hidden block)) (sum ∙ all)
    ∙ take_min p (hidden block) where
      behind : (length block < 4) ⊎ (4 ≤ length block) → take (end - word) (drop word block) ≡ take (end - word) (drop 4 block)
      behind (inl short) = let none : end - word ≡ 0 = omega (arith, four, is_end, is_word) in rw none refl
      behind (inr long) = let four : word ≡ 4 = omega (arith, four, is_end, is_word) in ap (λ (k : ℕ). take (end - word) (drop k block)) four

pub hidden_front : (block : List ℕ) (end word : ℕ) → end ≡ min (length block) 64 → word ≡ min end 4 →
    zeros word ++ part block word (end - word) ≡ part (hidden block) 0 64
hidden_front block end word is_end is_word = hidden_start block 64 end word (omega arith) is_end is_word

-- a copy of the first piece, with zeros over the status word
pub hidden_copy : (block copy low : List ℕ) (end word : ℕ) → end ≡ min (length block) 64 → word ≡ min end 4 → copy ≡ take end block → low ≡ zeros (length (take word copy)) →
    low ++ drop word copy ≡ part (hidden block) 0 64
unfolding part
hidden_copy block copy low end word is_end is_word is_copy is_low =
    let n : length copy ≡ end = ap length is_copy ∙ length-take end block ∙ omega (arith, is_end) in
    let l : length (take word copy) ≡ word = length-take word copy ∙ omega (arith, n, is_word) in
    let sum : word + (end - word) ≡ end = omega (arith, is_word) in
    let back : drop word copy ≡ take (end - word) (drop word block) =
    ap (drop word) is_copy ∙ ap (λ (k : ℕ). drop word (take k block)) (sym sum) ∙ drop-take word (end - word) block in
    ap (λ (x : List ℕ). x ++ drop word copy) (is_low ∙ ap zeros l)
    ∙ ap (λ (x : List ℕ). zeros word ++ x) back
    ∙ hidden_front block end word is_end is_word
