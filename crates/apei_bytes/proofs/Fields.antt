-- What `byteorder` reads and writes, in the words of the layers above.
use Rattle.std.proofs.Common.{◌≡◌, ℕ, zero, suc, ◌+◌, ◌-◌, ◌*◌, ◌/◌, ◌%◌, ◌^◌, ◌<◌, ◌≤◌, List, [], ◌∷◌, ◌++◌, length, take, drop, refl, sym, ap, subst, ◌∙◌, arith, append_assoc, length-drop}
use Rattle.std.proofs.lemmas.List.{append-nil, drop-drop, drop_all, take_rest}
use Rattle.std.proofs.Math.Nat.{div-one, div-div-eq-div-mul, pow-suc}
use Rattle.std.specs.Int.{byte_at, bytes_low_first}
use Rattle.byteorder.specs.Endian.{little_number, little_bytes}
use Rattle.byteorder.specs.Numbers.{little_from-cons}
use borrow.Rule.Slice.PartMut.{put_mid}
use Rattle.base_model.specs.Bytes.{part, little, number_at, spelled, put_at, SameOutside}
use Rattle.base_model.proofs.BytesLemmas.{length-spelled, little-spelled, SameOutside-put_at, part-put_at}

-- the number in the first n bytes
little_number-take : (n : ℕ) (xs : List ℕ) → n ≤ length xs → little_number n xs ≡ little (take n xs)
little_number-take zero xs h = refl
little_number-take (suc n) [] h = absurd (omega arith)
little_number-take (suc n) (x ∷ xs) h =
    ap (λ (k : ℕ). x + 256 * k) (little_from-cons 0 n x xs ∙ little_number-take n xs (omega arith))

byte_at-pow : (k x : ℕ) → byte_at k x ≡ x / 256 ^ k % 256
byte_at-pow zero x = ap (λ (y : ℕ). y % 256) (sym (div-one x))
byte_at-pow (suc k) x = refl

-- the bytes of x from byte i on are those of what is above them
bytes_low_first-spelled : (n i x : ℕ) → bytes_low_first i n x ≡ spelled n (x / 256 ^ i)
unfolding spelled
bytes_low_first-spelled zero i x = refl
bytes_low_first-spelled (suc n) i x =
    let shift : x / 256 ^ suc i ≡ x / 256 ^ i / 256 = ap (λ (p : ℕ). x / p) (pow-suc 256 i) ∙ sym (div-div-eq-div-mul x (256 ^ i) 256) in
    rw (byte_at-pow i x, bytes_low_first-spelled n (suc i) x, shift) refl

little_bytes-spelled : (n x : ℕ) → little_bytes n x ≡ spelled n x
little_bytes-spelled n x = bytes_low_first-spelled n 0 x ∙ ap (spelled n) (div-one x)

-- what a read behind a place gives
pub reads : (n at : ℕ) (xs : List ℕ) → at + n ≤ length xs → little_number n (take (length xs - at) (drop at xs)) ≡ number_at xs at n
unfolding number_at part
reads n at xs h =
    let enough : n ≤ length (drop at xs) = rw length-drop (omega arith) in
    ap (little_number n) (take_rest xs at) ∙ little_number-take n (drop at xs) enough

-- what a write behind a place leaves
pub writes : (n at x : ℕ) (xs ys : List ℕ) → at + n ≤ length xs → ys ≡ little_bytes n x ++ drop n (take (length xs - at) (drop at xs))
    → put_mid at (length xs - at) xs ys ≡ put_at xs at (spelled n x)
unfolding put_at
writes n at x xs ys h e =
    let none : drop (at + (length xs - at)) xs ≡ [] = drop_all (at + (length xs - at)) xs (omega arith) in
    let rest : drop (length xs - at) (drop at xs) ≡ [] = drop-drop (length xs - at) at xs ∙ none in
    ap (λ (zs : List ℕ). take at xs ++ (ys ++ zs)) rest
    ∙ ap (λ (zs : List ℕ). take at xs ++ zs) (append-nil ys ∙ e ∙ ap (λ (zs : List ℕ). zs ++ drop n (take (length xs - at) (drop at xs))) (little_bytes-spelled n x))
    ∙ ap (λ (zs : List ℕ). take at xs ++ (spelled n x ++ drop n zs)) (take_rest xs at)
    ∙ ap (λ (zs : List ℕ). take at xs ++ (spelled n x ++ zs)) (drop-drop n at xs ∙ ap (λ (k : ℕ). drop (at + k) xs) (sym (length-spelled n x)))
    ∙ sym (append_assoc (take at xs) (spelled n x) (drop (at + length (spelled n x)) xs))

-- bytes in which a number of n bytes was put: where, and what can be read there
pub record Written (n at x : ℕ) (old new : List ℕ) : Type 0 where
  pub written : new ≡ put_at old at (spelled n x)
  pub reads_back : number_at new at n ≡ x
  pub others : SameOutside at n old new

pub is_written : (n at x : ℕ) (old new : List ℕ) → at + n ≤ length old → x < 256 ^ n → new ≡ put_at old at (spelled n x) → Written n at x old new
unfolding number_at
is_written n at x old new h small e =
    let size = length-spelled n x in
    let fits : at + length (spelled n x) ≤ length old = omega arith in
    let here : part (put_at old at (spelled n x)) at n ≡ spelled n x = subst (λ (k : ℕ). part (put_at old at (spelled n x)) at k ≡ spelled n x) size (part-put_at old at (spelled n x) fits) in
    record {
      written = e;
      reads_back = ap (λ (zs : List ℕ). little (part zs at n)) e ∙ ap little here ∙ little-spelled n x small;
      others = subst (λ (zs : List ℕ). SameOutside at n old zs) (sym e) (subst (λ (k : ℕ). SameOutside at k old (put_at old at (spelled n x))) size (SameOutside-put_at old at (spelled n x) fits));
    }
