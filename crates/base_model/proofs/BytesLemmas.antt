-- Laws of parts, numbers and fields.
use Rattle.std.proofs.Common.{◌≡◌, ℕ, zero, suc, ◌+◌, ◌-◌, ◌*◌, ◌/◌, ◌%◌, ◌^◌, ◌<◌, ◌≤◌, List, [], ◌∷◌, ◌++◌, length, take, drop, map, get_or, refl, sym, ap}
use Rattle.std.proofs.Common.{subst, ◌∙◌, arith, append_assoc, length-append, length-drop}
use Rattle.std.proofs.lemmas.List.{take-append-drop, length-take, take-append-le, take-take, take_at, drop_at, drop-append-le, drop-drop, drop-take, take_all}
use Rattle.std.proofs.Math.Nat.{pow-suc}
use Rattle.std.proofs.Math.Seq.{take-add}
use Rattle.base_model.specs.Bytes.{part, little, number_at, spelled, put_at, SameOutside, AreBytes, joined}
use Rattle.base_model.proofs.Terms.{cut, total}

-- there are n of them
pub length-spelled : (n x : ℕ) → length (spelled n x) ≡ n
unfolding spelled
length-spelled zero x = refl
length-spelled (suc n) x = let e = length-spelled n (x / 256) in omega (arith, e)

-- they are bytes
pub AreBytes-spelled : (n x : ℕ) → AreBytes (spelled n x)
unfolding spelled
AreBytes-spelled zero x = tt
AreBytes-spelled (suc n) x = (omega arith, AreBytes-spelled n (x / 256))

-- a number of n bytes is read back from them
pub little-spelled : (n x : ℕ) → x < 256 ^ n → little (spelled n x) ≡ x
unfolding spelled
little-spelled zero x h = omega arith
little-spelled (suc n) x h =
    let wide : x < 256 ^ n * 256 = subst (λ (p : ℕ). x < p) (pow-suc 256 n) h in
    let small : x / 256 < 256 ^ n = omega arith in
    let e = little-spelled n (x / 256) small in
    omega (arith, e)

-- bytes are spelled again by their number
pub spelled-little : (bytes : List ℕ) → AreBytes bytes → spelled (length bytes) (little bytes) ≡ bytes
unfolding spelled
spelled-little [] h = refl
spelled-little (byte ∷ bytes) h =
    let small : byte < 256 = h.0 in
    let low : (byte + 256 * little bytes) % 256 ≡ byte = omega arith in
    let high : (byte + 256 * little bytes) / 256 ≡ little bytes = omega arith in
    rw (low, high, spelled-little bytes h.1) refl

-- a number of n bytes is below 256 ^ n
pub little-lt : (bytes : List ℕ) → AreBytes bytes → little bytes < 256 ^ length bytes
little-lt [] h = omega arith
little-lt (byte ∷ bytes) h =
    let small : byte < 256 = h.0 in
    let rest = little-lt bytes h.1 in
    rw (pow-suc 256 (length bytes)) (omega arith)

-- bytes of which some stand first are bytes
pub AreBytes-take : (n : ℕ) (bytes : List ℕ) → AreBytes bytes → AreBytes (take n bytes)
AreBytes-take zero bytes h = tt
AreBytes-take (suc n) [] h = tt
AreBytes-take (suc n) (byte ∷ bytes) h = (h.0, AreBytes-take n bytes h.1)

pub AreBytes-drop : (n : ℕ) (bytes : List ℕ) → AreBytes bytes → AreBytes (drop n bytes)
AreBytes-drop zero bytes h = h
AreBytes-drop (suc n) [] h = tt
AreBytes-drop (suc n) (byte ∷ bytes) h = AreBytes-drop n bytes h.1

pub AreBytes-append : (xs ys : List ℕ) → AreBytes xs → AreBytes ys → AreBytes (xs ++ ys)
AreBytes-append [] ys h k = k
AreBytes-append (x ∷ xs) ys h k = (h.0, AreBytes-append xs ys h.1 k)

pub AreBytes-part : (bytes : List ℕ) (at n : ℕ) → AreBytes bytes → AreBytes (part bytes at n)
unfolding part
AreBytes-part bytes at n h = AreBytes-take n (drop at bytes) (AreBytes-drop at bytes h)

-- a part within the list has its length
pub length-part : (bytes : List ℕ) (at n : ℕ) → at + n ≤ length bytes → length (part bytes at n) ≡ n
unfolding part
length-part bytes at n h = rw (length-take, length-drop) (omega arith)

pub length-part-le : (bytes : List ℕ) (at n : ℕ) → length (part bytes at n) ≤ n
unfolding part
length-part-le bytes at n = rw length-take (omega arith)

-- a part of a part is a part
pub part-part : (bytes : List ℕ) (at n inner m : ℕ) → inner + m ≤ n → part (part bytes at n) inner m ≡ part bytes (at + inner) m
unfolding part
part-part bytes at n inner m h =
    let width : n ≡ inner + (n - inner) = omega arith in
    let enough : m ≤ n - inner = omega arith in
    ap (λ (k : ℕ). take m (drop inner (take k (drop at bytes)))) width
    ∙ ap (take m) (drop-take inner (n - inner) (drop at bytes))
    ∙ take-take m (n - inner) (drop inner (drop at bytes)) enough
    ∙ ap (take m) (drop-drop inner at bytes)

-- two parts that adjoin
pub part-append : (bytes : List ℕ) (at n m : ℕ) → part bytes at n ++ part bytes (at + n) m ≡ part bytes at (n + m)
unfolding part
part-append bytes at n m = rw (← drop-drop n at bytes) (sym (take-add n m (drop at bytes)))

-- what stands first, and what stands behind it
pub part-whole : (bytes : List ℕ) (n : ℕ) → length bytes ≤ n → part bytes 0 n ≡ bytes
unfolding part
part-whole bytes n h = take_all n bytes h

pub part-append_left : (xs ys : List ℕ) (at n : ℕ) → at + n ≤ length xs → part (xs ++ ys) at n ≡ part xs at n
unfolding part
part-append_left xs ys at n h =
    let start : at ≤ length xs = omega arith in
    let enough : n ≤ length (drop at xs) = rw length-drop (omega arith) in
    ap (take n) (drop-append-le at xs ys start) ∙ take-append-le n (drop at xs) ys enough

pub part-append_right : (xs ys : List ℕ) (at start n : ℕ) → at ≡ length xs + start → part (xs ++ ys) at n ≡ part ys start n
unfolding part
part-append_right xs ys at start n e =
    ap (λ (k : ℕ). take n (drop k (xs ++ ys))) e
    ∙ ap (take n) (sym (drop-drop start (length xs) (xs ++ ys)))
    ∙ ap (λ (zs : List ℕ). take n (drop start zs)) (drop_at xs ys (length xs) refl)

-- the number in a part of a part
pub number_at-part : (bytes : List ℕ) (at n inner m : ℕ) → inner + m ≤ n → number_at (part bytes at n) inner m ≡ number_at bytes (at + inner) m
unfolding number_at
number_at-part bytes at n inner m h = ap little (part-part bytes at n inner m h)

-- a number is below 256 to its bytes
pub number_at-lt : (bytes : List ℕ) (at n : ℕ) → AreBytes bytes → at + n ≤ length bytes → number_at bytes at n < 256 ^ n
unfolding number_at
number_at-lt bytes at n h k =
    subst (λ (m : ℕ). little (part bytes at n) < 256 ^ m) (length-part bytes at n k) (little-lt (part bytes at n) (AreBytes-part bytes at n h))

-- the bytes of a number's part are its spelling
pub spelled-number_at : (bytes : List ℕ) (at n : ℕ) → AreBytes bytes → at + n ≤ length bytes → spelled n (number_at bytes at n) ≡ part bytes at n
unfolding number_at
spelled-number_at bytes at n h k =
    subst (λ (m : ℕ). spelled m (little (part bytes at n)) ≡ part bytes at n) (length-part bytes at n k) (spelled-little (part bytes at n) (AreBytes-part bytes at n h))

-- nothing changed
pub SameOutside-refl : (at n : ℕ) (bytes : List ℕ) → SameOutside at n bytes bytes
SameOutside-refl at n bytes = record { same_length = refl; before = refl; after = refl }

-- what differs in a part of a range differs in the range
pub SameOutside-wider : (at n outer m : ℕ) (old new : List ℕ) → outer ≤ at → at + n ≤ outer + m → SameOutside at n old new → SameOutside outer m old new
SameOutside-wider at n outer m old new low high same = record {
  same_length = same.same_length;
  before =
      sym (take-take outer at new low) ∙ ap (take outer) same.before ∙ take-take outer at old low;
  after =
      let e : outer + m ≡ (at + n) + ((outer + m) - (at + n)) = omega arith in
      ap (λ (k : ℕ). drop k new) e
      ∙ sym (drop-drop ((outer + m) - (at + n)) (at + n) new)
      ∙ ap (drop ((outer + m) - (at + n))) same.after
      ∙ drop-drop ((outer + m) - (at + n)) (at + n) old
      ∙ ap (λ (k : ℕ). drop k old) (sym e);
}

-- an empty range: nothing differs
pub SameOutside-none : (at : ℕ) (old new : List ℕ) → SameOutside at 0 old new → new ≡ old
SameOutside-none at old new same =
    let e : drop at new ≡ drop at old = subst (λ (k : ℕ). drop k new ≡ drop k old) (omega arith) same.after in
    sym (take-append-drop at new) ∙ ap (λ (xs : List ℕ). xs ++ drop at new) same.before ∙ ap (λ (xs : List ℕ). take at old ++ xs) e ∙ take-append-drop at old

-- a part before or behind the range is the same
pub part-before : (at n place m : ℕ) (old new : List ℕ) → SameOutside at n old new → place + m ≤ at → part new place m ≡ part old place m
unfolding part
part-before at n place m old new same h =
    let e : at ≡ place + (at - place) = omega arith in
    let enough : m ≤ at - place = omega arith in
    let cut_new = drop-take place (at - place) new in
    let cut_old = drop-take place (at - place) old in
    sym (take-take m (at - place) (drop place new) enough)
    ∙ ap (take m) (sym cut_new ∙ ap (λ (k : ℕ). drop place (take k new)) (sym e) ∙ ap (drop place) same.before ∙ ap (λ (k : ℕ). drop place (take k old)) e ∙ cut_old)
    ∙ take-take m (at - place) (drop place old) enough

pub part-after : (at n place m : ℕ) (old new : List ℕ) → SameOutside at n old new → at + n ≤ place → part new place m ≡ part old place m
unfolding part
part-after at n place m old new same h =
    let e : place ≡ (at + n) + (place - (at + n)) = omega arith in
    ap (λ (k : ℕ). take m (drop k new)) e
    ∙ ap (take m) (sym (drop-drop (place - (at + n)) (at + n) new) ∙ ap (drop (place - (at + n))) same.after ∙ drop-drop (place - (at + n)) (at + n) old)
    ∙ ap (λ (k : ℕ). take m (drop k old)) (sym e)

-- so is a number there
pub number_at-before : (at n place m : ℕ) (old new : List ℕ) → SameOutside at n old new → place + m ≤ at → number_at new place m ≡ number_at old place m
unfolding number_at
number_at-before at n place m old new same h = ap little (part-before at n place m old new same h)

pub number_at-after : (at n place m : ℕ) (old new : List ℕ) → SameOutside at n old new → at + n ≤ place → number_at new place m ≡ number_at old place m
unfolding number_at
number_at-after at n place m old new same h = ap little (part-after at n place m old new same h)

-- bytes put within a list leave its length, and differ in their range alone
pub length-put_at : (bytes : List ℕ) (at : ℕ) (others : List ℕ) → at + length others ≤ length bytes → length (put_at bytes at others) ≡ length bytes
unfolding put_at
length-put_at bytes at others h = rw (length-append, length-append, length-take, length-drop) (omega arith)

pub SameOutside-put_at : (bytes : List ℕ) (at : ℕ) (others : List ℕ) → at + length others ≤ length bytes → SameOutside at (length others) bytes (put_at bytes at others)
unfolding put_at
SameOutside-put_at bytes at others h =
    let start : length (take at bytes) ≡ at = rw length-take (omega arith) in
    record {
      same_length = length-put_at bytes at others h;
      before = ap (take at) (append_assoc (take at bytes) others (drop (at + length others) bytes)) ∙ take_at (take at bytes) (others ++ drop (at + length others) bytes) at start;
      after = drop_at (take at bytes ++ others) (drop (at + length others) bytes) (at + length others) (length-append (take at bytes) others ∙ ap (λ (k : ℕ). k + length others) start);
    }

-- they stand there
pub part-put_at : (bytes : List ℕ) (at : ℕ) (others : List ℕ) → at + length others ≤ length bytes → part (put_at bytes at others) at (length others) ≡ others
unfolding put_at part
part-put_at bytes at others h =
    let start : length (take at bytes) ≡ at = rw length-take (omega arith) in
    ap (λ (xs : List ℕ). take (length others) (drop at xs)) (append_assoc (take at bytes) others (drop (at + length others) bytes))
    ∙ ap (take (length others)) (drop_at (take at bytes) (others ++ drop (at + length others) bytes) at start)
    ∙ take_at others (drop (at + length others) bytes) (length others) refl

-- a list that has these bytes at a place and differs nowhere else is the one with them put
pub is_put_at : (old new : List ℕ) (at : ℕ) (others : List ℕ) → SameOutside at (length others) old new → part new at (length others) ≡ others → new ≡ put_at old at others
unfolding put_at part
is_put_at old new at others same here =
    sym (take-append-drop at new)
    ∙ ap (λ (xs : List ℕ). take at new ++ xs) (sym (take-append-drop (length others) (drop at new)))
    ∙ ap (λ (xs : List ℕ). xs ++ (take (length others) (drop at new) ++ drop (length others) (drop at new))) same.before
    ∙ ap (λ (xs : List ℕ). take at old ++ (xs ++ drop (length others) (drop at new))) here
    ∙ ap (λ (xs : List ℕ). take at old ++ (others ++ xs)) (drop-drop (length others) at new ∙ same.after)
    ∙ sym (append_assoc (take at old) others (drop (at + length others) old))

-- cutting what was joined gives the fields
pub cut-joined : (fields : List (List ℕ)) (rest : List ℕ) → cut (map length fields) (joined fields ++ rest) ≡ fields
cut-joined [] rest = refl
cut-joined (field ∷ fields) rest =
    rw (append_assoc field (joined fields) rest, take_at field (joined fields ++ rest) (length field) refl, drop_at field (joined fields ++ rest) (length field) refl, cut-joined fields rest) refl

-- how long joined fields are
pub length-joined : (fields : List (List ℕ)) → length (joined fields) ≡ total (map length fields)
length-joined [] = refl
length-joined (field ∷ fields) = length-append field (joined fields) ∙ ap (λ (n : ℕ). length field + n) (length-joined fields)

-- a list is bytes where each of its places is one
pub AreBytes-each : (bytes : List ℕ) → ((k : ℕ) → get_or bytes k 0 < 256) → AreBytes bytes
AreBytes-each [] each = tt
AreBytes-each (byte ∷ bytes) each = (each 0, AreBytes-each bytes (λ k. each (suc k)))
