-- What no structure begins with, and where a structure ends.
use Rattle.std.proofs.Common.{◌≡◌, ℕ, zero, suc, ◌+◌, ◌<◌, ◌≤◌, List, [], ◌∷◌, ◌++◌, length, take, drop, get_or, ap, sym, subst, refl, ◌∙◌, arith, Some, None}
use Rattle.std.proofs.Math.Nat.{add-zero}
use Rattle.std.proofs.Math.Seq.{drop-append_seam}
use Rattle.std.proofs.lemmas.List.{append_assoc, length-append, length-take-le, take-append-drop, get_or-take, get_or_append_left}
use Rattle.memchr.specs.Find.{FindsNeedle, OccursAt}
use Rattle.base_model.specs.Bytes.{little, part, number_at}
use Rattle.base_model.proofs.BytesLemmas.{part-append_left}
use Rattle.smbios.specs.Structures.{Pair, pair, AreZeros, EndsInZeros, HasNoZeros, IsStructure, BeginsNone, IsFormatted, bytes_of}

-- bytes that begin with a structure
record Begins (bytes : List ℕ) (one : Pair) (rest : List ℕ) : Type 0 where
  pub len : number_at bytes 1 1 ≡ length one.formatted
  pub within : length one.formatted ≤ length bytes
  pub others : drop (length one.formatted) bytes ≡ one.strings ++ rest

begins : (bytes : List ℕ) (one : Pair) (rest : List ℕ) → IsStructure one → bytes ≡ bytes_of one ++ rest → Begins bytes one rest
unfolding number_at
begins bytes one rest is same =
    let apart : bytes ≡ one.formatted ++ (one.strings ++ rest) = same ∙ append_assoc one.formatted one.strings rest in
    record {
      len = ap (λ (it : List ℕ). number_at it 1 1) apart
          ∙ ap little (part-append_left one.formatted (one.strings ++ rest) 1 1 (omega (arith, is.head))) ∙ is.len;
      within = let size = ap (λ (it : List ℕ). length it) apart ∙ length-append one.formatted (one.strings ++ rest) in omega arith;
      others = ap (λ (it : List ℕ). drop (length one.formatted) it) apart ∙ drop-append_seam one.formatted (one.strings ++ rest);
    }

pub short_length : (bytes : List ℕ) (len : ℕ) → len ≡ number_at bytes 1 1 → len < 4 → BeginsNone bytes
short_length bytes len told short one rest is same = let found = begins bytes one rest is same in omega (arith, found.len, is.head)

pub long_length : (bytes : List ℕ) (len : ℕ) → len ≡ number_at bytes 1 1 → length bytes < len → BeginsNone bytes
long_length bytes len told long one rest is same = let found = begins bytes one rest is same in omega (arith, found.len, found.within)

-- two zero bytes, as a search tells them
reads_zeros : (bytes : List ℕ) (at : ℕ) → AreZeros bytes at → (j : ℕ) → j < 2 → get_or bytes (at + j) 0 ≡ get_or (0 ∷ 0 ∷ []) j 0
reads_zeros bytes at are zero below = ap (λ (n : ℕ). get_or bytes n 0) (add-zero at) ∙ are.first
reads_zeros bytes at are (suc zero) below = are.second
reads_zeros bytes at are (suc (suc j)) below = absurd (omega arith)

occurs : (bytes : List ℕ) (at : ℕ) → AreZeros bytes at → OccursAt bytes (0 ∷ 0 ∷ []) at
occurs bytes at are = record { fits = are.within; reads = reads_zeros bytes at are }

are_zeros : (bytes : List ℕ) (at : ℕ) → OccursAt bytes (0 ∷ 0 ∷ []) at → AreZeros bytes at
are_zeros bytes at found = record {
  within = found.fits;
  first = ap (λ (n : ℕ). get_or bytes n 0) (sym (add-zero at)) ∙ found.reads 0 (omega arith);
  second = found.reads 1 (omega arith);
}

-- those in the first bytes of bytes
in_front : (bytes : List ℕ) (n at : ℕ) → n ≤ length bytes → at + 2 ≤ n → AreZeros bytes at → AreZeros (take n bytes) at
in_front bytes n at fits below are = record {
  within = let size = length-take-le n bytes fits in omega arith;
  first = get_or-take n bytes at 0 (omega arith) ∙ are.first;
  second = get_or-take n bytes (at + 1) 0 (omega arith) ∙ are.second;
}

of_front : (bytes : List ℕ) (n at : ℕ) → n ≤ length bytes → AreZeros (take n bytes) at → AreZeros bytes at
of_front bytes n at fits are = let size = length-take-le n bytes fits in let below : at + 2 ≤ n = omega (arith, are.within) in record {
  within = omega arith;
  first = sym (get_or-take n bytes at 0 (omega arith)) ∙ are.first;
  second = sym (get_or-take n bytes (at + 1) 0 (omega arith)) ∙ are.second;
}

pub ends_at : (bytes : List ℕ) (at : ℕ) → FindsNeedle bytes (0 ∷ 0 ∷ []) 0 (Some at)
    → (at + 2 ≤ length bytes) × EndsInZeros (take (at + 2) bytes)
ends_at bytes at found =
    let here : AreZeros bytes at = are_zeros bytes at found.1 in
    let fits : at + 2 ≤ length bytes = here.within in (
      fits,
      (
        at,
        length-take-le (at + 2) bytes fits,
        in_front bytes (at + 2) at fits (omega arith) here,
        λ k below are. found.0.before k (omega arith) below (occurs bytes k (of_front bytes (at + 2) k fits are)),
      ),
    )

pub no_zeros : (bytes : List ℕ) → FindsNeedle bytes (0 ∷ 0 ∷ []) 0 None → HasNoZeros bytes
no_zeros bytes found k are = found k (omega arith) (omega (arith, are.within)) (occurs bytes k are)

-- what has no two zeros in a row has no texts first
zeros_of_front : (strings rest : List ℕ) (at : ℕ) → AreZeros strings at → AreZeros (strings ++ rest) at
zeros_of_front strings rest at are = record {
  within = let size = length-append strings rest in omega (arith, are.within);
  first = get_or_append_left strings rest 0 at (omega (arith, are.within)) ∙ are.first;
  second = get_or_append_left strings rest 0 (at + 1) (omega (arith, are.within)) ∙ are.second;
}

pub no_strings : (bytes : List ℕ) (len : ℕ) (others : List ℕ) → others ≡ drop len bytes → IsFormatted bytes len → HasNoZeros others
    → BeginsNone bytes
no_strings bytes len others are formatted none one rest is same =
    let found = begins bytes one rest is same in
    let split : others ≡ one.strings ++ rest = are ∙ ap (λ (n : ℕ). drop n bytes) (sym formatted.told ∙ found.len) ∙ found.others in
    none is.ends.0 (subst (λ it. AreZeros it is.ends.0) (sym split) (zeros_of_front one.strings rest is.ends.0 is.ends.2))

number_of_front : (bytes : List ℕ) (len : ℕ) → IsFormatted bytes len → number_at (take len bytes) 1 1 ≡ len
unfolding number_at
number_of_front bytes len is =
    let size = length-take-le len bytes is.within in
    sym (ap little (part-append_left (take len bytes) (drop len bytes) 1 1 (omega (arith, is.head))))
    ∙ ap (λ (it : List ℕ). number_at it 1 1) (take-append-drop len bytes) ∙ is.told

pub structure : (bytes : List ℕ) (len more : ℕ) (others : List ℕ) → others ≡ drop len bytes → IsFormatted bytes len → EndsInZeros (take more others)
    → IsStructure (pair (take len bytes) (take more others)) × (bytes ≡ bytes_of (pair (take len bytes) (take more others)) ++ drop more others)
structure bytes len more others are is ends = (
  record {
    head = let size = length-take-le len bytes is.within in omega (arith, is.head);
    len = number_of_front bytes len is ∙ sym (length-take-le len bytes is.within);
    ends = ends;
  },
  sym (take-append-drop len bytes)
      ∙ ap (λ (it : List ℕ). take len bytes ++ it) (sym are ∙ sym (take-append-drop more others))
      ∙ sym (append_assoc (take len bytes) (take more others) (drop more others)),
)

pub none_first : (bytes : List ℕ) → length bytes ≤ 0 → 0 ≡ number_at bytes 0 1
unfolding number_at part
none_first [] empty = refl
none_first (byte ∷ bytes) empty = absurd (omega arith)
