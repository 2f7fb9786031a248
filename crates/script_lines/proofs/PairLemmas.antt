-- Where pairs of digits break off.
use Rattle.std.proofs.Common.{◌≡◌, ℕ, ◌+◌, ◌<◌, ◌≤◌, List, [], ◌∷◌, ◌++◌, length, take, get_or, true, false, refl, sym, subst, ◌∙◌, arith}
use Rattle.std.specs.Prelude.{All, IsTrue}
use Rattle.std.specs.Char.{is_ascii_hexdigit}
use Rattle.std.proofs.lemmas.List.{length-take-le, length-append, get_or_append_left, get_or-take}
use Rattle.std.proofs.lemmas.List.Elements.{All-append, All-get_or, All-cons, All-nil}
use Rattle.script_lines.specs.Parts.{IsPairs}
use Rattle.script_lines.specs.Columns.{Breaks}

-- an element of a beginning
pub at_front : (P : ℕ → Type 0) (text rest : List ℕ) (i k : ℕ) → All P (take k text ++ rest) → i < k → k ≤ length text → P (get_or text i 0)
at_front P text rest i k all below within =
    let l : length (take k text) ≡ k = length-take-le k text within in
    let l' : length (take k text ++ rest) ≡ length (take k text) + length rest = length-append (take k text) rest in
    subst P (get_or_append_left (take k text) rest 0 i (omega arith) ∙ get_or-take k text i 0 below) (All-get_or P (take k text ++ rest) i 0 (omega arith) all)

-- digits that two more and the same digits follow are pairs
pairs_from : (text : List ℕ) (i : ℕ) → i ≤ length text → All (λ c. IsTrue (is_ascii_hexdigit c)) (take i text) → IsPairs (take i text ++ 48 ∷ 48 ∷ take i text)
pairs_from text i within all =
    let l : length (take i text) ≡ i = length-take-le i text within in
    let l' : length (take i text ++ 48 ∷ 48 ∷ take i text) ≡ length (take i text) + length (48 ∷ 48 ∷ take i text) = length-append (take i text) (48 ∷ 48 ∷ take i text) in
    record {
      digits = All-append (λ c. IsTrue (is_ascii_hexdigit c)) (take i text) (48 ∷ 48 ∷ take i text) all
          (All-cons (λ c. IsTrue (is_ascii_hexdigit c)) 48 (48 ∷ take i text) refl (All-cons (λ c. IsTrue (is_ascii_hexdigit c)) 48 (take i text) refl all));
      even = (i + 1, omega arith);
      some = omega arith;
    }

-- a byte that is no digit
pub pairs_at : (text : List ℕ) (i : ℕ) → i < length text → All (λ c. IsTrue (is_ascii_hexdigit c)) (take i text) → is_ascii_hexdigit (get_or text i 0) ≡ false → Breaks IsPairs text i
pairs_at text i within all other = record {
  outside = λ is. no (All-get_or (λ c. IsTrue (is_ascii_hexdigit c)) text i 0 within is.digits);
  within = omega arith;
  begins = (48 ∷ 48 ∷ take i text, pairs_from text i (omega arith) all);
  longest = λ k far most begins. no (at_front (λ c. IsTrue (is_ascii_hexdigit c)) text begins.0 i k begins.1.digits far most);
}
  where
    no : is_ascii_hexdigit (get_or text i 0) ≡ true → ⊥
    no one = let e : true ≡ false = sym one ∙ other in cc e

-- digits alone
pub pairs_end : (text : List ℕ) → All (λ c. IsTrue (is_ascii_hexdigit c)) (take (length text) text) → (IsPairs text → ⊥) → Breaks IsPairs text (length text)
pairs_end text all not = record {
  outside = not;
  within = omega arith;
  begins = (48 ∷ 48 ∷ take (length text) text, pairs_from text (length text) (omega arith) all);
  longest = λ k far most begins. absurd (omega arith);
}

pub one_pair : IsPairs (48 ∷ 48 ∷ [])
one_pair = record {
  digits = All-cons (λ c. IsTrue (is_ascii_hexdigit c)) 48 (48 ∷ []) refl (All-cons (λ c. IsTrue (is_ascii_hexdigit c)) 48 [] refl (All-nil (λ c. IsTrue (is_ascii_hexdigit c))));
  even = (1, refl);
  some = omega arith;
}
