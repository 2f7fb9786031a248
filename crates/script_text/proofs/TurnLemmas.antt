-- Where letters of turns break off.
use Rattle.std.proofs.Common.{◌≡◌, ℕ, ◌+◌, ◌<◌, ◌≤◌, List, [], ◌∷◌, ◌++◌, length, take, get_or, true, false, refl, sym, subst, ◌∙◌, arith}
use Rattle.std.specs.Prelude.{All, IsTrue, ◌==◌, ◌||◌}
use Rattle.std.proofs.lemmas.List.{length-take-le, length-append, append-nil}
use Rattle.std.proofs.lemmas.List.Elements.{All-append, All-get_or, All-cons, All-nil}
use Rattle.script_lines.specs.Columns.{Begins, Breaks}
use Rattle.script_lines.proofs.PairLemmas.{at_front}
use Rattle.script_text.specs.Turns.{IsTurns}

-- letters go on with one more where there is room
turns_more : (text : List ℕ) (i : ℕ) → i ≤ length text → i < 4096 → All (λ c. IsTrue (c == 70 || c == 82)) (take i text) → Begins IsTurns (take i text)
turns_more text i within room all =
    let l : length (take i text) ≡ i = length-take-le i text within in
    let l' : length (take i text ++ 70 ∷ []) ≡ length (take i text) + 1 = length-append (take i text) (70 ∷ []) in (
      70 ∷ [],
      record {
        letters = All-append (λ c. IsTrue (c == 70 || c == 82)) (take i text) (70 ∷ []) all (All-cons (λ c. IsTrue (c == 70 || c == 82)) 70 [] refl (All-nil (λ c. IsTrue (c == 70 || c == 82))));
        least = omega arith;
        most = omega arith;
      },
    )

-- a byte that is no letter
pub turns_at : (text : List ℕ) (i : ℕ) → i < length text → i < 4096 → All (λ c. IsTrue (c == 70 || c == 82)) (take i text) →
    (get_or text i 0 == 70 || get_or text i 0 == 82) ≡ false → Breaks IsTurns text i
turns_at text i within room all other = record {
  outside = λ is. no (All-get_or (λ c. IsTrue (c == 70 || c == 82)) text i 0 within is.letters);
  within = omega arith;
  begins = turns_more text i (omega arith) room all;
  longest = λ k far most begins. no (at_front (λ c. IsTrue (c == 70 || c == 82)) text begins.0 i k begins.1.letters far most);
}
  where
    no : (get_or text i 0 == 70 || get_or text i 0 == 82) ≡ true → ⊥
    no one = let e : true ≡ false = sym one ∙ other in cc e

-- more letters than there may be
pub turns_full : (text : List ℕ) → 4096 < length text → All (λ c. IsTrue (c == 70 || c == 82)) (take 4096 text) → Breaks IsTurns text 4096
turns_full text long all =
    let l : length (take 4096 text) ≡ 4096 = length-take-le 4096 text (omega arith) in
    let l' : length (take 4096 text ++ []) ≡ length (take 4096 text) + 0 = length-append (take 4096 text) [] in
    record {
      outside = λ is. let h = is.most in omega arith;
      within = omega arith;
      begins = ([], record { letters = subst (λ (t : List ℕ). All (λ c. IsTrue (c == 70 || c == 82)) t) (sym (append-nil (take 4096 text))) all; least = omega arith; most = omega arith });
      longest = λ k far most begins.
          let h = begins.1.most in
          let l : length (take k text) ≡ k = length-take-le k text most in
          let l' : length (take k text ++ begins.0) ≡ length (take k text) + length begins.0 = length-append (take k text) begins.0 in
          absurd (omega arith);
    }

-- no letter
pub turns_none : (text : List ℕ) → length text ≡ 0 → Breaks IsTurns text 0
turns_none text none = record {
  outside = λ is. let h = is.least in omega arith;
  within = omega arith;
  begins = turns_more text 0 (omega arith) (omega arith) (All-nil (λ c. IsTrue (c == 70 || c == 82)));
  longest = λ k far most begins. absurd (omega arith);
}
