-- How far a text goes along with the lines of a language whose lines words begin.
use Rattle.std.proofs.Common.{◌≡◌, ℕ, ◌+◌, ◌<◌, ◌≤◌, ◌⊎◌, inl, inr, List, [], ◌∷◌, ◌++◌, length, take, drop, get_or, refl, sym, ap, subst, ◌∙◌, arith}
use Rattle.std.specs.List.{AllByRecursion as ByRecursion}
use Rattle.std.proofs.lemmas.List.{append_assoc, length-append, length-take-le}
use Rattle.std.proofs.lemmas.List.Elements.{All-weaker, All-more, All-nil, recursion_from_All}
use Rattle.script_lines.specs.Columns.{Begins, Breaks}
use Rattle.script_lines.specs.Keywords.{common_length}
use Rattle.script_lines.specs.Keywords.{HasNoKeyword}
use Rattle.script_lines.proofs.BehindLemmas.{IsBehind, IsOne, IsAlone, among, reach_behind}
use Rattle.script_lines.proofs.CommonLemmas.{common_length-within, common_length-front, common_length-most, common_length-whole}

-- what makes a set of texts such a language: no word begins another, something may follow each, an empty line is in it,
-- and the others are the words with what may follow them
pub record IsLanguage {W : Type 0} (codes_of : W → List ℕ) (Follows : W → List ℕ → Type 0) (words : List W) (IsLine : List ℕ → Type 0) : Type 0 where
  pub alone : (word : W) → IsAlone codes_of words word
  pub sample : (word : W) → Begins (Follows word) []
  pub blank : IsLine []
  pub from_word : (word : W) (rest : List ℕ) → Follows word rest → IsLine (codes_of word ++ rest)
  pub to_word : (text : List ℕ) → IsLine text → (text ≡ []) ⊎ IsOne codes_of Follows words text

-- a word of the language with what may follow it is one of all
pub one_of_all : {W : Type 0} (codes_of : W → List ℕ) (Follows : W → List ℕ → Type 0) (words : List W) → ((word : W) → IsAlone codes_of words word)
    → (word : W) (text : List ℕ) → IsBehind codes_of Follows word text → IsOne codes_of Follows words text
one_of_all {W = W} codes_of Follows words alone word text behind =
    among codes_of Follows (codes_of word) text words (subst (λ (some : List W). IsOne codes_of Follows some text) (sym (alone word)) (inl behind))

-- the language of the texts in which valid lines are written
pub language : {W L : Type 0} (codes_of : W → List ℕ) (Follows : W → List ℕ → Type 0) (words : List W) (IsValid : L → Type 0) (text_of : L → List ℕ)
    → ((word : W) → IsAlone codes_of words word) → ((word : W) → Begins (Follows word) []) → (line : L) × IsValid line × ([] ≡ text_of line)
    → ((word : W) (rest : List ℕ) → Follows word rest → (line : L) × IsValid line × (codes_of word ++ rest ≡ text_of line))
    → ((line : L) → IsValid line → (text : List ℕ) → text ≡ text_of line → (text ≡ []) ⊎ IsOne codes_of Follows words text)
    → IsLanguage codes_of Follows words (λ text. (line : L) × IsValid line × (text ≡ text_of line))
language codes_of Follows words IsValid text_of alone sample blank line_behind line_is = record {
  alone = alone;
  sample = sample;
  blank = blank;
  from_word = line_behind;
  to_word = λ text (line, valid, is). line_is line valid text is;
}

line_of_one : {W : Type 0} (codes_of : W → List ℕ) (Follows : W → List ℕ → Type 0) (words : List W) (IsLine : List ℕ → Type 0)
    (lang : IsLanguage codes_of Follows words IsLine) (some : List W) (text : List ℕ) → IsOne codes_of Follows some text → IsLine text
line_of_one codes_of Follows words IsLine lang [] text one = absurd one
line_of_one codes_of Follows words IsLine lang (word ∷ some) text (inl behind) = subst IsLine (sym behind.is) (lang.from_word word behind.rest behind.follows)
line_of_one codes_of Follows words IsLine lang (word ∷ some) text (inr one) = line_of_one codes_of Follows words IsLine lang some text one

-- a beginning that isn't empty
not_empty : (text rest : List ℕ) (k : ℕ) → 0 < k → k ≤ length text → take k text ++ rest ≡ [] → ⊥
not_empty text rest k some within e =
    let l : length (take k text ++ rest) ≡ length (take k text) + length rest = length-append (take k text) rest in
    let l' : length (take k text) ≡ k = length-take-le k text within in
    let l'' : length (take k text ++ rest) ≡ 0 = ap length e in
    omega arith

begins_one : {W : Type 0} (codes_of : W → List ℕ) (Follows : W → List ℕ → Type 0) (words : List W) (IsLine : List ℕ → Type 0)
    (lang : IsLanguage codes_of Follows words IsLine) (text : List ℕ) (k : ℕ) → 0 < k → k ≤ length text → (rest : List ℕ) → IsLine (take k text ++ rest) →
    IsOne codes_of Follows words (take k text ++ rest)
begins_one codes_of Follows words IsLine lang text k some within rest is = choose (lang.to_word (take k text ++ rest) is)
  where
    choose : (take k text ++ rest ≡ []) ⊎ IsOne codes_of Follows words (take k text ++ rest) → IsOne codes_of Follows words (take k text ++ rest)
    choose (inl empty) = absurd (not_empty text rest k some within empty)
    choose (inr one) = one

-- how far a text goes along with lines that words begin
pub line_breaks : {W : Type 0} (codes_of : W → List ℕ) (Follows : W → List ℕ → Type 0) (words : List W) (IsLine : List ℕ → Type 0)
    (lang : IsLanguage codes_of Follows words IsLine) (text : List ℕ) (reach : ℕ) → 1 ≤ length text → Breaks (IsOne codes_of Follows words) text reach →
    Breaks IsLine text reach
line_breaks codes_of Follows words IsLine lang text reach some breaks = record {
  outside = λ is. outside (lang.to_word text is);
  within = breaks.within;
  begins = (breaks.begins.0, line_of_one codes_of Follows words IsLine lang words (take reach text ++ breaks.begins.0) breaks.begins.1);
  longest = λ k far within (rest, is). breaks.longest k far within (rest, begins_one codes_of Follows words IsLine lang text k (omega arith) within rest is);
}
  where
    outside : (text ≡ []) ⊎ IsOne codes_of Follows words text → ⊥
    outside (inl empty) = let l : length text ≡ 0 = ap length empty in omega arith
    outside (inr one) = breaks.outside one

-- one word more is tried
pub passed_more : {W : Type 0} (codes_of : W → List ℕ) (text : List ℕ) (reach reach' i : ℕ) (word d : W) (words : List W) → i < length words →
    word ≡ get_or words i d → HasNoKeyword codes_of text reach (take i words)
    → common_length (codes_of word) text < length (codes_of word) → (reach' ≡ reach) × (common_length (codes_of word) text ≤ reach) ⊎
    (reach' ≡ common_length (codes_of word) text) × (reach < common_length (codes_of word) text) → HasNoKeyword codes_of text reach' (take (i + 1) words)
passed_more {W = W} codes_of text reach reach' i word d words within is before other (inl (same, low)) = record {
  each = All-more (λ word. (common_length (codes_of word) text < length (codes_of word)) × (common_length (codes_of word) text ≤ reach')) words i d within
      (All-weaker (λ word. (common_length (codes_of word) text < length (codes_of word)) × (common_length (codes_of word) text ≤ reach))
      (λ word. (common_length (codes_of word) text < length (codes_of word)) × (common_length (codes_of word) text ≤ reach'))
      (λ word h. (h.0, let low = h.1 in omega arith)) (take i words) before.each)
      (subst (λ (word : W). (common_length (codes_of word) text < length (codes_of word)) × (common_length (codes_of word) text ≤ reach')) is (other, omega arith));
  some = subst (λ (k : ℕ). (k ≡ 0) ⊎ ((word : W) × (common_length (codes_of word) text ≡ k))) (sym same) before.some;
}
passed_more {W = W} codes_of text reach reach' i word d words within is before other (inr (same, high)) = record {
  each = All-more (λ word. (common_length (codes_of word) text < length (codes_of word)) × (common_length (codes_of word) text ≤ reach')) words i d within
      (All-weaker (λ word. (common_length (codes_of word) text < length (codes_of word)) × (common_length (codes_of word) text ≤ reach))
      (λ word. (common_length (codes_of word) text < length (codes_of word)) × (common_length (codes_of word) text ≤ reach'))
      (λ word h. (h.0, let low = h.1 in omega arith)) (take i words) before.each)
      (subst (λ (word : W). (common_length (codes_of word) text < length (codes_of word)) × (common_length (codes_of word) text ≤ reach')) is (other, omega arith));
  some = inr (word, sym same);
}

-- no word goes on with a longer beginning
none_goes : {W : Type 0} (codes_of : W → List ℕ) (Follows : W → List ℕ → Type 0) (text rest : List ℕ) (reach k : ℕ) (words : List W) →
    ByRecursion (λ word. (common_length (codes_of word) text < length (codes_of word)) × (common_length (codes_of word) text ≤ reach)) words
    → reach < k → k ≤ length text → IsOne codes_of Follows words (take k text ++ rest) → ⊥
none_goes codes_of Follows text rest reach k [] each far within one = one
none_goes codes_of Follows text rest reach k (word ∷ words) each far within (inr one) = none_goes codes_of Follows text rest reach k words each.1 far within one
none_goes codes_of Follows text rest reach k (word ∷ words) each far within (inl behind) = choose (common_length-most (codes_of word) text rest behind.rest k within behind.is)
  where
    choose : (k ≤ common_length (codes_of word) text) ⊎ (common_length (codes_of word) text ≡ length (codes_of word)) → ⊥
    choose (inl near) = let h = each.0.1 in omega arith
    choose (inr all) = let h = each.0.0 in omega arith

none_is : {W : Type 0} (codes_of : W → List ℕ) (Follows : W → List ℕ → Type 0) (text : List ℕ) (reach : ℕ) (words : List W) →
    ByRecursion (λ word. (common_length (codes_of word) text < length (codes_of word)) × (common_length (codes_of word) text ≤ reach)) words →
    IsOne codes_of Follows words text → ⊥
none_is codes_of Follows text reach [] each one = one
none_is codes_of Follows text reach (word ∷ words) each (inr one) = none_is codes_of Follows text reach words each.1 one
none_is codes_of Follows text reach (word ∷ words) each (inl behind) =
    let h = each.0.0 in
    let all : common_length (codes_of word) text ≡ length (codes_of word) = ap (common_length (codes_of word)) behind.is ∙ common_length-whole (codes_of word) behind.rest in
    omega arith

-- a text that no word begins
pub passed_all : {W : Type 0} (codes_of : W → List ℕ) (Follows : W → List ℕ → Type 0) (words : List W) (IsLine : List ℕ → Type 0)
    (lang : IsLanguage codes_of Follows words IsLine) (text : List ℕ) (reach : ℕ) → 1 ≤ length text → HasNoKeyword codes_of text reach words →
    Breaks IsLine text reach
passed_all {W = W} codes_of Follows words IsLine lang text reach some passed = record {
  outside = λ is. outside is;
  within = within passed.some;
  begins = begins passed.some;
  longest = λ k far within (rest, is). none_goes codes_of Follows text rest reach k words each far within (begins_one codes_of Follows words IsLine lang text k (omega arith) within rest is);
}
  where
    each : ByRecursion (λ word. (common_length (codes_of word) text < length (codes_of word)) × (common_length (codes_of word) text ≤ reach)) words
    each = recursion_from_All (λ word. (common_length (codes_of word) text < length (codes_of word)) × (common_length (codes_of word) text ≤ reach)) words passed.each

    within : (reach ≡ 0) ⊎ ((word : W) × (common_length (codes_of word) text ≡ reach)) → reach ≤ length text
    within (inl none) = omega arith
    within (inr (word, is)) = let h : common_length (codes_of word) text ≤ length text = common_length-within (codes_of word) text in omega arith

    begins : (reach ≡ 0) ⊎ ((word : W) × (common_length (codes_of word) text ≡ reach)) → Begins IsLine (take reach text)
    begins (inl none) = ([], subst (λ (k : ℕ). IsLine (take k text ++ [])) (sym none) lang.blank)
    begins (inr (word, is)) = (
      drop reach (codes_of word) ++ (lang.sample word).0,
      subst IsLine
          (ap (λ (front : List ℕ). front ++ (lang.sample word).0) (sym (common_length-front (codes_of word) text)
          ∙ ap (λ (k : ℕ). take k text ++ drop k (codes_of word)) is) ∙ append_assoc (take reach text) (drop reach (codes_of word)) (lang.sample word).0)
          (lang.from_word word (lang.sample word).0 (lang.sample word).1),
    )

    outside : IsLine text → ⊥
    outside is = choose (lang.to_word text is)
      where
        choose : (text ≡ []) ⊎ IsOne codes_of Follows words text → ⊥
        choose (inl empty) = let l : length text ≡ 0 = ap length empty in omega arith
        choose (inr one) = none_is codes_of Follows text reach words each one

pub passed_none : {W : Type 0} (codes_of : W → List ℕ) (text : List ℕ) → HasNoKeyword codes_of text 0 []
passed_none codes_of text = record { each = All-nil (λ word. (common_length (codes_of word) text < length (codes_of word)) × (common_length (codes_of word) text ≤ 0)); some = inl refl }

-- a text that begins with a word
pub behind_breaks : {W : Type 0} (codes_of : W → List ℕ) (Follows : W → List ℕ → Type 0) (words : List W) (IsLine : List ℕ → Type 0)
    (lang : IsLanguage codes_of Follows words IsLine) (word : W) (text bytes rest : List ℕ) (reach : ℕ) → 1 ≤ length text → bytes ≡ codes_of word →
    text ≡ codes_of word ++ drop (length (codes_of word)) text → rest ≡ drop (length bytes) text
    → Breaks (Follows word) rest reach → Breaks IsLine text (length bytes + reach)
behind_breaks codes_of Follows words IsLine lang word text bytes rest reach some bytes_is text_is rest_is breaks =
    line_breaks codes_of Follows words IsLine lang text (length bytes + reach) some
    (subst (λ (w : List ℕ). Breaks (IsOne codes_of Follows words) text (length w + reach)) (sym bytes_is)
    (subst (λ (t : List ℕ). Breaks (IsOne codes_of Follows words) t (length (codes_of word) + reach)) (sym text_is)
    (reach_behind codes_of Follows words word (drop (length (codes_of word)) text) reach (lang.alone word)
    (subst (λ (t : List ℕ). Breaks (Follows word) t reach) (rest_is ∙ ap (λ (w : List ℕ). drop (length w) text) bytes_is) breaks))))
