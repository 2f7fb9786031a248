-- Texts that stand first, and one more.
use Rattle.std.proofs.Common.{◌≡◌, ℕ, suc, ◌+◌, ◌<◌, ◌≤◌, List, [], ◌∷◌, ◌++◌, length, take, drop, get_or, ap, sym, ◌∙◌, arith, eq-eqb, Some, None}
use Rattle.std.proofs.lemmas.Bool.{eqb-true}
use Rattle.std.proofs.Math.Seq.{split_at, get_or-append_seam}
use Rattle.std.proofs.lemmas.List.{append_assoc, length-append, length-take-le, get_or-take}
use Rattle.memchr.specs.Find.{IsFirstByte, is_byte}
use Rattle.smbios.specs.Texts.{IsText, HasNoText, Follows, terminated}
use Rattle.smbios.proofs.ListLemmas.{each_more, stands_more}

pub first_is : (bytes : List ℕ) (len : ℕ) (rest : List ℕ) → IsFirstByte (is_byte 0) bytes (Some len) → 1 ≤ len → rest ≡ drop (len + 1) bytes
    → IsText (take len bytes) × (bytes ≡ take len bytes ++ 0 ∷ rest)
first_is bytes len rest found some after =
    let within : len < length bytes = found.0.high in
    let size : length (take len bytes) ≡ len = length-take-le len bytes (omega arith) in
    let next : suc len ≡ len + 1 = omega arith in (
      record {
        some = omega arith;
        bytes = λ k below zero. found.0.before k (omega arith) (omega arith)
            (eq-eqb (get_or bytes k 0) 0 (sym (get_or-take len bytes k 0 (omega arith)) ∙ zero));
      },
      split_at bytes len 0 within
          ∙ ap (λ (byte : ℕ). take len bytes ++ byte ∷ drop (suc len) bytes) (eqb-true (get_or bytes len 0) 0 found.1)
          ∙ ap (λ (it : List ℕ). take len bytes ++ 0 ∷ it) (ap (λ (n : ℕ). drop n bytes) next ∙ sym after),
    )

pub none_without_zero : (bytes : List ℕ) → IsFirstByte (is_byte 0) bytes None → HasNoText bytes
none_without_zero bytes none text rest is same =
    let size = ap (λ (it : List ℕ). length it) same ∙ length-append text (0 ∷ rest) in
    none (length text) (omega arith) (omega arith)
    (eq-eqb (get_or bytes (length text) 0) 0 (ap (λ (it : List ℕ). get_or it (length text) 0) same ∙ get_or-append_seam text 0 rest 0))

pub follow_more : (strings : List ℕ) (texts : List (List ℕ)) (rest after text : List ℕ) → Follows strings texts rest → IsText text
    → rest ≡ text ++ 0 ∷ after → Follows strings (texts ++ text ∷ []) after
follow_more strings texts rest after text follows is stands = record {
  each = each_more IsText texts text follows.each is;
  all = stands_more terminated texts text strings rest after follows.all (stands ∙ sym (append_assoc text (0 ∷ []) after));
}

-- the next text is passed over
pub passed_more : (strings : List ℕ) (rest after text : List ℕ) (number : ℕ)
    → (texts : List (List ℕ)) × Follows strings texts rest × (number ≡ length texts + 1) → IsText text → rest ≡ text ++ 0 ∷ after
    → (texts : List (List ℕ)) × Follows strings texts after × (number + 1 ≡ length texts + 1)
passed_more strings rest after text number (texts, follows, counted) is stands = (
  texts ++ text ∷ [],
  follow_more strings texts rest after text follows is stands,
  let more = length-append texts (text ∷ []) in omega arith,
)
