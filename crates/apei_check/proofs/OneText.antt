-- What lines of a script show is one list of lines each.
use Rattle.std.proofs.Common.{◌≡◌, ℕ, List, [], ◌∷◌, Result, Ok, refl, sym, ap, subst, ◌∙◌}
use Rattle.std.specs.List.{AllZip}
use Rattle.hex.specs.declared.error.FromHexError.{FromHexError}
use Rattle.script_lines.specs.Lines.{Line}
use Rattle.script_text.specs.CheckGrammar.{CheckedLine, IsValidCheck, check_text_of, blank, comment, erst, hest, bert, one_record, block}
use Rattle.script_lines.specs.Played.{IsLineOf}
use Rattle.apei_check.specs.declared.text.show.Show.{Show}
use Rattle.apei_check.specs.Tables.{AreErstLines, AreHestLines, AreBertLines}
use Rattle.apei_check.specs.Frames.{AreRecordLines, AreBlockLines}
use Rattle.apei_check.specs.Texts.{Stands, AreShownBy, TextShows}
use Rattle.apei_check.proofs.OneItem.{one_erst, one_hest, one_bert, one_framed_record, one_status_block}

-- bytes have one list of lines
abbrev pub IsOne : (Show → List ℕ → List (List ℕ) → Type 0) → Type 0
IsOne Are = (show : Show) (bytes : List ℕ) (lines others : List (List ℕ)) → Are show bytes lines → Are show bytes others → lines ≡ others

same_bytes : (a b : List ℕ) → ◌≡◌ {A = Result (List ℕ) FromHexError} (Ok a) (Ok b) → a ≡ b
same_bytes a b e = cc e

-- digits stand for one list of bytes
one_shown : (Are : Show → List ℕ → List (List ℕ) → Type 0) → IsOne Are → (show : Show) (hex : List ℕ) (lines others : List (List ℕ))
    → Stands (λ bytes. Are show bytes lines) hex → Stands (λ bytes. Are show bytes others) hex → lines ≡ others
one_shown Are one show hex lines others a b =
    one show a.bytes lines others a.is (subst (λ (bytes : List ℕ). Are show bytes others) (same_bytes b.bytes a.bytes (sym b.decoded ∙ a.decoded)) b.is)

module _ (one_line : (a b : CheckedLine) → IsValidCheck a → IsValidCheck b → check_text_of a ≡ check_text_of b → a ≡ b) where
  one_list : (show : Show) (asked : CheckedLine) (lines others : List (List ℕ)) → AreShownBy show asked lines → AreShownBy show asked others → lines ≡ others
  one_list show blank lines others a b = a ∙ sym b
  one_list show (comment rest) lines others a b = a ∙ sym b
  one_list show (erst hex) lines others a b = one_shown AreErstLines one_erst show hex lines others a b
  one_list show (hest hex) lines others a b = one_shown AreHestLines one_hest show hex lines others a b
  one_list show (bert hex) lines others a b = one_shown AreBertLines one_bert show hex lines others a b
  one_list show (one_record hex) lines others a b = one_shown AreRecordLines one_framed_record show hex lines others a b
  one_list show (block hex) lines others a b = one_shown AreBlockLines one_status_block show hex lines others a b

  one_of_line : (show : Show) (line : Line) (shown other : List (List ℕ)) → IsLineOf (λ text. TextShows show text shown) line → IsLineOf (λ text. TextShows show text other) line → shown ≡ other
  one_of_line show line shown other a b =
      let same : b.is.0 ≡ a.is.0 = one_line b.is.0 a.is.0 b.is.1.0 a.is.1.0 (sym b.is.1.1 ∙ a.is.1.1) in
      one_list show a.is.0 shown other a.is.2 (subst (λ (asked : CheckedLine). AreShownBy show asked other) same b.is.2)

  pub one_of_lines : (show : Show) (lines : List Line) (shown others : List (List (List ℕ))) → AllZip (λ line one. IsLineOf (λ text. TextShows show text one) line) lines shown
      → AllZip (λ line one. IsLineOf (λ text. TextShows show text one) line) lines others → shown ≡ others
  one_of_lines show [] [] [] a b = refl
  one_of_lines show [] [] (other ∷ others) a b = absurd b
  one_of_lines show [] (first ∷ shown) others a b = absurd a
  one_of_lines show (line ∷ lines) [] others a b = absurd a
  one_of_lines show (line ∷ lines) (first ∷ shown) [] a b = absurd b
  one_of_lines show (line ∷ lines) (first ∷ shown) (other ∷ others) a b =
      ap (λ (l : List (List ℕ)). l ∷ shown) (one_of_line show line first other a.0 b.0) ∙ ap (λ (ls : List (List (List ℕ))). other ∷ ls) (one_of_lines show lines shown others a.1 b.1)
