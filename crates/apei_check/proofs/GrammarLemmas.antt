-- Laws of lines that are in the grammar.
use Rattle.std.proofs.Common.{ℕ, ◌≤◌, inl, inr, List, length, ap, arith}
use Rattle.script_text.specs.CheckGrammar.{CheckedLine, IsValidCheck, check_text_of, blank, comment, erst, hest, bert, one_record, block}
use Rattle.script_text.specs.CheckText.{IsCheckText, checked_line_of}
use Rattle.script_text.specs.declared.check_line.CheckLine.{CheckLine}
use Rattle.script_text.specs.declared.check_line.CheckLine.TheVariants.{Blank, Erst, Hest, Bert, Record, Block}
use Rattle.apei_check.specs.declared.text.show.Show.{Show}
use Rattle.apei_check.specs.Texts.{AreShownBy, TakesMemory}
use Rattle.std.specs.Prelude.{◌≡◌}

-- what a text that was parsed is: the line itself, or a comment, which shows what a blank line shows
pub record IsRead (text : List ℕ) (line : CheckLine) : Type 0 where
  pub asked : CheckedLine
  pub written : (IsValidCheck asked × (text ≡ check_text_of asked))
  pub valid : IsValidCheck (checked_line_of line)
  pub fits : length (check_text_of (checked_line_of line)) ≤ length text
  pub same : (show : Show) (shown : List (List ℕ)) → AreShownBy show (checked_line_of line) shown → AreShownBy show asked shown
  pub takes : TakesMemory (checked_line_of line) → TakesMemory asked

pub is_read : (text : List ℕ) (line : CheckLine) → IsCheckText text line → IsRead text line
is_read text Blank (inl is) = record { asked = blank; written = is; valid = tt; fits = omega arith; same = λ show shown are. are; takes = λ takes. takes }
is_read text Blank (inr (rest, is)) = record { asked = comment rest; written = is; valid = tt; fits = omega arith; same = λ show shown are. are; takes = λ takes. takes }
is_read text (Erst hex) is = record { asked = erst hex.now; written = is; valid = is.0; fits = omega (arith, ap length is.1); same = λ show shown are. are; takes = λ takes. takes }
is_read text (Hest hex) is = record { asked = hest hex.now; written = is; valid = is.0; fits = omega (arith, ap length is.1); same = λ show shown are. are; takes = λ takes. takes }
is_read text (Bert hex) is = record { asked = bert hex.now; written = is; valid = is.0; fits = omega (arith, ap length is.1); same = λ show shown are. are; takes = λ takes. takes }
is_read text (Record hex) is = record { asked = one_record hex.now; written = is; valid = is.0; fits = omega (arith, ap length is.1); same = λ show shown are. are; takes = λ takes. takes }
is_read text (Block hex) is = record { asked = block hex.now; written = is; valid = is.0; fits = omega (arith, ap length is.1); same = λ show shown are. are; takes = λ takes. takes }
