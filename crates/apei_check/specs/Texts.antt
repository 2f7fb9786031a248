-- What the lines of a script show.
use Rattle.std.specs.Prelude.{◌≡◌, ℕ, List, [], None, Ok}
use Rattle.hex.specs.Hex.{decode_of}
use Rattle.erst_entries.specs.Tables.{refusal as erst_refusal}
use Rattle.hest_sources.specs.Tables.{refusal as hest_refusal}
use Rattle.script_text.specs.CheckGrammar.{CheckedLine, blank, comment, erst, hest, bert, one_record, block, IsValidCheck, check_text_of}
use Rattle.apei_check.specs.declared.text.show.Show.{Show}
use Rattle.apei_check.specs.Tables.{AreErstLines, AreHestLines, AreBertLines}
use Rattle.apei_check.specs.Frames.{AreRecordLines, AreBlockLines}

-- digits stand for bytes that this is so of
pub record Stands (Is : List ℕ → Type 0) (hex : List ℕ) : Type 0 where
  pub bytes : List ℕ
  pub decoded : decode_of hex ≡ Ok bytes
  pub is : Is bytes

-- the lines that a line of a script shows
abbrev pub AreShownBy : Show → CheckedLine → List (List ℕ) → Type 0
AreShownBy show blank shown = shown ≡ []
AreShownBy show (comment rest) shown = shown ≡ []
AreShownBy show (erst hex) shown = Stands (λ bytes. AreErstLines show bytes shown) hex
AreShownBy show (hest hex) shown = Stands (λ bytes. AreHestLines show bytes shown) hex
AreShownBy show (bert hex) shown = Stands (λ bytes. AreBertLines show bytes shown) hex
AreShownBy show (one_record hex) shown = Stands (λ bytes. AreRecordLines show bytes shown) hex
AreShownBy show (block hex) shown = Stands (λ bytes. AreBlockLines show bytes shown) hex

-- memory is taken for the parts of these tables alone, where bytes begin with one
abbrev pub TakesMemory : CheckedLine → Type 0
TakesMemory (erst hex) = Stands (λ bytes. erst_refusal bytes ≡ None) hex
TakesMemory (hest hex) = Stands (λ bytes. hest_refusal bytes ≡ None) hex
TakesMemory line = ⊥

-- the lines that a text of a script shows
abbrev pub TextShows : Show → List ℕ → List (List ℕ) → Type 0
TextShows show text shown = (asked : CheckedLine) × (IsValidCheck asked × (text ≡ check_text_of asked)) × AreShownBy show asked shown
