-- Names for words that definitions write out.
use Rattle.std.proofs.Common.{ℕ, List, ◌++◌, length, codes, decimal}
use Rattle.base_model.specs.Bytes.{number_at}
use Rattle.hub_script.specs.HubGrammar.{hest}
use Rattle.hub_script.specs.HubText.{IsWritten}
use Rattle.hub_script.specs.Lines.{BringsTable}
use Rattle.hub_script.specs.History.{Played}
use Rattle.std.specs.List.{flat_map}
use Rattle.hub_script.specs.Replies.{text_of_replies}
use Rattle.hub_script.specs.declared.hub_line.HubWord.{HubWord}
use Rattle.hub_script.specs.HubWords.{form_of}

abbrev pub words_of_opened : ℕ → List ℕ
words_of_opened sources = codes "hub " ++ decimal sources

abbrev pub words_of_queued : ℕ → List ℕ
words_of_queued waiting = codes "queued " ++ decimal waiting

abbrev pub words_before_digits : ℕ → List ℕ → List ℕ
words_before_digits source block =
    codes "block " ++ decimal source ++ codes " " ++ decimal (number_at block 16 4) ++ codes " " ++ decimal (length block) ++ codes " "

-- a text gives a table
abbrev pub GivesTable : List ℕ → Type 0
GivesTable text = (hex : List ℕ) × IsWritten text (hest hex) × BringsTable hex

abbrev pub text_of_played : {L : Type 0} → List (Played L) → List ℕ
text_of_played {L} lines = flat_map (λ (played : Played L). text_of_replies played.said) lines

abbrev pub codes_of : HubWord → List ℕ
codes_of word = (form_of word).0

abbrev pub Follows : HubWord → List ℕ → Type 0
Follows word = (form_of word).1
