-- The words of replies.
use Rattle.std.specs.Prelude.{ℕ, List, [], ◌∷◌, ◌++◌, length, codes, decimal}
use Rattle.std.specs.List.{flat_map}
use Rattle.hex.specs.Hex.{encode_lower}
use Rattle.base_model.specs.Bytes.{number_at}
pub use Rattle.script_text.specs.ReplyWords.{refused, word_of, words_of_turns, words_of_heard}

-- a block that a source's reader took: the source, the severity (ACPI 6.4, table 18.11), the length and the bytes
abbrev pub words_of_block : ℕ → List ℕ → List ℕ
words_of_block source block =
    codes "block " ++ decimal source ++ codes " " ++ decimal (number_at block 16 4) ++ codes " " ++ decimal (length block) ++ codes " "
    ++ encode_lower block

-- each reply is a line of its own
abbrev pub reply_line : List ℕ → List ℕ
reply_line words = words ++ 10 ∷ []

abbrev pub text_of_replies : List (List ℕ) → List ℕ
text_of_replies replies = flat_map reply_line replies
