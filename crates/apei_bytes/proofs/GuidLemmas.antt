-- The text of a GUID is that of the identifier whose first three fields stand the other way round.
use Rattle.std.proofs.Common.{◌≡◌, ℕ, List, length, refl}
use Rattle.uuid.specs.Text.{hyphenated_text, by_index, lower}
use Rattle.uuid.specs.Parts.{swap_fields}
use Rattle.apei_bytes.specs.Guid.{guid_text}

pub text_is : (guid : List ℕ) → hyphenated_text lower (swap_fields guid) ≡ guid_text guid
unfolding guid_text by_index
text_is guid = refl

pub length-hyphenated_text : (uuid : List ℕ) → length (hyphenated_text lower uuid) ≡ 36
unfolding by_index
length-hyphenated_text uuid = refl
