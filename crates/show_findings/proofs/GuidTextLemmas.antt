-- The text of a GUID is ASCII.
use Rattle.std.proofs.Common.{ℕ, zero, suc, ◌/◌, ◌%◌, ◌<◌, List, [], ◌∷◌, ◌++◌, lit<, arith}
use Rattle.std.specs.Prelude.{slice_index}
use Rattle.std.specs.Str.{IsAscii, IsUtf8}
use Rattle.std.proofs.lemmas.Str.{IsUtf8-from_ascii, IsAscii-append}
use Rattle.std.proofs.lemmas.Bool.Decides.{nat_tests}
use Rattle.apei_bytes.specs.Guid.{digit, digits, guid_text}

no_byte : IsAscii []
no_byte i = lit< tt

one_more : (byte : ℕ) (bytes : List ℕ) → byte < 128 → IsAscii bytes → IsAscii (byte ∷ bytes)
one_more byte bytes low rest zero = low
one_more byte bytes low rest (suc i) = rest i

digit_low : (d : ℕ) → d < 16 → digit d < 128
digit_low d small = grind (arith, nat_tests)

digits_ascii : (bytes : List ℕ) → IsAscii (digits bytes)
digits_ascii [] = no_byte
digits_ascii (byte ∷ bytes) =
    one_more (digit (byte / 16 % 16)) (digit (byte % 16) ∷ digits bytes) (digit_low (byte / 16 % 16) (omega arith))
    (one_more (digit (byte % 16)) (digits bytes) (digit_low (byte % 16) (omega arith)) (digits_ascii bytes))

and_group : (before bytes : List ℕ) → IsAscii before → IsAscii (before ++ 45 ∷ digits bytes)
and_group before bytes ascii = IsAscii-append before (45 ∷ digits bytes) ascii (one_more 45 (digits bytes) (lit< tt) (digits_ascii bytes))

guid_ascii : (guid : List ℕ) → IsAscii (guid_text guid)
unfolding guid_text
guid_ascii guid =
    let byte = slice_index guid in
    let group_1 = byte 3 ∷ byte 2 ∷ byte 1 ∷ byte 0 ∷ [] in
    let group_2 = byte 5 ∷ byte 4 ∷ [] in
    let group_3 = byte 7 ∷ byte 6 ∷ [] in
    let group_4 = byte 8 ∷ byte 9 ∷ [] in
    let group_5 = byte 10 ∷ byte 11 ∷ byte 12 ∷ byte 13 ∷ byte 14 ∷ byte 15 ∷ [] in
    let text_2 = digits group_1 ++ 45 ∷ digits group_2 in
    let text_3 = text_2 ++ 45 ∷ digits group_3 in
    let text_4 = text_3 ++ 45 ∷ digits group_4 in
    and_group text_4 group_5 (and_group text_3 group_4 (and_group text_2 group_3 (and_group (digits group_1) group_2 (digits_ascii group_1))))

pub guid_is_text : (guid : List ℕ) → IsUtf8 (guid_text guid)
guid_is_text guid = IsUtf8-from_ascii (guid_text guid) (guid_ascii guid)
