-- The bytes of a record, put into zeros.
use Rattle.std.proofs.Common.{◌≡◌, ◌∙◌, ℕ, zero, suc, ◌+◌, ◌-◌, ◌*◌, ◌≤◌, true, lit<, List, [], ◌∷◌, ◌++◌, length, take, drop, sym, ap, arith, append_assoc, length-append}
use Rattle.std.proofs.lemmas.List.{length-replicate, replicate-append-replicate, take-replicate, drop-replicate}
use Rattle.std.specs.Char.{is_ascii_hexdigit}
use Rattle.std.proofs.lemmas.Bool.Decides.{nat_tests}
use Rattle.std.proofs.lemmas.List.Elements.{All-weaker}
use Rattle.hex.specs.Hex.{encode_lower, is_hex_digit, IsBytes}
use Rattle.hex.proofs.HexLemmas.{decode_of-ok, decode_of-encode_lower}
use Rattle.script_lines.specs.Parts.{IsPairs}
use Rattle.script_text.specs.ScriptGrammar.{write}
use Rattle.apei_script.specs.Plays.{IsPlayable}
use Rattle.std.proofs.Math.Seq.{take-append_seam, take-append-add, drop-append-add, drop-append_seam}
use Rattle.base_model.specs.Bytes.{spelled, put_at, AreBytes}
use Rattle.base_model.proofs.BytesLemmas.{length-spelled, AreBytes-append, AreBytes-spelled}
use Rattle.apei_cli.specs.Records.{zeros, record_of}
use Rattle.apei_cli.proofs.Terms.{first_fields}

-- bytes in the place of others between two lists
put_between : (before old new after : List ℕ) → length old ≡ length new → put_at (before ++ (old ++ after)) (length before) new ≡ before ++ new ++ after
unfolding put_at
put_between before old new after same =
    let front : take (length before) (before ++ (old ++ after)) ≡ before = take-append_seam before (old ++ after) in
    let back : drop (length before + length new) (before ++ (old ++ after)) ≡ after =
    drop-append-add before (old ++ after) (length new) ∙ ap (λ (n : ℕ). drop n (old ++ after)) (sym same) ∙ drop-append_seam old after in
    rw (front, back)

length-zeros : (n : ℕ) → length (zeros n) ≡ n
length-zeros n = let all : length (zeros n) ≡ n = length-replicate n 0 in all

zeros_parted : (m n : ℕ) → zeros (m + n) ≡ zeros m ++ zeros n
zeros_parted m n = let parted : zeros m ++ zeros n ≡ zeros (m + n) = replicate-append-replicate m n 0 in sym parted

pub record_made : (id size : ℕ) (first a b : List ℕ) → first ≡ first_fields → a ≡ put_at (first ++ drop 20 (zeros 368)) 20 (spelled 4 size) → b ≡ put_at a 96 (spelled 8 id)
    → 128 ≤ size → size ≤ 368 → take size b ≡ record_of id size
record_made id size first a b is_first is_a is_b least most =
    let four = spelled 4 size in
    let eight = spelled 8 id in
    let length_four : length four ≡ 4 = length-spelled 4 size in
    let length_eight : length eight ≡ 8 = length-spelled 8 id in
    let length_first : length first ≡ 20 = ap length is_first in
    let zeros_behind : drop 20 (zeros 368) ≡ zeros 4 ++ zeros 344 = drop-replicate 20 368 0 ∙ zeros_parted 4 344 in
    let with_length : a ≡ first ++ four ++ zeros 344 =
    is_a
    ∙ ap (λ (xs : List ℕ). put_at (first ++ xs) 20 four) zeros_behind
    ∙ ap (λ (n : ℕ). put_at (first ++ (zeros 4 ++ zeros 344)) n four) (sym length_first)
    ∙ put_between first (zeros 4) four (zeros 344) (length-zeros 4 ∙ sym length_four) in
    let front = first ++ four ++ zeros 72 in
    let length_front : length front ≡ 96 = omega (arith, length-append (first ++ four) (zeros 72), length-append first four, length-zeros 72, length_four, length_first) in
    let more_zeros : zeros 344 ≡ zeros 72 ++ (zeros 8 ++ zeros 264) =
    zeros_parted 72 272 ∙ ap (λ (xs : List ℕ). zeros 72 ++ xs) (zeros_parted 8 264) in
    let parted : a ≡ front ++ (zeros 8 ++ zeros 264) =
    with_length ∙ ap (λ (xs : List ℕ). first ++ four ++ xs) more_zeros ∙ sym (append_assoc (first ++ four) (zeros 72) (zeros 8 ++ zeros 264)) in
    let with_id : b ≡ front ++ eight ++ zeros 264 =
    is_b
    ∙ ap (λ (xs : List ℕ). put_at xs 96 eight) parted
    ∙ ap (λ (n : ℕ). put_at (front ++ (zeros 8 ++ zeros 264)) n eight) (sym length_front)
    ∙ put_between front (zeros 8) eight (zeros 264) (length-zeros 8 ∙ sym length_eight) in
    let length_header : size ≡ length (front ++ eight) + (size - 104) = omega (arith, length-append front eight, length_front, length_eight) in
    ap (take size) with_id
    ∙ ap (λ (n : ℕ). take n (front ++ eight ++ zeros 264)) length_header
    ∙ take-append-add (front ++ eight) (zeros 264) (size - 104)
    ∙ ap (λ (xs : List ℕ). front ++ eight ++ xs) (take-replicate (size - 104) 264 0 (omega arith))
    ∙ ap (λ (xs : List ℕ). xs ++ four ++ zeros 72 ++ eight ++ zeros (size - 104)) is_first

-- a record's digits
AreBytes-zeros : (n : ℕ) → AreBytes (zeros n)
AreBytes-zeros zero = tt
AreBytes-zeros (suc n) = (lit< tt, AreBytes-zeros n)

AreBytes-first : AreBytes first_fields
AreBytes-first = (
  lit< tt,
  (
    lit< tt,
    (
      lit< tt,
      (
        lit< tt,
        (
          lit< tt,
          (
            lit< tt,
            (
              lit< tt,
              (
                lit< tt,
                (
                  lit< tt,
                  (
                    lit< tt,
                    (lit< tt, (lit< tt, (lit< tt, (lit< tt, (lit< tt, (lit< tt, (lit< tt, (lit< tt, (lit< tt, (lit< tt, tt)))))))))),
                  ),
                ),
              ),
            ),
          ),
        ),
      ),
    ),
  ),
)

AreBytes-record : (id size : ℕ) → AreBytes (record_of id size)
AreBytes-record id size =
    AreBytes-append (first_fields ++ spelled 4 size ++ zeros 72 ++ spelled 8 id) (zeros (size - 104))
    (AreBytes-append (first_fields ++ spelled 4 size ++ zeros 72) (spelled 8 id)
    (AreBytes-append (first_fields ++ spelled 4 size) (zeros 72) (AreBytes-append first_fields (spelled 4 size) AreBytes-first (AreBytes-spelled 4 size)) (AreBytes-zeros 72))
    (AreBytes-spelled 8 id))
    (AreBytes-zeros (size - 104))

each_byte : (bytes : List ℕ) → AreBytes bytes → IsBytes bytes
each_byte [] are i = lit< tt
each_byte (byte ∷ bytes) are zero = are.0
each_byte (byte ∷ bytes) are (suc i) = each_byte bytes are.1 i

is_digit : (c : ℕ) → is_hex_digit c ≡ true → is_ascii_hexdigit c ≡ true
is_digit c h = grind (arith, nat_tests)

record_pairs : (id size : ℕ) → IsPairs (encode_lower (record_of id size))
record_pairs id size =
    let text = encode_lower (record_of id size) in
    let decodes = decode_of-ok text (record_of id size) (decode_of-encode_lower (record_of id size) (each_byte (record_of id size) (AreBytes-record id size))) in
    let twice : length text ≡ 2 * length (record_of id size) = decodes.2 in
    record {
      digits = All-weaker (λ c. is_hex_digit c ≡ true) (λ c. is_ascii_hexdigit c ≡ true) is_digit text decodes.1;
      even = (length (record_of id size), twice);
      some = omega (arith, twice);
    }

length_record : (id size : ℕ) → 128 ≤ size → length (record_of id size) ≡ size
length_record id size least =
    omega (
      arith,
      length-append (first_fields ++ spelled 4 size ++ zeros 72 ++ spelled 8 id) (zeros (size - 104)),
      length-append (first_fields ++ spelled 4 size ++ zeros 72) (spelled 8 id),
      length-append (first_fields ++ spelled 4 size) (zeros 72),
      length-append first_fields (spelled 4 size),
      length-spelled 4 size,
      length-spelled 8 id,
      length-zeros 72,
      length-zeros (size - 104),
    )

-- a line that writes such a record can be played
pub record_playable : (id size : ℕ) → 128 ≤ size → size ≤ 368 → IsPlayable (write (encode_lower (record_of id size)))
record_playable id size least most =
    let text = encode_lower (record_of id size) in
    let decodes = decode_of-ok text (record_of id size) (decode_of-encode_lower (record_of id size) (each_byte (record_of id size) (AreBytes-record id size))) in
    let twice : length text ≡ 2 * length (record_of id size) = decodes.2 in
    record { valid = record_pairs id size; fits = omega (arith, twice, length_record id size least) }
