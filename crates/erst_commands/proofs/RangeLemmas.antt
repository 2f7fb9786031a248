-- Accesses of the log range of a machine.
use Rattle.std.proofs.Common.{◌≡◌, ℕ, ◌+◌, ◌-◌, ◌^◌, ◌<◌, ◌≤◌, Bool, true, false, cond, eqb, List, ◌++◌, length, take, drop, Option, Some, None, Result, Ok}
use Rattle.std.proofs.Common.{Err, refl, sym, ap, ◌∙◌, arith, append_assoc}
use Rattle.std.specs.Prelude.{codes, nat_lt, ◌==◌, unwrap_or}
use Rattle.std.proofs.lemmas.Bool.{le-leb, lt-ltb, ltb-false, ne_eqb}
use Rattle.std.proofs.lemmas.List.{take_at, take-append-le, drop-append-le}
use Rattle.base_model.specs.Bytes.{part, little, number_at, put_at}
use Rattle.base_model.proofs.BytesLemmas.{length-put_at, part-before, SameOutside-put_at}
use Rattle.cper_frame.specs.declared.error.FrameError.{FrameError}
use Rattle.cper_frame.specs.declared.error.FrameError.TheVariants.{Need, Start, End, Length, Section, Limit}
use Rattle.cper_frame.specs.Reading.{misplaced, checked}
use Rattle.cper_frame.specs.Grammar.{bodies_from}
use Rattle.erst_client.specs.Commands.{write_refusal}
use Rattle.erst_client.proofs.RefusalLemmas.{length_fits}
use Rattle.erst_machine.specs.declared.areas.Area.TheVariants.{Scratch, LogRange}
use Rattle.erst_machine.specs.declared.areas.Location.{Location}
use Rattle.erst_machine.specs.declared.areas.Location.TheVariants.{Inside, Beyond, Nowhere}
use Rattle.erst_machine.specs.Areas.{first_location, place_location}
use Rattle.erst_commands.specs.Changes.{HoldsRecord}
use Rattle.erst_commands.specs.Writes.{marked, id_of}
use Rattle.erst_machine.proofs.Words.{memory_areas}
use Rattle.apei_tables.specs.declared.registers.Place.TheVariants.{Memory}
use Rattle.cper_frame.proofs.Terms.{signature, section_count, record_length}
use Rattle.erst_client.proofs.Terms.{frame_refusal}

-- n bytes of the log range, from its start, from the record's length, and from its mark on
location_of_tests : (in_range all : Bool) (at place limit : ℕ) → in_range ≡ true → all ≡ true
    → unwrap_or (cond {A = Option Location} in_range (Some (cond {A = Location} all (Inside LogRange place) (Beyond LogRange limit))) None) (Nowhere at) ≡ Inside LogRange place
location_of_tests in_range all at place limit held whole =
    ap (λ (b : Bool). unwrap_or (cond {A = Option Location} b (Some (cond {A = Location} all (Inside LogRange place) (Beyond LogRange limit))) None) (Nowhere at)) held
    ∙ ap (λ (b : Bool). cond {A = Location} b (Inside LogRange place) (Beyond LogRange limit)) whole

not_empty : (n : ℕ) (location : Location) → 0 < n → cond {A = Location} (eqb n 0) (Inside Scratch 0) location ≡ location
not_empty n location some = ap (λ (b : Bool). cond {A = Location} b (Inside Scratch 0) location) (ne_eqb n 0 (λ e. absurd (omega (arith, e, some))))

pub location-start : (reach n : ℕ) → 0 < n → n ≤ reach → place_location reach (Memory 0x100000) n ≡ Inside LogRange 0
location-start reach n some fits =
    not_empty n (first_location reach memory_areas 0x100000 n) some
    ∙ location_of_tests _ _ 0x100000 0 (0x100000 + reach) (lt-ltb 0x100000 (0x100000 + reach) (omega (arith, some, fits))) (le-leb (0x100000 + n) (0x100000 + reach) (omega (arith, fits)))

pub location-length : (reach : ℕ) → 24 ≤ reach → place_location reach (Memory 0x100014) 4 ≡ Inside LogRange 20
location-length reach fits =
    location_of_tests _ _ 0x100014 20 (0x100000 + reach) (lt-ltb 0x100014 (0x100000 + reach) (omega (arith, fits))) (le-leb 0x100018 (0x100000 + reach) (omega (arith, fits)))

pub location-mark : (reach : ℕ) → 110 ≤ reach → place_location reach (Memory 0x10006C) 2 ≡ Inside LogRange 108
location-mark reach fits =
    location_of_tests _ _ 0x10006C 108 (0x100000 + reach) (lt-ltb 0x10006C (0x100000 + reach) (omega (arith, fits))) (le-leb 0x10006E (0x100000 + reach) (omega (arith, fits)))

-- What the frame's checks say of a whole record

passed : (a b c d e : Bool) (first second third fourth fifth : FrameError) (len : ℕ) (bad : Option ℕ) (k : ℕ)
    → cond {A = Result ℕ FrameError} a
    (cond b (cond c (Err first) (cond d (Err second)
    (cond e (Err third) (elim bad as (λ _. Result ℕ FrameError) [ None ↦ Ok len | Some index ↦ Err (Section index) ])))) (Err fourth)) (Err fifth) ≡ Ok k →
    (e ≡ false) × (len ≡ k)
passed true true false false false first second third fourth fifth len None k h = (refl, cc h)
passed a b c d e first second third fourth fifth len bad k h = absurd (cc h)

long : (b : Bool) (error : FrameError) (rest : Result ℕ FrameError) (k : ℕ) → cond {A = Result ℕ FrameError} b (Err error) rest ≡ Ok k → (b ≡ false) × (rest ≡ Ok k)
long true error rest k h = absurd (cc h)
long false error rest k h = (refl, h)

false_lt : (a b : ℕ) → nat_lt a b ≡ false → b ≤ a
false_lt a b is = ltb-false a b is

-- a record that is not refused has the length that its header says, and fits the range
pub record IsRecord (bytes : List ℕ) (range : ℕ) : Type 0 where
  pub least : 128 ≤ length bytes
  pub size : number_at bytes 20 4 ≡ length bytes
  pub fits : length bytes ≤ range

checked_says : (bytes : List ℕ) (len : ℕ) → checked (2 ^ 32 - 1) bytes ≡ Ok len → (128 ≤ length bytes) × (number_at bytes 20 4 ≡ len) × (len ≤ length bytes)
unfolding checked
checked_says bytes len is =
    let whole = long (nat_lt (length bytes) 128) _ _ len is in
    let rest : (nat_lt (length bytes) (record_length bytes) ≡ false) × (record_length bytes ≡ len) =
    passed (number_at bytes 0 4 == signature) (number_at bytes 6 4 == 2 ^ 32 - 1) (nat_lt (record_length bytes) (bodies_from (section_count bytes))) (nat_lt (2 ^ 32 - 1) (record_length bytes))
    (nat_lt (length bytes) (record_length bytes)) (Length (record_length bytes)) (Limit (record_length bytes)) (Need (record_length bytes - length bytes)) End
    Start (record_length bytes) (misplaced bytes) len whole.1 in
    (false_lt (length bytes) 128 whole.0, rest.1, omega (arith, false_lt (length bytes) (record_length bytes) rest.0, rest.1))

pub not_refused : (bytes : List ℕ) (range : ℕ) → write_refusal bytes range ≡ None → IsRecord bytes range
not_refused bytes range is = by_verdict (checked (2 ^ 32 - 1) bytes) refl is
  where
    by_verdict : (verdict : Result ℕ FrameError) → checked (2 ^ 32 - 1) bytes ≡ verdict → frame_refusal verdict (length bytes) range ≡ None → IsRecord bytes range
    by_verdict (Err error) verdict_is refused = absurd (cc refused)
    by_verdict (Ok len) verdict_is refused =
        let fit = length_fits len (length bytes) range refused in
        let says = checked_says bytes len verdict_is in
        record { least = says.0; size = omega (arith, says.1, says.2, fit.whole); fits = fit.within }

-- The record in the range

marked-in : (bytes rest : List ℕ) → 110 ≤ length bytes → put_at (bytes ++ rest) 108 (codes "ER") ≡ marked bytes ++ rest
unfolding put_at
marked-in bytes rest least =
    ap (λ (xs : List ℕ). xs ++ codes "ER" ++ drop 110 (bytes ++ rest)) (take-append-le 108 bytes rest (omega (arith, least)))
    ∙ ap (λ (xs : List ℕ). take 108 bytes ++ codes "ER" ++ xs) (drop-append-le 110 bytes rest least)
    ∙ sym (append_assoc (take 108 bytes ++ codes "ER") (drop 110 bytes) rest)

pub at-start : (range bytes : List ℕ) → put_at range 0 bytes ≡ bytes ++ drop (length bytes) range
unfolding put_at
at-start range bytes = ap (λ (n : ℕ). bytes ++ drop n range) (omega arith)

length-marked : (bytes : List ℕ) → 110 ≤ length bytes → length (marked bytes) ≡ length bytes
length-marked bytes least = length-put_at bytes 108 (codes "ER") least

-- the record put first and marked then is the marked record put
pub marked-put : (range bytes : List ℕ) → 110 ≤ length bytes → put_at (put_at range 0 bytes) 108 (codes "ER") ≡ put_at range 0 (marked bytes)
marked-put range bytes least =
    ap (λ (xs : List ℕ). put_at xs 108 (codes "ER")) (at-start range bytes) ∙ marked-in bytes (drop (length bytes) range) least
    ∙ ap (λ (n : ℕ). marked bytes ++ drop n range) (sym (length-marked bytes least)) ∙ sym (at-start range (marked bytes))

number-before : (bytes : List ℕ) (at n : ℕ) → 110 ≤ length bytes → at + n ≤ 108 → number_at (marked bytes) at n ≡ number_at bytes at n
unfolding number_at
number-before bytes at n least before = ap little (part-before 108 2 at n bytes (marked bytes) (SameOutside-put_at bytes 108 (codes "ER") least) before)

-- and so the log range holds it
pub holds-marked : (range bytes : List ℕ) → IsRecord bytes (length range) → HoldsRecord (put_at range 0 (marked bytes)) (id_of bytes) (marked bytes)
unfolding part
holds-marked range bytes is =
    let least : 110 ≤ length bytes = omega (arith, is.least) in
    let same = length-marked bytes least in
    record {
      stands = ap (λ (xs : List ℕ). take (length (marked bytes)) xs) (at-start range (marked bytes)) ∙ take_at (marked bytes) (drop (length (marked bytes)) range) (length (marked bytes)) refl;
      within = let whole = length-put_at range 0 (marked bytes) (omega (arith, same, is.fits)) in omega (arith, whole, same, is.fits);
      least = omega (arith, same, is.least);
      size = number-before bytes 20 4 least (omega arith) ∙ is.size ∙ sym same;
      name = number-before bytes 96 8 least (omega arith);
    }
