-- The length of a structure, and the source that it is.
use Rattle.std.proofs.Common.{◌≡◌, ℕ, ◌+◌, ◌*◌, ◌<◌, ◌≤◌, inl, inr, Bool, true, false, cond, List, ◌++◌, length, take, drop, Option, Some, None, Result, Ok}
use Rattle.std.proofs.Common.{Err, refl, sym, ap, subst, ◌∙◌, arith, length-append}
use Rattle.std.specs.Prelude.{◌==◌, ◌||◌, nat_le, nat_lt}
use Rattle.std.proofs.lemmas.Bool.{cases_Bool, eqb-true, leb-false, ltb-false, ne_eqb, le-ltb, lt-leb, cond-true, cond-false, or_cases}
use Rattle.std.proofs.lemmas.List.{length-take, take-append-drop}
use Rattle.base_model.specs.Bytes.{part, number_at, AreBytes}
use Rattle.apei_bytes.proofs.Parts.{number_at-front}
use Rattle.apei_bytes.proofs.Tests.{ok_unless}
use Rattle.hest_sources.specs.declared.sources.Ghes.{Ghes}
use Rattle.hest_sources.specs.declared.sources.Ack.{Ack}
use Rattle.hest_sources.specs.declared.sources.HestSource.{HestSource}
use Rattle.hest_sources.specs.declared.sources.HestSource.TheVariants.{Ghes as Generic, Other}
use Rattle.hest_sources.specs.declared.tables.HestError.{HestError}
use Rattle.hest_sources.specs.declared.tables.HestError.TheVariants.{UnknownType, Cut}
use Rattle.hest_sources.specs.Layout.{type_of, size_of, length_with_banks, length_by_type, IsSource, front_at, source_at, structure_length}
use Rattle.hest_sources.proofs.Terms.{ack_at}
use Rattle.hest_sources.proofs.Structures.{ack_by_type, length-ghes, ghes_reads, ghes_nine, ghes_ten}

-- a length is 20 at least
abbrev Low : Result ℕ HestError → Type 0
Low (Ok n) = 20 ≤ n
Low (Err e) = Unit {0}

low_cond : (b : Bool) (x y : Result ℕ HestError) → Low x → Low y → Low (cond b x y)
low_cond true x y h k = h
low_cond false x y h k = k

low_with_banks : (at : ℕ) (bytes : List ℕ) (fixed place : ℕ) → 20 ≤ fixed → Low (length_with_banks at bytes fixed place)
low_with_banks at bytes fixed place h = low_cond (nat_le (length bytes) place) (Err (Cut at)) (Ok (fixed + 28 * number_at bytes place 1)) tt (omega arith)

low_by_type : (kind at : ℕ) (bytes : List ℕ) → Low (length_by_type kind at bytes)
low_by_type kind at bytes =
    low_cond (kind == 0) _ _ (low_with_banks at bytes 40 32 (omega arith))
    (low_cond ((kind == 1) || (kind == 11)) _ _ (low_with_banks at bytes 48 44 (omega arith))
    (low_cond (kind == 2) (Ok 20) _ (omega arith)
    (low_cond (kind == 6) (Ok 48) _ (omega arith)
    (low_cond (kind == 7) (Ok 44) _ (omega arith)
    (low_cond (kind == 8) (Ok 56) _ (omega arith)
    (low_cond (kind == 9) (Ok 64) _ (omega arith)
    (low_cond (kind == 10) (Ok 92) (Err (UnknownType at kind)) (omega arith) tt)))))))

pub length_low : (kind at n : ℕ) (bytes : List ℕ) → length_by_type kind at bytes ≡ Ok n → 20 ≤ n
length_low kind at n bytes e = subst Low e (low_by_type kind at bytes)

-- it is the same of a structure alone and among more bytes
either : (b : Bool) (x y x' y' : Result ℕ HestError) (n : ℕ) → (x ≡ Ok n → x' ≡ Ok n) → (y ≡ Ok n → y' ≡ Ok n) → cond b x y ≡ Ok n → cond b x' y' ≡ Ok n
either true x y x' y' n h k e = h e
either false x y x' y' n h k e = k e

by_type : (kind at n : ℕ) (bytes bytes' : List ℕ) → (length_with_banks at bytes 40 32 ≡ Ok n → length_with_banks at bytes' 40 32 ≡ Ok n) →
    (length_with_banks at bytes 48 44 ≡ Ok n → length_with_banks at bytes' 48 44 ≡ Ok n)
    → length_by_type kind at bytes ≡ Ok n → length_by_type kind at bytes' ≡ Ok n
by_type kind at n bytes bytes' h k =
    either (kind == 0) _ _ _ _ n h
    (either ((kind == 1) || (kind == 11)) _ _ _ _ n k
    (λ e. e))

same_ok : (m n : ℕ) → ◌≡◌ {A = Result ℕ HestError} (Ok m) (Ok n) → m ≡ n
same_ok m n e = cc

record Banked (bytes : List ℕ) (fixed place n : ℕ) : Type 0 where
  pub there : place < length bytes
  pub size : fixed + 28 * number_at bytes place 1 ≡ n

is_with_banks : (at : ℕ) (bytes : List ℕ) (fixed place n : ℕ) → length_with_banks at bytes fixed place ≡ Ok n → Banked bytes fixed place n
is_with_banks at bytes fixed place n e =
    let a = ok_unless _ _ _ _ e in
    record { there = leb-false (length bytes) place a.0; size = same_ok (fixed + 28 * number_at bytes place 1) n a.1 }

banks : (at : ℕ) (bytes : List ℕ) (fixed place n : ℕ) → Banked bytes fixed place n → length_with_banks at bytes fixed place ≡ Ok n
banks at bytes fixed place n b =
    cond-false (nat_le (length bytes) place) (Err (Cut at)) _ (lt-leb (length bytes) place b.there) ∙ ap (λ (m : ℕ). Ok m) b.size

banked_front : (at : ℕ) (front more : List ℕ) (fixed place : ℕ) → place < fixed → length_with_banks at (front ++ more) fixed place ≡ Ok (length front) →
    length_with_banks at front fixed place ≡ Ok (length front)
banked_front at front more fixed place h e =
    let b = is_with_banks at (front ++ more) fixed place (length front) e in
    let size = b.size in
    let there : place < length front = omega arith in
    banks at front fixed place (length front) (record {
      there = there;
      size = ap (λ (m : ℕ). fixed + 28 * m) (sym (number_at-front front more place 1 (omega arith))) ∙ size;
    })

banked_more : (at : ℕ) (front more : List ℕ) (fixed place n : ℕ) → length_with_banks at front fixed place ≡ Ok n → length_with_banks at (front ++ more) fixed place ≡ Ok n
banked_more at front more fixed place n e =
    let b = is_with_banks at front fixed place n e in
    let there = b.there in
    let size = length-append front more in
    banks at (front ++ more) fixed place n (record {
      there = omega arith;
      size = ap (λ (m : ℕ). fixed + 28 * m) (number_at-front front more place 1 (omega arith)) ∙ b.size;
    })

length_front : (kind at : ℕ) (front more : List ℕ) → length_by_type kind at (front ++ more) ≡ Ok (length front) → length_by_type kind at front ≡ Ok (length front)
length_front kind at front more = by_type kind at (length front) (front ++ more) front (banked_front at front more 40 32 (omega arith)) (banked_front at front more 48 44 (omega arith))

length_more : (kind at n : ℕ) (front more : List ℕ) → length_by_type kind at front ≡ Ok n → length_by_type kind at (front ++ more) ≡ Ok n
length_more kind at n front more = by_type kind at n front (front ++ more) (banked_more at front more 40 32 n) (banked_more at front more 48 44 n)

-- what a length says
pub record Measured (at n : ℕ) (rest : List ℕ) : Type 0 where
  pub head : 2 ≤ length rest
  pub by_kind : length_by_type (number_at rest 0 2) at rest ≡ Ok n
  pub fits : n ≤ length rest

-- the length of a type, where so many bytes are there
abbrev length_if_there : ℕ → List ℕ → Result ℕ HestError → Result ℕ HestError
length_if_there at bytes (Ok len) = cond (nat_lt (length bytes) len) (Err (Cut at)) (Ok len)
length_if_there at bytes (Err error) = Err error

is_there : (at : ℕ) (rest : List ℕ) (r : Result ℕ HestError) (n : ℕ) → length_if_there at rest r ≡ Ok n → (r ≡ Ok n) × (n ≤ length rest)
is_there at rest (Ok m) n e =
    let a = ok_unless _ _ _ _ e in
    let same = same_ok m n a.1 in
    let fits = ltb-false (length rest) m a.0 in
    (ap (λ (k : ℕ). Ok k) same, omega arith)
is_there at rest (Err f) n e = absurd (cc)

pub measured : (at n : ℕ) (rest : List ℕ) → structure_length at rest ≡ Ok n → Measured at n rest
unfolding structure_length
measured at n rest e =
    let a = ok_unless _ _ _ _ e in
    let b = is_there at rest (length_by_type (number_at rest 0 2) at rest) n a.1 in
    record { head = ltb-false (length rest) 2 a.0; by_kind = b.0; fits = b.1 }

pub measures : (at n : ℕ) (rest : List ℕ) → Measured at n rest → structure_length at rest ≡ Ok n
unfolding structure_length
measures at n rest m =
    cond-false (nat_lt (length rest) 2) (Err (Cut at)) _ (le-ltb (length rest) 2 m.head)
    ∙ ap (length_if_there at rest) m.by_kind
    ∙ cond-false (nat_lt (length rest) n) (Err (Cut at)) (Ok n) (le-ltb (length rest) n m.fits)

-- a structure is as long as its type says
record IsOfType (n size : ℕ) (rest : List ℕ) : Type 0 where
  is : n ≡ size
  there : size ≤ length rest

of_type : (at n kind size : ℕ) (rest : List ℕ) → Measured at n rest → number_at rest 0 2 ≡ kind → length_by_type kind at rest ≡ Ok size → IsOfType n size rest
of_type at n kind size rest m is by_type =
    let same : n ≡ size = same_ok n size (sym m.by_kind ∙ ap (λ (k : ℕ). length_by_type k at rest) is ∙ by_type) in
    let fits = m.fits in
    record { is = same; there = omega arith }

-- what is read of a structure is a source
pub source_is : (at n : ℕ) (rest : List ℕ) → AreBytes rest → structure_length at rest ≡ Ok n → IsSource at (source_at at rest n) (take n rest)
unfolding source_at part
source_is at n rest h e =
    let m = measured at n rest e in
    let kind = number_at rest 0 2 in
    let low = length_low kind at n rest m.by_kind in
    elim (cases_Bool ((kind == 9) || (kind == 10))) [
      | inl generic ↦
          subst (λ (s : HestSource). IsSource at s (take n rest)) (sym (cond-true ((kind == 9) || (kind == 10)) _ (Other kind at n) generic))
          (elim (or_cases (kind == 9) (kind == 10) generic) [
            | inl nine ↦
                let long = of_type at n 9 64 rest m (eqb-true kind 9 nine) refl in
                let g = ghes_nine rest h long.there (eqb-true kind 9 nine) in
                (g.is_ghes, ap (λ (k : ℕ). take k rest) long.is ∙ g.bytes_are)
            | inr ten ↦
                let long = of_type at n 10 92 rest m (eqb-true kind 10 ten) refl in
                let g = ghes_ten rest h long.there (eqb-true kind 10 ten) in
                (g.is_ghes, ap (λ (k : ℕ). take k rest) long.is ∙ g.bytes_are)
          ])
      | inr other ↦
          let fits = m.fits in
          let size : length (take n rest) ≡ n = length-take n rest ∙ omega arith in
          let split : take n rest ++ drop n rest ≡ rest = take-append-drop n rest in
          let kind_is : number_at (take n rest) 0 2 ≡ kind = sym (number_at-front (take n rest) (drop n rest) 0 2 (omega arith)) ∙ ap (λ (xs : List ℕ). number_at xs 0 2) split in
          subst (λ (s : HestSource). IsSource at s (take n rest)) (sym (cond-false ((kind == 9) || (kind == 10)) _ (Other kind at n) other)) (
            refl,
            sym size,
            omega arith,
            kind_is,
            other,
            length_front kind at (take n rest) (drop n rest) (ap (length_by_type kind at) split ∙ m.by_kind ∙ ap (λ (k : ℕ). Ok k) (sym size)),
          )
    ]

-- a source that stands first is measured and read again
pub record SourceAgain (at : ℕ) (source : HestSource) (front rest : List ℕ) : Type 0 where
  pub length_is : structure_length at rest ≡ Ok (length front)
  pub source_is : source_at at rest (length front) ≡ source
  pub low : 20 ≤ length front

generic_type : (ack : Option Ack) → ((type_of ack == 9) || (type_of ack == 10)) ≡ true
generic_type None = refl
generic_type (Some ack) = refl

generic_length : (ack : Option Ack) (at : ℕ) (rest : List ℕ) → length_by_type (type_of ack) at rest ≡ Ok (size_of ack)
generic_length None at rest = refl
generic_length (Some ack) at rest = refl

pub source_again : (at : ℕ) (source : HestSource) (front more rest : List ℕ) → IsSource at source front → rest ≡ front ++ more → SourceAgain at source front rest
unfolding source_at
source_again at (Generic source) front more rest is e =
    let r = ghes_reads source rest more is.0 (e ∙ ap (λ (xs : List ℕ). xs ++ more) is.1) in
    let size : length front ≡ size_of source.ack = ap length is.1 ∙ length-ghes source is.0 in
    let by_kind : length_by_type (number_at rest 0 2) at rest ≡ Ok (length front) = ap (λ (k : ℕ). length_by_type k at rest) r.kind_is ∙ generic_length
    source.ack at rest ∙ ap (λ (k : ℕ). Ok k) (sym size) in
    let low = length_low (number_at rest 0 2) at (length front) rest by_kind in
    let all : length rest ≡ length front + length more = ap length e ∙ length-append front more in
    record {
      length_is = measures at (length front) rest (record { head = omega arith; by_kind = by_kind; fits = omega arith });
      source_is =
          cond-true ((number_at rest 0 2 == 9) || (number_at rest 0 2 == 10)) _ (Other (number_at rest 0 2) at (length front))
          (ap (λ (k : ℕ). (k == 9) || (k == 10)) r.kind_is ∙ generic_type source.ack)
          ∙ ap (λ (g : Ghes). Generic g) r.source_is;
      low = low;
    }
source_again at (Other kind place len) front more rest is e =
    let all : length rest ≡ length front + length more = ap length e ∙ length-append front more in
    let head = is.2 in
    let kind_is : number_at rest 0 2 ≡ kind = ap (λ (xs : List ℕ). number_at xs 0 2) e ∙ number_at-front front more 0 2 is.2 ∙ is.3 in
    let by_kind : length_by_type (number_at rest 0 2) at rest ≡ Ok (length front) =
    ap (λ (k : ℕ). length_by_type k at rest) kind_is ∙ ap (length_by_type kind at) e ∙ length_more kind at (length front) front more is.5 in
    record {
      length_is = measures at (length front) rest (record { head = omega arith; by_kind = by_kind; fits = omega arith });
      source_is =
          cond-false ((number_at rest 0 2 == 9) || (number_at rest 0 2 == 10)) _ (Other (number_at rest 0 2) at (length front)) (ap (λ (k : ℕ). (k == 9) || (k == 10)) kind_is ∙ is.4)
          ∙ ap (λ (k : ℕ). Other k at (length front)) kind_is
          ∙ ap (λ (k : ℕ). Other kind k (length front)) (sym is.0)
          ∙ ap (λ (k : ℕ). Other kind place k) (sym is.1);
      low = length_low (number_at rest 0 2) at (length front) rest by_kind;
    }

-- which source is read, by the type
pub read_nine : (at n : ℕ) (rest : List ℕ) → number_at rest 0 2 ≡ 9 → source_at at rest n ≡ Generic (front_at rest None)
unfolding source_at
read_nine at n rest e = ap (λ (k : ℕ). cond ((k == 9) || (k == 10)) (Generic (front_at rest (ack_by_type k rest))) (Other k at n)) e

pub read_ten : (at n : ℕ) (rest : List ℕ) → number_at rest 0 2 ≡ 10 → source_at at rest n ≡ Generic (front_at rest (Some (ack_at rest)))
unfolding source_at
read_ten at n rest e = ap (λ (k : ℕ). cond ((k == 9) || (k == 10)) (Generic (front_at rest (ack_by_type k rest))) (Other k at n)) e

pub read_other : (at n : ℕ) (rest : List ℕ) → (number_at rest 0 2 ≡ 9 → ⊥) → (number_at rest 0 2 ≡ 10 → ⊥) → source_at at rest n ≡ Other (number_at rest 0 2) at n
unfolding source_at
read_other at n rest h k =
    let nine : (number_at rest 0 2 == 9) ≡ false = ne_eqb (number_at rest 0 2) 9 h in
    let ten : (number_at rest 0 2 == 10) ≡ false = ne_eqb (number_at rest 0 2) 10 k in
    rw (nine, ten) refl

pub nine_size : (at n : ℕ) (rest : List ℕ) → structure_length at rest ≡ Ok n → number_at rest 0 2 ≡ 9 → 64 ≤ length rest
nine_size at n rest e kind = (of_type at n 9 64 rest (measured at n rest e) kind refl).there

pub ten_size : (at n : ℕ) (rest : List ℕ) → structure_length at rest ≡ Ok n → number_at rest 0 2 ≡ 10 → 92 ≤ length rest
ten_size at n rest e kind = (of_type at n 10 92 rest (measured at n rest e) kind refl).there
