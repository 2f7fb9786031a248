-- What is found is the one table that the bytes begin with.
use Rattle.std.proofs.Common.{◌≡◌, ℕ, ◌+◌, ◌≤◌, ◌%◌, nat_lt, List, ◌++◌, length, take, drop, sum, nat_eq, true, false, Some, None, Result, Ok, Err, IfOk, refl}
use Rattle.std.proofs.Common.{sym, ap, subst, ◌∙◌, arith, length-append}
use denote.Bor.{Bor}
use Rattle.std.specs.List.{starts_with}
use Rattle.std.proofs.lemmas.Slice.Eq.{starts_is}
use Rattle.std.proofs.lemmas.Bool.Decides.{Decides-eqb}
use Rattle.std.proofs.lemmas.List.{take_at, length-take, take-append-drop}
use Rattle.std.proofs.lemmas.Bool.{le-ltb}
use Rattle.base_model.specs.Bytes.{part, number_at, little}
use Rattle.base_model.proofs.BytesLemmas.{part-part, part-append_left}
use Rattle.apei_bytes.proofs.Parts.{part-take}
use Rattle.apei_tables.specs.declared.headers.Header.{Header}
use Rattle.apei_tables.specs.declared.headers.TableError.{TableError}
use Rattle.apei_tables.specs.Layout.{spelling, IsHeader}
use Rattle.apei_tables.specs.Tables.{IsSealed, IsTable, FindsTable, Refuses, refusal}
use Rattle.apei_tables.proofs.Spelling.{same_header}
use Rattle.apei_tables.proofs.Terms.{Finds}

pub finds : (signature : List ℕ) (fixed : ℕ) (bytes : List ℕ) (header : Header) →
    36 ≤ fixed → 36 ≤ length bytes → part bytes 0 36 ≡ spelling header → IsHeader header → header.signature ≡ signature → header.length ≡ number_at bytes 4 4 →
    fixed ≤ header.length → header.length ≤ length bytes → sum (take header.length bytes) % 256 ≡ 0 → FindsTable signature fixed bytes header (take header.length bytes)
unfolding number_at
finds signature fixed bytes header low have begins fits wanted field long within total =
    let n = header.length in
    let table = take n bytes in
    let size : length table ≡ n = rw length-take (omega arith) in
    record {
      is_table = record {
        sealed = record { size = omega arith; length_field = ap little (part-take bytes n 4 4 (omega arith)) ∙ sym field ∙ sym size; sum = total };
        begins = part-take bytes n 0 36 (omega arith) ∙ begins;
      };
      fits = fits;
      prefix = ap (λ (k : ℕ). take k bytes) (sym size);
      wanted = wanted;
      long = omega arith;
    }

-- bytes that begin with four bytes have them as their first part
pub begins : (bytes signature : List ℕ) → length signature ≡ 4 → starts_with nat_eq bytes signature ≡ true → part bytes 0 4 ≡ signature
unfolding part
begins bytes signature size starts =
    let same : bytes ≡ signature ++ drop 4 bytes = subst (λ (n : ℕ). bytes ≡ signature ++ drop n bytes) size
    ((starts_is Decides-eqb bytes signature (starts_with nat_eq bytes signature) refl).0 starts) in
    ap (take 4) same ∙ take_at signature (drop 4 bytes) 4 size

begins_by : (bytes signature : List ℕ) → length signature ≡ 4 → part bytes 0 4 ≡ signature → starts_with nat_eq bytes signature ≡ true
unfolding part
begins_by bytes signature size four =
    let same : bytes ≡ signature ++ drop 4 bytes = sym (take-append-drop 4 bytes) ∙ ap (λ (xs : List ℕ). xs ++ drop 4 bytes) four in
    (starts_is Decides-eqb bytes signature (starts_with nat_eq bytes signature) refl).1 (drop 4 bytes) same

-- the front of a table that stands first
pub part-front : (bytes table rest : List ℕ) (at n : ℕ) → bytes ≡ table ++ rest → at + n ≤ length table → part bytes at n ≡ part table at n
part-front bytes table rest at n same h = ap (λ (xs : List ℕ). part xs at n) same ∙ part-append_left table rest at n h

pub size-front : (bytes table rest : List ℕ) → bytes ≡ table ++ rest → IsSealed table → number_at bytes 4 4 ≡ length table
unfolding number_at
size-front bytes table rest same seal =
    let room : 4 + 4 ≤ length table = let h = seal.size in omega arith in
    ap little (part-front bytes table rest 4 4 same room) ∙ seal.length_field

signature-front : (bytes table rest : List ℕ) (header : Header) → bytes ≡ table ++ rest → IsTable header table → length header.signature ≡ 4 → part bytes 0 4 ≡ header.signature
unfolding spelling part
signature-front bytes table rest header same is_table size =
    let enough : 36 ≤ length table = is_table.sealed.size in
    let room : 0 + 4 ≤ length table = omega arith in
    part-front bytes table rest 0 4 same room
    ∙ sym (part-part table 0 36 0 4 (omega arith))
    ∙ ap (λ (xs : List ℕ). part xs 0 4) is_table.begins
    ∙ take_at header.signature _ 4 size

-- nothing is refused where such a table stands first
pub none_refused : (signature : List ℕ) (fixed : ℕ) (bytes : List ℕ) (header : Header) (table rest : List ℕ) →
    bytes ≡ table ++ rest → IsHeader header → IsTable header table → header.signature ≡ signature → fixed ≤ length table → refusal signature fixed bytes ≡ None
none_refused signature fixed bytes header table rest same fits is_table wanted long =
    let fields : length header.signature ≡ 4 = fits.signature in
    let low : 36 ≤ length table = is_table.sealed.size in
    let all : length bytes ≡ length table + length rest = ap length same ∙ length-append table rest in
    let size : number_at bytes 4 4 ≡ length table = size-front bytes table rest same is_table.sealed in
    let four : part bytes 0 4 ≡ signature = signature-front bytes table rest header same is_table fields ∙ wanted in
    let starts : starts_with nat_eq bytes signature ≡ true = begins_by bytes signature (sym (ap length wanted) ∙ fields) four in
    let whole : take (number_at bytes 4 4) bytes ≡ table = ap (λ (n : ℕ). take n bytes) size ∙ ap (take (length table)) same ∙ take_at table rest (length table) refl in
    let total : sum (take (number_at bytes 4 4) bytes) % 256 ≡ 0 = ap (λ (xs : List ℕ). sum xs % 256) whole ∙ is_table.sealed.sum in
    let have : nat_lt (length bytes) 36 ≡ false = le-ltb (length bytes) 36 (omega arith) in
    let above : nat_lt (number_at bytes 4 4) fixed ≡ false = le-ltb (number_at bytes 4 4) fixed (omega arith) in
    let within : nat_lt (length bytes) (number_at bytes 4 4) ≡ false = le-ltb (length bytes) (number_at bytes 4 4) (omega arith) in
    rw (have, starts, above, within, total) refl

-- so the answer is that table
pub only : (signature : List ℕ) (fixed : ℕ) (bytes : List ℕ) (result : Result (Header × Bor (List ℕ)) TableError) →
    IfOk result (λ found. FindsTable signature fixed bytes found.0 found.1.now) → Refuses signature fixed bytes result →
    (header : Header) (table rest : List ℕ) → bytes ≡ table ++ rest → IsHeader header → IsTable header table → header.signature ≡ signature → fixed ≤ length table → Finds header table result
only signature fixed bytes (Ok found) finds refused header table rest same fits is_table wanted long =
    let other = found.1.now in
    let sealed : IsSealed other = finds.is_table.sealed in
    let enough : 36 ≤ length other = sealed.size in
    let split : bytes ≡ other ++ drop (length other) bytes = sym (take-append-drop (length other) bytes) ∙ ap (λ (xs : List ℕ). xs ++ drop (length other) bytes) (sym finds.prefix) in
    let size : length other ≡ length table = sym (size-front bytes other (drop (length other) bytes) split sealed) ∙ size-front bytes table rest same is_table.sealed in
    let whole : other ≡ table = finds.prefix ∙ ap (λ (n : ℕ). take n bytes) size ∙ ap (take (length table)) same ∙ take_at table rest (length table) refl in
    let spelled : spelling found.0 ≡ spelling header = sym finds.is_table.begins ∙ ap (λ (xs : List ℕ). part xs 0 36) whole ∙ is_table.begins in
    (same_header found.0 header finds.fits fits spelled, whole)
only signature fixed bytes (Err error) finds refused header table rest same fits is_table wanted long =
    absurd (none_not_some (none_refused signature fixed bytes header table rest same fits is_table wanted long) refused) where
      none_not_some : refusal signature fixed bytes ≡ None → refusal signature fixed bytes ≡ Some error → ⊥
      none_not_some e f = cc
