-- What is found is the table that stands first, and what is one is found.
use Rattle.std.proofs.Common.{◌≡◌, ℕ, ◌<◌, ◌≤◌, ◌^◌, cond, List, ◌++◌, length, take, drop, Option, Some, None, Result, Ok, Err, refl, sym, ap, subst, ◌∙◌, arith, length-append}
use Rattle.std.specs.Prelude.{◌==◌, MatchResult, IfOk}
use Rattle.std.proofs.lemmas.Bool.{eq-eqb, ne_eqb, cond-true, cond-false}
use Rattle.std.proofs.lemmas.List.{take-append-drop, length-take}
use Rattle.base_model.specs.Bytes.{number_at, AreBytes}
use Rattle.base_model.proofs.BytesLemmas.{number_at-lt, AreBytes-take}
use Rattle.apei_tables.specs.declared.headers.Header.{Header}
use Rattle.apei_tables.specs.declared.headers.TableError.{TableError}
use Rattle.apei_tables.specs.Tables.{FindsTable, refusal as table_refusal}
use Rattle.apei_tables.proofs.Finding.{size-front, none_refused}
use Rattle.hest_sources.specs.declared.sources.HestSource.{HestSource}
use Rattle.hest_sources.specs.declared.tables.HestError.{HestError}
use Rattle.hest_sources.specs.declared.tables.HestError.TheVariants.{Table, UnknownType, Cut, Count, Memory}
use Rattle.hest_sources.specs.Walk.{source_count}
use Rattle.hest_sources.proofs.Terms.{sources_in}
use Rattle.hest_sources.specs.Tables.{IsHest, CountsTable, IsRefusal, refusal}
use Rattle.hest_sources.proofs.Terms.{signature}
use Rattle.hest_sources.proofs.Walks.{AreSources, counts, counts_again}

split : (bytes : List ℕ) (header : Header) (table : List ℕ) → FindsTable signature 40 bytes header table → bytes ≡ table ++ drop (length table) bytes
split bytes header table found = sym (take-append-drop (length table) bytes) ∙ ap (λ (xs : List ℕ). xs ++ drop (length table) bytes) (sym found.prefix)

-- it is short, and within the bytes
pub small_table : (bytes : List ℕ) (header : Header) (table : List ℕ) → AreBytes bytes → FindsTable signature 40 bytes header table → (length table < 2 ^ 32) × (length table ≤ length bytes)
small_table bytes header table each found =
    let all = length-append table (drop (length table) bytes) in
    let same = ap length (split bytes header table found) in
    let low = found.long in
    let each_table : AreBytes table = subst AreBytes (sym found.prefix) (AreBytes-take (length table) bytes each) in
    let small : number_at table 4 4 < 2 ^ 32 = number_at-lt table 4 4 each_table (omega arith) in
    (subst (λ (n : ℕ). n < 2 ^ 32) found.is_table.sealed.length_field small, omega arith)

-- what is found
pub found_is : (bytes table : List ℕ) (count : ℕ) (sources : List HestSource) → AreBytes bytes → CountsTable bytes table count → sources ≡ sources_in table
    → (length table ≤ length bytes) × IsHest sources (take (length table) bytes)
found_is bytes table count sources each t list =
    let each_table : AreBytes table = subst AreBytes (sym t.finds.prefix) (AreBytes-take (length table) bytes each) in
    let c = counts table count each_table t.found in
    let is : IsHest sources table = record {
      is_table = (t.header, t.finds.fits, t.finds.is_table, t.finds.wanted);
      fixed = t.finds.long;
      count = t.declared ∙ c.count ∙ ap length (sym list);
      sources_are = subst (λ (xs : List HestSource). AreSources 40 xs (drop 40 table)) (sym list) c.all;
    } in
    ((small_table bytes t.header table each t.finds).1, subst (IsHest sources) t.finds.prefix is)

-- what is refused behind a header: the count against the number that the walk found
abbrev pub counted_wrong : ℕ → Result ℕ HestError → Option HestError
counted_wrong declared (Ok found) = cond (declared == found) None (Some (Count declared found))
counted_wrong declared (Err error) = Some error

abbrev behind_header : List ℕ → Option TableError → Option HestError
behind_header table None = counted_wrong (number_at table 36 4) (source_count table)
behind_header table (Some error) = Some (Table error)

pub refusal_is : (bytes : List ℕ) (header : Header) (table : List ℕ) → FindsTable signature 40 bytes header table → table_refusal signature 40 bytes ≡ None →
    refusal bytes ≡ counted_wrong (number_at table 36 4) (source_count table)
refusal_is bytes header table found none =
    let size : number_at bytes 4 4 ≡ length table = size-front bytes table (drop (length table) bytes) (split bytes header table found) found.is_table.sealed in
    let same : take (number_at bytes 4 4) bytes ≡ table = ap (λ (n : ℕ). take n bytes) size ∙ sym found.prefix in
    ap (λ (xs : List ℕ). behind_header xs (table_refusal signature 40 bytes)) same ∙ ap (behind_header table) none

pub right_count : (declared found : ℕ) (r : Result ℕ HestError) → r ≡ Ok found → declared ≡ found → counted_wrong declared r ≡ None
right_count declared found r e same = ap (counted_wrong declared) e ∙ cond-true (declared == found) None (Some (Count declared found)) (eq-eqb declared found same)

pub wrong_count : (declared found : ℕ) (r : Result ℕ HestError) → r ≡ Ok found → (declared ≡ found → ⊥) → counted_wrong declared r ≡ Some (Count declared found)
wrong_count declared found r e other = ap (counted_wrong declared) e ∙ cond-false (declared == found) None (Some (Count declared found)) (ne_eqb declared found other)

-- what is such a table is not refused
pub not_refused : (bytes : List ℕ) (sources : List HestSource) (n : ℕ) → n ≤ length bytes → IsHest sources (take n bytes) → refusal bytes ≡ None
not_refused bytes sources n h is =
    let table = take n bytes in
    let header = is.is_table.0 in
    let same : bytes ≡ table ++ drop n bytes = sym (take-append-drop n bytes) in
    let none = none_refused signature 40 bytes header table (drop n bytes) same is.is_table.1 is.is_table.2 is.is_table.3 is.fixed in
    let size : number_at bytes 4 4 ≡ length table = size-front bytes table (drop n bytes) same is.is_table.2.sealed in
    let long : length table ≡ n = length-take n bytes ∙ omega arith in
    let front : take (number_at bytes 4 4) bytes ≡ table = ap (λ (m : ℕ). take m bytes) (size ∙ long) in
    let c = counts_again table sources is.sources_are in
    ap (λ (xs : List ℕ). behind_header xs (table_refusal signature 40 bytes)) front
    ∙ ap (behind_header table) none
    ∙ right_count (number_at table 36 4) (length sources) (source_count table) c.count is.count

-- two such tables that stand first are one
pub same_table : (bytes : List ℕ) (sources others : List HestSource) (n m : ℕ) → n ≤ length bytes → m ≤ length bytes → IsHest sources (take n bytes) →
    IsHest others (take m bytes) → (sources ≡ others) × (n ≡ m)
same_table bytes sources others n m h k is also =
    let long : length (take n bytes) ≡ n = length-take n bytes ∙ omega arith in
    let wide : length (take m bytes) ≡ m = length-take m bytes ∙ omega arith in
    let a = size-front bytes (take n bytes) (drop n bytes) (sym (take-append-drop n bytes)) is.is_table.2.sealed in
    let b = size-front bytes (take m bytes) (drop m bytes) (sym (take-append-drop m bytes)) also.is_table.2.sealed in
    let size : n ≡ m = omega arith in
    let moved : IsHest others (take n bytes) = subst (λ (x : ℕ). IsHest others (take x bytes)) (sym size) also in
    let c = counts_again (take n bytes) sources is.sources_are in
    let d = counts_again (take n bytes) others moved.sources_are in
    (sym c.read ∙ d.read, size)

-- an error of what is such a table is want of memory
only_error : (bytes : List ℕ) (error : HestError) → refusal bytes ≡ None → IsRefusal bytes error → error ≡ Memory
only_error bytes (Table error) none e = let clash : ◌≡◌ {A = Option HestError} None (Some (Table error)) = sym none ∙ e in absurd (cc)
only_error bytes (UnknownType at code) none e = let clash : ◌≡◌ {A = Option HestError} None (Some (UnknownType at code)) = sym none ∙ e in absurd (cc)
only_error bytes (Cut at) none e = let clash : ◌≡◌ {A = Option HestError} None (Some (Cut at)) = sym none ∙ e in absurd (cc)
only_error bytes (Count declared found) none e = let clash : ◌≡◌ {A = Option HestError} None (Some (Count declared found)) = sym none ∙ e in absurd (cc)
only_error bytes Memory none e = refl

-- so what was answered for such a table is that table, but for want of memory
pub only_from : (bytes : List ℕ) (r : Result (List HestSource × ℕ) HestError) (sources : List HestSource) (n : ℕ) → n ≤ length bytes → IsHest sources (take n bytes)
    → IfOk r (λ x. (x.1 ≤ length bytes) × IsHest x.0 (take x.1 bytes)) → MatchResult r (λ _. refusal bytes ≡ None) (IsRefusal bytes)
    → MatchResult r (λ x. (x.0 ≡ sources) × (x.1 ≡ n)) (λ e. e ≡ Memory)
only_from bytes (Ok x) sources n h is found refused = same_table bytes x.0 sources x.1 n found.0 h found.1 is
only_from bytes (Err e) sources n h is found refused = only_error bytes e (not_refused bytes sources n h is) refused
