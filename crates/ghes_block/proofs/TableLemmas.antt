-- What is found is the table that stands first, and what is one is found.
use Rattle.std.proofs.Common.{◌≡◌, ◌∙◌, ℕ, ◌≤◌, List, ◌++◌, length, take, drop, Some, None, Result, Ok, Err, sym, ap, subst, arith, length-append}
use Rattle.std.specs.Prelude.{MatchResult, IfOk, IsOkAnd}
use Rattle.std.proofs.lemmas.List.{take-append-drop, length-take}
use Rattle.base_model.specs.Bytes.{number_at}
use Rattle.apei_tables.specs.declared.headers.Header.{Header}
use Rattle.apei_tables.specs.declared.headers.TableError.{TableError}
use Rattle.apei_tables.specs.Tables.{FindsTable, refusal}
use Rattle.apei_tables.proofs.Finding.{size-front, none_refused}
use Rattle.ghes_block.specs.declared.table.Bert.{Bert}
use Rattle.ghes_block.specs.Table.{IsBert}
use Rattle.ghes_block.proofs.Terms.{signature}

split : (bytes : List ℕ) (header : Header) (table : List ℕ) → FindsTable signature 48 bytes header table → bytes ≡ table ++ drop (length table) bytes
split bytes header table found = sym (take-append-drop (length table) bytes) ∙ ap (λ (xs : List ℕ). xs ++ drop (length table) bytes) (sym found.prefix)

pub found_is : (bytes : List ℕ) (header : Header) (table : List ℕ) (bert : Bert) → FindsTable signature 48 bytes header table → number_at table 36 4 ≡ bert.len → number_at table 40 8 ≡ bert.region →
    (length table ≤ length bytes) × IsBert bert (take (length table) bytes)
found_is bytes header table bert found len region =
    let all = length-append table (drop (length table) bytes) in
    let same = ap length (split bytes header table found) in
    let is : IsBert bert table = record { is_table = (header, found.fits, found.is_table, found.wanted); fixed = found.long; len = len; region = region } in
    (omega (arith, all, same), subst (IsBert bert) found.prefix is)

-- what is such a table is not refused
not_refused : (bytes : List ℕ) (bert : Bert) (n : ℕ) → IsBert bert (take n bytes) → refusal signature 48 bytes ≡ None
not_refused bytes bert n is =
    none_refused signature 48 bytes is.is_table.0 (take n bytes) (drop n bytes) (sym (take-append-drop n bytes)) is.is_table.1 is.is_table.2 is.is_table.3 is.fixed

size_is : (bytes : List ℕ) (bert : Bert) (n : ℕ) → n ≤ length bytes → IsBert bert (take n bytes) → number_at bytes 4 4 ≡ n
size_is bytes bert n h is = size-front bytes (take n bytes) (drop n bytes) (sym (take-append-drop n bytes)) is.is_table.2.sealed ∙ length-take n bytes ∙ omega (arith, h)

bert_of : ℕ → ℕ → Bert
bert_of len region = record { len = len; region = region }

same_bert : (one other : Bert) (table : List ℕ) → IsBert one table → IsBert other table → one ≡ other
unfolding bert_of
same_bert one other table a b = ap (λ (n : ℕ). bert_of n one.region) (sym a.len ∙ b.len) ∙ ap (λ (n : ℕ). bert_of other.len n) (sym a.region ∙ b.region)

pub only_from : (bytes : List ℕ) (result : Result (Bert × ℕ) TableError) (bert : Bert) (n : ℕ) → n ≤ length bytes → IsBert bert (take n bytes) →
    IfOk result (λ x. (x.1 ≤ length bytes) × IsBert x.0 (take x.1 bytes)) → MatchResult result (λ _. refusal signature 48 bytes ≡ None) (λ error. refusal signature 48 bytes ≡ Some error) →
    IsOkAnd result (λ x. (x.0 ≡ bert) × (x.1 ≡ n))
only_from bytes (Ok x) bert n h is found refused =
    let size : x.1 ≡ n = sym (size_is bytes x.0 x.1 found.0 found.1) ∙ size_is bytes bert n h is in
    (same_bert x.0 bert (take n bytes) (subst (λ (k : ℕ). IsBert x.0 (take k bytes)) size found.1) is, size)
only_from bytes (Err error) bert n h is found refused = absurd (let both = sym refused ∙ not_refused bytes bert n is in cc)
