-- Sealed tables, and what is said of bytes that should begin with one.
use Rattle.std.specs.Prelude.{◌≡◌, ℕ, ◌≤◌, ◌%◌, List, length, take, sum, nat_lt, nat_eq, ◌==◌, ◌||◌, not, if◌then◌else◌, Option, Some, None, Result, MatchResult}
use Rattle.std.specs.List.{starts_with}
use denote.Bor.{Bor}
use Rattle.base_model.specs.Bytes.{part, number_at}
use Rattle.apei_tables.specs.declared.headers.Header.{Header}
use Rattle.apei_tables.specs.declared.headers.TableError.{TableError}
use Rattle.apei_tables.specs.declared.headers.TableError.TheVariants.{Short, Signature, Length, Sum}
use Rattle.apei_tables.specs.Layout.{spelling, IsHeader}

-- a table says its own length, and its bytes add to 0 modulo 256
pub record IsSealed (table : List ℕ) : Type 0 where
  pub size : 36 ≤ length table
  pub length_field : number_at table 4 4 ≡ length table
  pub sum : sum table % 256 ≡ 0

-- a sealed table that begins with this header
pub record IsTable (header : Header) (table : List ℕ) : Type 0 where
  pub sealed : IsSealed table
  pub begins : part table 0 36 ≡ spelling header

-- the bytes begin with a table of this signature and of at least this length, and this is its header
pub record FindsTable (signature : List ℕ) (fixed : ℕ) (bytes : List ℕ) (header : Header) (table : List ℕ) : Type 0 where
  pub is_table : IsTable header table
  pub fits : IsHeader header
  pub prefix : table ≡ take (length table) bytes
  pub wanted : header.signature ≡ signature
  pub long : fixed ≤ length table

-- the first reason why bytes don't begin with such a table
abbrev pub refusal : List ℕ → ℕ → List ℕ → Option TableError
refusal signature fixed bytes =
    let size = number_at bytes 4 4 in
    let total = sum (take size bytes) % 256 in
    if nat_lt (length bytes) 36 then Some (Short (length bytes))
    else (if not (starts_with nat_eq bytes signature) then Some (Signature (part bytes 0 4))
    else (if nat_lt size fixed || nat_lt (length bytes) size then Some (Length size)
    else (if not (total == 0) then Some (Sum total)
    else None)))

-- an error is that reason, and where there is none the answer is a table
abbrev pub Refuses : List ℕ → ℕ → List ℕ → Result (Header × Bor (List ℕ)) TableError → Type 0
Refuses signature fixed bytes result =
    MatchResult result (λ _. refusal signature fixed bytes ≡ None) (λ error. refusal signature fixed bytes ≡ Some error)
