-- What proofs alone name.
use Rattle.std.specs.Prelude.{◌≡◌, ℕ, List, Result, IsOkAnd}
use denote.Bor.{Bor}
use Rattle.apei_tables.specs.declared.headers.Header.{Header}
use Rattle.apei_tables.specs.declared.headers.TableError.{TableError}

-- the answer is this header and this table
abbrev pub Finds : Header → List ℕ → Result (Header × Bor (List ℕ)) TableError → Type 0
Finds header table result = IsOkAnd result (λ found. (found.0 ≡ header) × (found.1.now ≡ table))
