-- The free slots: those that are no slot of any record.
use Rattle.std.specs.Prelude.{ℕ, zero, suc, ◌+◌, Bool, true, false, ◌==◌, ◌||◌, Option, Some, None}
use Rattle.std.specs.List.{list_any}
use Rattle.record_model.specs.Entries.{Entry}

-- whether slot j is one of the slots of the record of slot k
abbrev pub holds : Option Entry → ℕ → ℕ → Bool
holds None k j = false
holds (Some entry) k j = j == k || list_any (λ n. j == n) entry.further

-- or of a record of the first n slots. A slot is free where it is not one of the slots of any record
unfoldable pub is_taken : (ℕ → Option Entry) → ℕ → ℕ → Bool
is_taken entry zero j = false
is_taken entry (suc n) j = is_taken entry n j || holds (entry n) n j

abbrev pub one_if : Bool → ℕ
one_if true = 1
one_if false = 0

-- how many numbers below n pass a test
unfoldable pub count_below : (ℕ → Bool) → ℕ → ℕ
count_below test zero = 0
count_below test (suc n) = one_if (test n) + count_below test n
