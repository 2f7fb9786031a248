-- Listeners that are dealt out, one after another, to some chains.
use Rattle.std.specs.Prelude.{◌≡◌, ℕ, ◌+◌, ◌≤◌, ◌%◌, ◌==◌, if◌then◌else◌, List, [], ◌∷◌, ◌++◌, length, map, Some, slice_get, Vec, vec_capacity}
use Rattle.std.specs.declared.alloc.Global.{Global}
use Rattle.ghes_hub.specs.Chains.{in_order}

-- those that chain i gets of listeners the first of which has number k
abbrev pub dealt_to : {L : Type 0} → ℕ → ℕ → ℕ → List L → List L
dealt_to n i k [] = []
dealt_to n i k (x ∷ xs) = if k % n == i then x ∷ dealt_to n i (k + 1) xs else dealt_to n i (k + 1) xs

-- n lists, that hold the first k listeners dealt out, with room for them all
pub record AreDealt {X : Type 0} (n k : ℕ) (all rest : List X) (lists : List (Vec X Global)) : Type 0 where
  pub count : length lists ≡ n
  pub each : (i : ℕ) (list : Vec X Global) → slice_get lists i ≡ Some list → list.items ++ dealt_to n i k rest ≡ dealt_to n i 0 all
  pub room : (i : ℕ) (list : Vec X Global) → slice_get lists i ≡ Some list → length all ≤ vec_capacity list
  pub total : length (in_order (map (λ list. list.items) lists)) ≡ k

-- n lists with room for so many
pub record AreEmpty {X : Type 0} (n many : ℕ) (lists : List (Vec X Global)) : Type 0 where
  pub count : length lists ≡ n
  pub each : (i : ℕ) (list : Vec X Global) → slice_get lists i ≡ Some list → list.items ≡ []
  pub room : (i : ℕ) (list : Vec X Global) → slice_get lists i ≡ Some list → many ≤ vec_capacity list
