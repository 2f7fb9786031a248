-- A text leaves a language at one column.
use Rattle.std.proofs.Common.{◌≡◌, ℕ, ◌<◌, ◌⊎◌, inl, inr, List, arith}
use Rattle.std.proofs.lemmas.Bool.{cases_order}
use Rattle.script_lines.specs.Columns.{Breaks, BreaksAt}

pub same_reach : (Is : List ℕ → Type 0) (text : List ℕ) (a b : ℕ) → Breaks Is text a → Breaks Is text b → a ≡ b
same_reach Is text a b x y = choose (cases_order a b)
  where
    choose : (a ≡ b) ⊎ ((a < b) ⊎ (b < a)) → a ≡ b
    choose (inl is) = is
    choose (inr (inl below)) = absurd (x.longest b below y.within y.begins)
    choose (inr (inr above)) = absurd (y.longest a above x.within x.begins)

pub same_column : (Is : List ℕ → Type 0) (text : List ℕ) (a b : ℕ) → BreaksAt Is text a → BreaksAt Is text b → a ≡ b
same_column Is text a b x y = let is : x.0 ≡ y.0 = same_reach Is text x.0 y.0 x.1 y.1 in let h = x.2 in let h' = y.2 in omega arith
