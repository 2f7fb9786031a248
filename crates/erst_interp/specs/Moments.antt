-- Calls that spend a budget of steps on a space: what they begin with, and what they leave.
use Rattle.std.specs.Prelude.{ℕ}

-- the steps that are left of the budget, and the state of the space
pub record Moment (W : Type 0) : Type 0 where
  pub steps : ℕ
  pub space : W

abbrev pub moment : {W : Type 0} → ℕ → W → Moment W
moment steps space = record { steps = steps; space = space }

-- the relation holds between what a call begins with, its answer, and what it leaves
abbrev pub Between : {W Answer : Type 0} → (ℕ → W → Answer → ℕ → W → Type 0) → Moment W → Answer → Moment W → Type 0
Between relation old answer new = relation old.steps old.space answer new.steps new.space
