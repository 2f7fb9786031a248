-- What a run does with a plan, whatever flash it is made on.
use Rattle.std.specs.Prelude.{ℕ, None}
use Rattle.apei_cli.specs.declared.job.Plan.{Plan}

-- how many commands of a seed are generated
pub record Batch : Type 0 where
  pub seed : ℕ
  pub count : ℕ

-- a plan but for the path of its image
abbrev pub order_of : Plan → Plan
order_of plan = record plan { image = None }
