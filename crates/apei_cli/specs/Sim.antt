-- The simulated flash of a plan.
use Rattle.std.specs.Prelude.{ℕ, Bool, true, false, ◌==◌, if◌then◌else◌, List, [], ◌∷◌, Option, Some, None, option_to_list}
use Rattle.flash_model.specs.Simulation.{Simulation, first_power}
use Rattle.flash_model.specs.declared.cut.Cut.{Cut}
use Rattle.flash_model.specs.declared.tear.Tear.{Tear}
use Rattle.flash_model.specs.declared.tear.Tear.TheVariants.{Nothing, Whole, Zeros, Marks}
use Rattle.apei_cli.specs.declared.job.Job.{Job}
use Rattle.apei_cli.specs.declared.job.Job.TheVariants.{Sim, Gen}
use Rattle.apei_cli.specs.declared.job.Plan.{Plan}

-- a job plays on a simulated flash
abbrev pub simulates : Job → Bool
simulates Sim = true
simulates Gen = true
simulates _ = false

-- a tear by its number; the words give none above 3
abbrev pub tear_numbered : ℕ → Tear
tear_numbered torn = if torn == 0 then Nothing else (if torn == 1 then Whole else (if torn == 2 then Zeros else Marks))

-- the changes that fail: the one that a plan numbers, torn by that number
abbrev pub failing_of : Option ℕ → ℕ → List (ℕ × Tear)
failing_of None torn = []
failing_of (Some step) torn = (step, tear_numbered torn) ∷ []

-- the change in which power is lost
abbrev pub cut_of : Option ℕ → ℕ → Option Cut
cut_of None torn = None
cut_of (Some step) torn = Some (record { step = step; tear = tear_numbered torn })

-- a flash that was not used yet, with a sector size and an image: it fails and loses power where the plan says
abbrev pub new_flash : Plan → ℕ → List ℕ → Simulation
new_flash plan sector image = record {
  told = record { past = []; image = image };
  sector_size = sector;
  power = first_power (cut_of plan.cut plan.torn);
  failing = failing_of plan.fail plan.torn;
  failing_reads = option_to_list plan.fail_read;
  reads = 0;
  faults = 0;
  unpowered = 0;
  restarts = 0;
}
