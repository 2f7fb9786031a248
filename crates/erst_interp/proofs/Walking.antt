-- One instruction more, or the stop that it makes.
use Rattle.std.proofs.Common.{◌≡◌, ℕ, ◌+◌, Some, Ok, Err, Result, slice_get, arith}
use Rattle.apei_space.specs.Calls.{Call}
use Rattle.erst_entries.specs.declared.entries.Entry.{Entry}
use Rattle.erst_entries.specs.Programs.{Listed}
use Rattle.erst_interp.specs.declared.configurations.Configuration.{Configuration}
use Rattle.erst_interp.specs.declared.stops.RunStop.{RunStop}
use Rattle.erst_interp.specs.Steps.{Executes, GoesOn, Stops}
use Rattle.erst_interp.specs.Runs.{Walk, Then, Run, Halts, HasProgram, task_of}

-- what comes of an instruction
abbrev pub WalksOn : {W : Type 0} → (W → Call → W → Type 0) → Listed → ℕ → ℕ → W → Result Configuration RunStop → ℕ → W → Type 0
WalksOn allows program given budget first (Ok d) left new = Walk allows program given budget first left d new
WalksOn allows program given budget first (Err stop) left new = Run allows program given budget first (Err stop) left new

pub walks_on : {W : Type 0} (allows : W → Call → W → Type 0) (program : Listed) (given budget : ℕ) (first : W) (paid : ℕ) (c : Configuration) (mid : W) (entry : Entry)
    (answer : Result Configuration RunStop) (left : ℕ) (new : W) →
    HasProgram program → Walk allows program given budget first (paid + 1) c mid → slice_get program.entries c.place ≡ Some entry →
    Executes allows (task_of program given entry c) paid mid answer left new → WalksOn allows program given budget first answer left new
walks_on allows program given budget first paid c mid entry answer left new has walk here executes =
    elim executes as (λ answer left new executes. WalksOn allows program given budget first answer left new) [
      | GoesOn d more left new step sum ↦
          let all : left + more + 1 ≡ paid + 1 = omega arith in
          Then (paid + 1) c mid entry d more left new walk here step all
      | Stops stop left new halt ↦ Halts paid c mid entry stop left new has walk here halt
    ]
