-- What the programs of the machine's two tables do, and what attaching to them finds.
use Rattle.erst_interp.proofs.StraightLemmas.{ran_straight}
use Rattle.erst_machine.specs.Allowed.{Allows}
use Rattle.erst_machine.specs.MachineState.{MachineState, IsMachine}
use Rattle.erst_commands.specs.OwnPrograms.{OwnProgramsRun}
use Rattle.erst_commands.specs.Theorems.{AttachingFindsItsClient}
use Rattle.erst_commands.proofs.OwnProgramLemmas.{StraightRuns, own_programs_run}
use Rattle.erst_commands.proofs.AttachLemmas.{attach_own}
use Rattle.erst_shadow.specs.ShadowTheorems.{AttachingFindsShadowClient}
use Rattle.erst_shadow.proofs.AttachLemmas.{attaches_shadow}

straight_runs : (tells : Type 0) → StraightRuns tells
straight_runs tells program straight given budget first result left last some run = ran_straight (Allows tells) program straight some given budget first result left last run

pub own_programs : (tells : Type 0) → OwnProgramsRun tells
own_programs tells = own_programs_run tells (straight_runs tells)

pub attaching_finds_its_client : (tells : Type 0) (first : MachineState) → AttachingFindsItsClient tells first
attaching_finds_its_client tells first = λ run. attach_own tells (own_programs tells) run.budget first run.answer run.left run.last

pub attaching_finds_shadow_client : (tells : Type 0) (first : MachineState) → IsMachine first → AttachingFindsShadowClient tells first
attaching_finds_shadow_client tells first machine = λ run. attaches_shadow tells (straight_runs tells) (own_programs tells) run.budget first run.answer run.left run.last machine
