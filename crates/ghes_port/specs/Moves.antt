-- A source that goes on elsewhere: it is begun by the same setup, given its blocks, and put at its stage.
use Rattle.std.specs.Prelude.{◌≡◌, ℕ, List, [], ◌∷◌}
use Rattle.ghes_port.specs.declared.setups.Setup.{Setup}
use Rattle.ghes_port.specs.declared.stages.Stage.TheVariants.{Hide}
use Rattle.ghes_port.specs.Machine.{SourceState, submitted}
use Rattle.ghes_port.specs.Setups.{begun}

-- a source as it was begun
abbrev pub unstarted : SourceState → SourceState
unstarted s = record s { stage = Hide; queue = [] }

abbrev pub submitted_all : SourceState → List (List ℕ) → SourceState
submitted_all s [] = s
submitted_all s (block ∷ blocks) = submitted_all (submitted s block) blocks

abbrev pub IsMoved : Setup → (old new : SourceState) → Type 0
IsMoved s old new = (unstarted old ≡ begun s) × (new ≡ record (submitted_all (begun s) old.queue) { stage = old.stage })
