-- What a run is given, and what it leaves.
use Rattle.std.specs.Prelude.{List}
use Rattle.base_model.specs.Flash.{FlashState}
use Rattle.script_lines.specs.Streams.{Stream}
use Rattle.apei_cli.specs.declared.job.Plan.{Plan}
use Rattle.apei_cli.specs.declared.status.Status.{Status}

-- the script, and what was written; that nothing was taken from the one, and that nothing was given to the other
pub record Streams : Type 1 where
  pub source : Stream
  pub sink : Stream
  pub unread : Type 0
  pub unwritten : Type 0

-- what a run begins with
pub record Start (L : Type 0) : Type 0 where
  pub order : Plan
  pub flash : FlashState
  pub listeners : List L

-- and what comes of it
pub record Outcome (L : Type 0) : Type 0 where
  pub status : Status
  pub flash : FlashState
  pub listeners : List L
