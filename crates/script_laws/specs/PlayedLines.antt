-- Lines that were played one after another, as one thing.
use Rattle.std.specs.Prelude.{◌≡◌, ℕ, Bool, List}
use Rattle.erst_commands.specs.Attached.{own_client}
use Rattle.apei_script.specs.Players.{PlayerState, GivenNoOther}
use Rattle.script_laws.specs.History.{Played, Follows, AreOwnLines}

-- the player before them, the lines, and the player behind the last one; `wants` are the severities that each listener wants, and `counts`
-- how often each had heard of an error before
pub record PlayedLines (tells : Type 0) : Type 0 where
  pub wants : List (ℕ → Bool)
  pub counts : List ℕ
  pub first : PlayerState
  pub played : List Played
  pub last : PlayerState
  pub follows : Follows tells wants counts first played last

-- only the clients of the machine's two tables play them: the first one is that of the own table, no other table was given, and no line
-- runs an action or gives a table
pub record UseOwnTables (tells : Type 0) (lines : PlayedLines tells) : Type 0 where
  pub own : lines.first.own ≡ own_client lines.first.machine
  pub no_other : GivenNoOther lines.first
  pub own_lines : AreOwnLines lines.played
