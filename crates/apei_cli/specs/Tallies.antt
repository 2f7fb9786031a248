-- One more command in a tally.
use Rattle.std.specs.Prelude.{◌+◌, ◌-◌, ◌^◌, ◌<◌, Bool, true, false}
use Rattle.apei_cli.specs.declared.generate.command.Command.{Command}
use Rattle.apei_cli.specs.declared.generate.command.Command.TheVariants.{Write, Clear, Read, Next}
use Rattle.apei_cli.specs.declared.generate.tally.Tally.{Tally}

abbrev pub counted_kind : Command → Tally → Tally
counted_kind (Write id size) tally = record tally { writes = tally.writes + 1 }
counted_kind (Clear id) tally = record tally { clears = tally.clears + 1 }
counted_kind (Read id) tally = record tally { reads = tally.reads + 1 }
counted_kind Next tally = record tally { nexts = tally.nexts + 1 }

abbrev pub counted_refusal : Bool → Tally → Tally
counted_refusal true tally = record tally { refused = tally.refused + 1 }
counted_refusal false tally = tally

-- no count is at its type's end
pub record HasRoom (tally : Tally) : Type 0 where
  pub writes : tally.writes < 2 ^ 64 - 1
  pub clears : tally.clears < 2 ^ 64 - 1
  pub reads : tally.reads < 2 ^ 64 - 1
  pub nexts : tally.nexts < 2 ^ 64 - 1
  pub refused : tally.refused < 2 ^ 64 - 1
