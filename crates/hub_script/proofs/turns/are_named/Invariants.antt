use Rattle.std.proofs.Common.{ℕ, ◌<◌}
use Rattle.ghes_hub.specs.Hubs.{sources_in}
use Rattle.ghes_hub.specs.Seen.{seen}
use Rattle.hub_script.specs.Plays.{source_of}
use Rattle.std.specs.Prelude.{get_or, ◌*◌}
use Rattle.hub_script.proofs.turns.are_named.Given as goal

abbrev pub invariant-naming : goal.invariant-naming
invariant-naming g l = (k : ℕ) → k < l.at → source_of (get_or l.fn.pairs (2 * k) 0) < sources_in (seen l.fn.hub)
