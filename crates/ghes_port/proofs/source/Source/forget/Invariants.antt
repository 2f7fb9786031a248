use Rattle.std.proofs.Common.{◌≡◌, length}
use Rattle.ghes_port.proofs.source.Source.forget.Given as goal

abbrev pub invariant-loop : goal.invariant-loop
invariant-loop l = record { id : l.self.id ≡ l.fn.self.id; map : l.self.map ≡ l.fn.self.map; places : l.self.places ≡ l.fn.self.places }

abbrev pub decreases-loop : goal.decreases-loop
decreases-loop l = length l.self.queue
