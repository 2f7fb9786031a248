use Rattle.std.proofs.Common.{◌≡◌, refl}
use Rattle.ghes_ack.specs.Machine.{Machine, Situation, Filling, Published, Reading, Cleared, Acknowledged, firmware_turn}
use Rattle.ghes_ack.specs.Schedules.{IsHeld}
use Rattle.ghes_ack.proofs.laws.nothing_while_held.Goals as goal

held : (m : Machine) (s : Situation) → IsHeld s → (firmware_turn m s).1 ≡ m
held m Filling h = absurd h
held m Published h = refl
held m Reading h = refl
held m Cleared h = refl
held m Acknowledged h = absurd h

pub returns : goal.returns
returns c m h = held m m.situation h
