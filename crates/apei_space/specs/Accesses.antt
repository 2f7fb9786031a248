-- Accesses one after another: what a program, or several, do to a space, whatever they are.
use Rattle.std.specs.Prelude.{◌≡◌, List, [], ◌∷◌}
use Rattle.apei_space.specs.Calls.{Call}

-- accesses lead from one state of a space to another; the last of them stands behind those before it
pub data Reaches {S : Type 0} (allows : S → Call → S → Type 0) (first : S) : S → Type 0 where
  Stays : Reaches allows first first
  Goes : (mid : S) (call : Call) (last : S) → Reaches allows first mid → allows mid call last → Reaches allows first last

-- a move of some kind, and the state that it leaves
pub record Move (Event S : Type 0) : Type 0 where
  pub event : Event
  pub left : S

-- these moves, in order, lead from one state to another
abbrev pub Trail : {Event S : Type 0} → (S → Event → S → Type 0) → S → List (Move Event S) → S → Type 0
Trail moves first [] last = last ≡ first
Trail moves first (move ∷ rest) last = moves first move.event move.left × Trail moves move.left rest last
