use Rattle.std.proofs.Common.{◌≡◌, ◌+◌, ℕ, List, length}
use Rattle.smbios.specs.Texts.{Follows}
use Rattle.smbios.proofs.texts.numbered.Given as goal

abbrev pub invariant-loop-before : goal.invariant-loop-before
invariant-loop-before l = (texts : List (List ℕ)) × Follows l.strings texts l.rest × (l.before ≡ length texts + 1)
