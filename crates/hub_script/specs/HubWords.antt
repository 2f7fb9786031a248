-- The keywords of the lines, and what may follow each.
use Rattle.std.specs.Prelude.{ℕ, ◌-◌, ◌^◌, List, codes}
use Rattle.script_lines.specs.Parts.{IsPairs, IsNumber, AreTwoNumbers, IsNumberThen}
use Rattle.hub_script.specs.Turns.{AreTurns}
use Rattle.hub_script.specs.declared.hub_line.HubWord.{HubWord}
use Rattle.hub_script.specs.declared.hub_line.HubWord.TheVariants.{Comment, Hest, Error, Turns, Heard, Drop}

-- a keyword, with the space behind it where something follows, and what may follow
abbrev pub form_of : HubWord → List ℕ × (List ℕ → Type 0)
form_of Comment = (codes "#", λ text. Unit {0})
form_of Hest = (codes "hest ", IsPairs)
form_of Error = (codes "error ", IsNumberThen (2 ^ 64 - 1) IsPairs)
form_of Turns = (codes "turns ", AreTurns)
form_of Heard = (codes "heard ", IsNumber 0 (2 ^ 64 - 1))
form_of Drop = (codes "drop ", AreTwoNumbers (2 ^ 64 - 1) 0 (2 ^ 64 - 1))
