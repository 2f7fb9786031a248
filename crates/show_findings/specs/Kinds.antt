-- The kind of a file.
use Rattle.std.specs.Prelude.{◌≡◌, ℕ, List, Option, Some, None}
use Rattle.image_survey.specs.declared.heads.Guess.{Guess}
use Rattle.image_survey.specs.Heads.{IsGuess}
use Rattle.show_findings.specs.declared.kinds.FileKind.{FileKind}
use Rattle.show_findings.specs.declared.kinds.FileKind.TheVariants.{Image}
use Rattle.show_findings.specs.Signatures.{signed_kind}
use Rattle.show_findings.specs.Names.{named_kind}
use Rattle.show_findings.specs.Shapes.{shaped_kind}

-- the first of two, where there is one
abbrev pub first_of : {X : Type 0} → Option X → Option X → Option X
first_of None other = other
first_of (Some first) other = Some first

abbrev pub or : {X : Type 0} → Option X → X → X
or None other = other
or (Some first) other = first

-- what a signature tells, or else the name
abbrev pub told_kind : (name bytes : List ℕ) → Option FileKind
told_kind name bytes = first_of (signed_kind bytes) (named_kind name)

-- the geometry that the file seems to have, or else its form
abbrev pub kind_of_guess : Option Guess → FileKind → FileKind
kind_of_guess None kind = kind
kind_of_guess (Some guess) kind = Image guess.geometry

abbrev pub IsUntoldKind : List ℕ → FileKind → Type 0
IsUntoldKind bytes kind = (guess : Option Guess) × IsGuess bytes guess × (kind ≡ kind_of_guess guess (shaped_kind bytes))

abbrev pub IsKindBy : Option FileKind → List ℕ → FileKind → Type 0
IsKindBy None bytes kind = IsUntoldKind bytes kind
IsKindBy (Some told) bytes kind = kind ≡ told

abbrev pub IsKind : (name bytes : List ℕ) → FileKind → Type 0
IsKind name bytes kind = IsKindBy (told_kind name bytes) bytes kind

-- what stands behind an item
abbrev pub kind_behind : List ℕ → FileKind
kind_behind bytes = or (signed_kind bytes) (shaped_kind bytes)
