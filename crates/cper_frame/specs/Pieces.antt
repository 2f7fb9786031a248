-- A stream in pieces: what a step and what a piece do.
use Rattle.std.specs.Prelude.{◌≡◌, ℕ, ◌<◌, ◌≤◌, List, ◌++◌, length, take, map, Option, Some, None}
use Rattle.std.specs.declared.alloc.Global.{Global}
use Rattle.std.specs.declared.vec.Vec.{Vec}
use Rattle.cper_frame.specs.declared.error.FrameError.{FrameError}
use Rattle.cper_frame.specs.declared.pieces.Progress.{Progress}
use Rattle.cper_frame.specs.declared.pieces.Progress.TheVariants.{Took, Stopped}
use Rattle.cper_frame.specs.Stream.{Reader, Waits, Going, Refused}

-- the bytes of each
abbrev pub contents : List (Vec ℕ Global) → List (List ℕ)
contents records = map (λ v. v.items) records

-- a step took bytes from the front of a rest, or is refused
abbrev pub Stepped : Reader → Reader → List (List ℕ) → List (List ℕ) → List ℕ → Progress → Type 0
Stepped old new before after rest (Took n) =
    (0 < n) × (n ≤ length rest) × Waits new × (new.limit ≡ old.limit)
    × ((stream : List ℕ) → Going old.limit stream before old.held → Going old.limit (stream ++ take n rest) after new.held)
Stepped old new before after rest (Stopped error) =
    (stream : List ℕ) → Going old.limit stream before old.held → Refused old.limit (stream ++ rest) after error

-- a whole piece was taken, or is refused
abbrev pub Passed : Reader → Reader → List (List ℕ) → List (List ℕ) → List ℕ → Option FrameError → Type 0
Passed old new before after piece None =
    Waits new × (new.limit ≡ old.limit) × ((stream : List ℕ) → Going old.limit stream before old.held → Going old.limit (stream ++ piece) after new.held)
Passed old new before after piece (Some error) =
    (stream : List ℕ) → Going old.limit stream before old.held → Refused old.limit (stream ++ piece) after error
