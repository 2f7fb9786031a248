-- The history of a run: a chain of states, one a line.
use Rattle.std.specs.Prelude.{◌≡◌, ◌⊎◌, ℕ, ◌+◌, ◌-◌, ◌^◌, ◌==◌, ◌≤◌, nat_le, min, if◌then◌else◌, Bool, true, MatchBool, List, [], ◌∷◌}
use Rattle.std.specs.List.{flat_map}
use Rattle.base_model.specs.Faults.{Rose}
use Rattle.base_model.specs.Flash.{image_at}
use Rattle.record_model.specs.Records.{Stored}
use Rattle.apei_notify.specs.Telling.{wanted}
use Rattle.erst_client.specs.Timings.{enough_steps}
use Rattle.erst_machine.specs.MachineState.{records_of, told_of}
use Rattle.erst_machine.specs.Shown.{shown_by, changes_of}
use Rattle.erst_bridge.specs.Shown.{ShowsTurns}
use Rattle.apei_script.specs.Players.{PlayerState, client_of, budget_of, UsesOwn, UsesShadow, UsesEither}
use Rattle.apei_script.specs.Words.{said_at, text_of_replies}
use Rattle.apei_script.specs.Mapped.{Mapped, after_line}
use Rattle.apei_script.specs.ShadowMapped.{ShadowMapped}
pub use Rattle.apei_script.specs.Plays.{Played}
use Rattle.apei_script.specs.Plays.{LinePlayed, names_command, IsOwnLine, SaysHardware, SaysNoStop}
use Rattle.apei_script.specs.Bridged.{changes_in}

-- the counts of the listeners once they were told of some blocks, each of those that it wants; `wants` are the severities that each of them wants
abbrev pub heard_after : List (ℕ → Bool) → List (List ℕ) → List ℕ → List ℕ
heard_after (want ∷ wants) blocks (count ∷ counts) =
    (if wanted want blocks == 0 then count else min (count + wanted want blocks) (2 ^ 64 - 1)) ∷ heard_after wants blocks counts
heard_after wants blocks counts = counts

-- lines one after another: each is played by the player that the one before it left
abbrev pub Follows : Type 0 → List (ℕ → Bool) → List ℕ → PlayerState → List Played → PlayerState → Type 0
Follows tells wants counts first [] last = last ≡ first
Follows tells wants counts first (played ∷ rest) last =
    LinePlayed tells counts first played × Follows tells wants (heard_after wants played.blocks counts) played.left rest last

-- the blocks of which the listeners were told
abbrev pub blocks_of : List Played → List (List ℕ)
blocks_of lines = flat_map (λ (played : Played). played.blocks) lines

-- the replies to lines, as they are written
abbrev pub text_of : List Played → List ℕ
text_of lines = flat_map (λ (played : Played). text_of_replies played.said) lines

-- the lines end one after another, between these numbers of flash changes
abbrev pub EndInOrder : ℕ → List Played → ℕ → Type 0
EndInOrder from [] to = from ≤ to
EndInOrder from (played ∷ rest) to = (from ≤ changes_of played.left.machine) × EndInOrder (changes_of played.left.machine) rest to

-- the flash step behind each reply counts the changes that the flash tells
abbrev pub AreCounted : List Played → Type 0
AreCounted [] = Unit {0}
AreCounted (played ∷ rest) = (changes_of played.left.machine ≡ changes_in played.left.machine) × AreCounted rest

-- What power lost at step s may show: the records after the lines that had ended by s, or what the next line shows. That is the records from
-- before it, or as it leaves them where nothing fails; in turns of the bridge those after the turns that had ended by s, or as the next one leaves
-- them
abbrev pub ShowsLines : ℕ → PlayerState → List Played → Stored → Type 0
ShowsLines s state [] shown = shown ≡ records_of state.machine
ShowsLines s state (played ∷ rest) shown =
    MatchBool (nat_le (changes_of played.left.machine) s)
    (ShowsLines s played.left rest shown)
    (elim played.steps [
      | [] ↦ (shown ≡ records_of state.machine) ⊎ (shown ≡ after_line (client_of state).range state.machine played.line)
      | step ∷ more ↦ ShowsTurns s state.bridge state.machine (step ∷ more) shown
    ])

-- at the step at which each line ended, the image showed the records that it leaves
abbrev pub ShowsEachLine : PlayerState → PlayerState → List Played → Type 0
ShowsEachLine last state [] = Unit {0}
ShowsEachLine last state (played ∷ rest) =
    (shown_by state.machine (image_at (told_of last.machine) (changes_of played.left.machine)) ≡ records_of played.left.machine) × ShowsEachLine last played.left rest

-- scripts without lines that run an action or give a table
abbrev pub AreOwnLines : List Played → Type 0
AreOwnLines [] = Unit {0}
AreOwnLines (played ∷ rest) = IsOwnLine played.line × AreOwnLines rest

-- a line is the record map's, in one reply whose words are these. It says that the flash failed only where its count of faults rose in this
-- very line, and where its steps are enough it is never stopped, and never late
pub record IsMappedBy (Maps : List ℕ → Type 0) (state : PlayerState) (played : Played) : Type 0 where
  pub words : List ℕ
  pub said : played.said ≡ said_at (changes_in played.left.machine) (words ∷ [])
  pub mapped : Maps words
  pub cause : SaysHardware played.said → Rose state.machine.device.store.flash.faults played.left.machine.device.store.flash.faults
  pub enough : enough_steps (client_of state).timings ≤ budget_of state → SaysNoStop played.said

-- so is each line that asks for a command on records, by the machine's own table and by that whose own programs move the record
abbrev pub AreMapped : PlayerState → List Played → Type 0
AreMapped state [] = Unit {0}
AreMapped state (played ∷ rest) =
    (UsesOwn state → names_command played.line ≡ true
    → IsMappedBy (λ words. Mapped (budget_of state) state.machine played.line words played.left.machine) state played)
    × (UsesShadow state → names_command played.line ≡ true
    → IsMappedBy (λ words. ShadowMapped (budget_of state) state.machine played.line words played.left.machine) state played)
    × AreMapped played.left rest

-- none of these lines says that the flash failed
abbrev pub NoneSaysHardware : PlayerState → List Played → Type 0
NoneSaysHardware state [] = Unit {0}
NoneSaysHardware state (played ∷ rest) = (UsesEither state → names_command played.line ≡ true → SaysHardware played.said → ⊥) × NoneSaysHardware played.left rest

-- none of these lines that has enough steps is stopped or late
abbrev pub AllGoThrough : PlayerState → List Played → Type 0
AllGoThrough state [] = Unit {0}
AllGoThrough state (played ∷ rest) =
    (UsesEither state → names_command played.line ≡ true → enough_steps (client_of state).timings ≤ budget_of state → SaysNoStop played.said)
    × AllGoThrough played.left rest

-- before each line, and at the end, the client of one of the machine's two tables is in use
abbrev pub AlwaysUsesEither : PlayerState → List Played → Type 0
AlwaysUsesEither state [] = UsesEither state
AlwaysUsesEither state (played ∷ rest) = UsesEither state × AlwaysUsesEither played.left rest
