-- What is true of lines that were played, one after another, on one machine.
use Rattle.std.specs.Prelude.{◌≡◌, ◌<◌, ◌≤◌, ℕ, Bool, List, None}
use Rattle.base_model.specs.Flash.{CrashImage, IsLater}
use Rattle.record_model.specs.Records.{Stored}
use Rattle.erst_machine.specs.MachineState.{IsMachine, records_of, told_of}
use Rattle.erst_machine.specs.Shown.{changes_of, shown_by}
use Rattle.erst_commands.specs.Attached.{own_client}
use Rattle.script_laws.specs.Spares.{KeepsAll, KeepsInAny}
use Rattle.script_laws.specs.Orders.{IsInStep, AlwaysInStep, AllGiveStoredBack}
use Rattle.script_laws.specs.KeptCauses.{AllHaveCauses}
use Rattle.apei_script.specs.Players.{PlayerState, GivenNoOther}
use Rattle.apei_script.specs.Plays.{HasHappened}
use Rattle.script_laws.specs.History.{Played, Follows, ShowsLines, ShowsEachLine, AreOwnLines}
use Rattle.erst_bridge.specs.Bridges.{Off}

-- what happens in lines, one after another, is one list
abbrev pub AreOneList : Type 0 → Type 0
AreOneList tells = (wants : List (ℕ → Bool)) (counts : List ℕ) (first : PlayerState) (played : List Played) (last : PlayerState)
    → Follows tells wants counts first played last → HasHappened tells first.machine last.machine

-- the end of each line shows the records that it leaves
abbrev pub ShowsEnds : Type 0 → Type 0
ShowsEnds tells = tells → (wants : List (ℕ → Bool)) (counts : List ℕ) (first : PlayerState) (played : List Played) (last : PlayerState)
    → Follows tells wants counts first played last → ShowsEachLine last first played × IsLater (told_of first.machine) (told_of last.machine)

-- power lost at a step shows the records after the lines that had ended by then, or as the next one leaves them
abbrev pub ShowsCrashes : Type 0 → Type 0
ShowsCrashes tells = tells → (wants : List (ℕ → Bool)) (counts : List ℕ) (first : PlayerState) (played : List Played) (last : PlayerState)
    → first.own ≡ own_client first.machine → GivenNoOther first → AreOwnLines played
    → Follows tells wants counts first played last
    → (s : ℕ) (image : List ℕ) → changes_of first.machine ≤ s → CrashImage (told_of last.machine) s image
    → ShowsLines s first played (shown_by first.machine image)

-- a block that the bridge stored is shown from then on, as long as its identifier is spared
abbrev pub KeepsAllBlocks : Type 0 → Type 0
KeepsAllBlocks tells = tells → (wants : List (ℕ → Bool)) (counts : List ℕ) (first : PlayerState) (played : List Played) (last : PlayerState)
    → IsMachine first.machine → first.own ≡ own_client first.machine → GivenNoOther first → AreOwnLines played
    → Follows tells wants counts first played last
    → (s : ℕ) (shown : Stored) → (changes_of first.machine ≤ s → ShowsLines s first played shown) → KeepsAll s first played shown

-- so it is in any script. Before the end of the lines power was lost in them; from then on the image shows the records that they leave
abbrev pub KeepsBlocksInAny : Type 0 → Type 0
KeepsBlocksInAny tells = tells → (wants : List (ℕ → Bool)) (counts : List ℕ) (first : PlayerState) (played : List Played) (last : PlayerState)
    → IsMachine first.machine → first.own ≡ own_client first.machine → Follows tells wants counts first played last
    → (s : ℕ) (image : List ℕ) → (s < changes_of last.machine → CrashImage (told_of last.machine) s image)
    → (changes_of last.machine ≤ s → shown_by first.machine image ≡ records_of last.machine)
    → KeepsInAny s first played (shown_by first.machine image)

-- a bridge that is on stays in step with the handover
abbrev pub KeepsAllInStep : Type 0 → Type 0
KeepsAllInStep tells = (wants : List (ℕ → Bool)) (counts : List ℕ) (first : PlayerState) (played : List Played) (last : PlayerState)
    → IsMachine first.machine → Follows tells wants counts first played last → IsInStep first → AlwaysInStep first played

-- each block that the reader clears or acknowledges under a bridge is the one that was stored last
abbrev pub GivesAllStoredBack : Type 0 → Type 0
GivesAllStoredBack tells = (wants : List (ℕ → Bool)) (counts : List ℕ) (first : PlayerState) (played : List Played) (last : PlayerState)
    → IsMachine first.machine → Follows tells wants counts first played last → (first.bridge ≡ Off) → AllGiveStoredBack None first played

-- a turn that keeps its block for a failure of the flash has its cause
abbrev pub GivesAllCauses : Type 0 → Type 0
GivesAllCauses tells = (wants : List (ℕ → Bool)) (counts : List ℕ) (first : PlayerState) (played : List Played) (last : PlayerState)
    → IsMachine first.machine → first.own ≡ own_client first.machine → Follows tells wants counts first played last → AllHaveCauses first played

pub record HaveLaws (tells : Type 0) : Type 0 where
  pub one_list : AreOneList tells
  pub ends : ShowsEnds tells
  pub crash : ShowsCrashes tells
  pub kept : KeepsAllBlocks tells
  pub in_any : KeepsBlocksInAny tells
  pub in_step : KeepsAllInStep tells
  pub given_back : GivesAllStoredBack tells
  pub causes : GivesAllCauses tells
