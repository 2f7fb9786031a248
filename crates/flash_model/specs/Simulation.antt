-- A simulated flash as its callers see it, and what a change makes of it.
use Rattle.std.specs.Prelude.{◌≡◌, ◌⊎◌, ℕ, ◌-◌, ◌^◌, Bool, true, false, ◌==◌, if◌then◌else◌, List, [], ◌∷◌, ◌++◌, length, replicate, Contains, find, Option, Some, None}
use Rattle.std.specs.Option.{option_map}
use Rattle.base_model.specs.Bytes.{put_at}
use Rattle.base_model.specs.Flash.{Told, FlashState, next_count, unpowered_after}
use Rattle.flash_model.specs.declared.cut.Cut.{Cut}
use Rattle.flash_model.specs.declared.tear.Tear.{Tear}
use Rattle.flash_model.specs.declared.tear.Tear.TheVariants.{Nothing, Whole, Zeros, Marks}
use Rattle.flash_model.specs.declared.power.Power.{Power}
use Rattle.flash_model.specs.declared.power.Power.TheVariants.{On, Until, Lost}

-- what it tells, its sector size in bytes, its power, the changes and the reads that fail, each by its number, and its
-- counts of reads, of faults, of calls that found no power, and of restarts
pub record Simulation : Type 0 where
  pub told : Told
  pub sector_size : ℕ
  pub power : Power
  pub failing : List (ℕ × Tear)
  pub failing_reads : List ℕ
  pub reads : ℕ
  pub faults : ℕ
  pub unpowered : ℕ
  pub restarts : ℕ

-- the changes that were asked for so far: each is told
abbrev pub steps_of : Simulation → ℕ
steps_of flash = length flash.told.past

abbrev pub has_power : Power → Bool
has_power On = true
has_power (Until cut) = true
has_power Lost = false

abbrev pub state_of : Simulation → FlashState
state_of flash = record {
  told = flash.told;
  size = length flash.told.image;
  sector_size = flash.sector_size;
  steps = steps_of flash;
  reads = flash.reads;
  faults = flash.faults;
  powered = has_power flash.power;
  unpowered = flash.unpowered;
  restarts = flash.restarts;
}

-- power as a flash begins with it
abbrev pub first_power : Option Cut → Power
first_power None = On
first_power (Some cut) = Until cut

-- how the list has change number step torn
abbrev pub listed_tear : List (ℕ × Tear) → ℕ → Option Tear
listed_tear failing step = option_map (λ one. one.1) (find (λ one. one.0 == step) failing)

-- how change number step is torn. The cut's tear comes first
abbrev pub tear_at : Power → List (ℕ × Tear) → ℕ → Option Tear
tear_at (Until cut) failing step = if cut.step == step then Some cut.tear else listed_tear failing step
tear_at On failing step = listed_tear failing step
tear_at Lost failing step = listed_tear failing step

-- power after change number step. A cut comes once
abbrev pub power_after : Power → ℕ → Power
power_after (Until cut) step = if cut.step == step then Lost else Until cut
power_after On step = On
power_after Lost step = Lost

-- what becomes of the next change: no more can be counted, or power is lost, or it reaches its range, torn or whole
pub data Fate : Type 0 where
  Uncounted : Fate
  Unpowered : Fate
  Reaches : Option Tear → Fate

abbrev pub fate_under : Power → Option Tear → Fate
fate_under Lost tear = Unpowered
fate_under On tear = Reaches tear
fate_under (Until cut) tear = Reaches tear

unfoldable pub fate_of : Simulation → Fate
fate_of flash =
    if steps_of flash == 2 ^ 64 - 1 then Uncounted
    else fate_under flash.power (tear_at flash.power flash.failing (steps_of flash))

-- the image that a change of a range to these bytes leaves, torn so or whole
abbrev pub image_left : Option Tear → List ℕ → ℕ → List ℕ → List ℕ
image_left None image at bytes = put_at image at bytes
image_left (Some Nothing) image at bytes = image
image_left (Some Whole) image at bytes = put_at image at bytes
image_left (Some Zeros) image at bytes = put_at image at (replicate (length bytes) 0x00)
image_left (Some Marks) image at bytes = put_at image at (replicate (length bytes) 0xA5)

-- one change of a range more, and the image that it left
abbrev pub with_change : Told → ℕ → ℕ → List ℕ → Told
with_change told at len image = record {
  past = told.past ++ (record { before = told.image; at = at; len = len }) ∷ [];
  image = image;
}

abbrev pub faults_after : Option Tear → ℕ → ℕ
faults_after None faults = faults
faults_after (Some tear) faults = next_count faults

-- after a change without power: one change of nothing and one fault more
abbrev pub after_unpowered : Simulation → Simulation
after_unpowered flash = record flash {
  told = with_change flash.told 0 0 flash.told.image;
  faults = next_count flash.faults;
  unpowered = next_count flash.unpowered;
}

-- after a change that reached its range
abbrev pub after_reaching : Option Tear → Simulation → ℕ → List ℕ → Simulation
after_reaching tear flash at bytes = record flash {
  told = with_change flash.told at (length bytes) (image_left tear flash.told.image at bytes);
  power = power_after flash.power (steps_of flash);
  faults = faults_after tear flash.faults;
}

-- what a change of a range to these bytes leaves, by its fate
abbrev pub after_change : Fate → Simulation → ℕ → List ℕ → Simulation
after_change Uncounted flash at bytes = record flash { faults = next_count flash.faults; unpowered = unpowered_after (state_of flash) }
after_change Unpowered flash at bytes = after_unpowered flash
after_change (Reaches tear) flash at bytes = after_reaching tear flash at bytes

-- when a change fails, by its fate: unless it is whole
abbrev pub FailsBy : Fate → Type 0
FailsBy Uncounted = Unit {0}
FailsBy Unpowered = Unit {0}
FailsBy (Reaches (Some tear)) = Unit {0}
FailsBy (Reaches None) = ⊥

abbrev pub ChangeFails : Simulation → Type 0
ChangeFails flash = FailsBy (fate_of flash)

-- when a read fails: it is in the list, or power is lost
abbrev pub ReadFails : Simulation → Type 0
ReadFails flash = Contains flash.failing_reads flash.reads ⊎ (flash.power ≡ Lost)

-- after a read, by whether it failed
abbrev pub after_read : Bool → Simulation → Simulation
after_read false flash = record flash { reads = next_count flash.reads }
after_read true flash = record flash { reads = next_count flash.reads; faults = next_count flash.faults; unpowered = unpowered_after (state_of flash) }

-- power comes back where it was lost
abbrev pub power_restored : Power → Power
power_restored Lost = On
power_restored On = On
power_restored (Until cut) = Until cut
