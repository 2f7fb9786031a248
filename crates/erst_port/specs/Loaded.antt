-- A port that goes on where a saved one stopped.
use Rattle.std.specs.Prelude.{◌≡◌, ◌≢◌, ℕ, ◌+◌, ◌≤◌, List, length, drop, Option, None}
use Rattle.base_model.specs.Bytes.{number_at}
use Rattle.base_model.specs.Layout.{Layout}
use Rattle.record_store.specs.Store.{StoreView, IsReady, IsSettled}
use Rattle.record_store.specs.Answers.{copies_in}
use Rattle.erst_device.specs.declared.registers.Operation.{Operation}
use Rattle.erst_device.specs.declared.registers.Registers.{Registers}
use Rattle.erst_device.specs.declared.registers.Running.TheVariants.{Nothing}
use Rattle.erst_device.specs.Registers.{seen}
use Rattle.erst_device.specs.declared.status.CommandStatus.{CommandStatus}
use Rattle.erst_device.specs.Statuses.{number_of}
use Rattle.erst_device.specs.DeviceState.{DeviceState, records}
use Rattle.erst_port.specs.declared.windows.Addresses.{Addresses}
use Rattle.erst_port.specs.declared.errors.OpenError.{OpenError}
use Rattle.erst_port.specs.declared.errors.LoadError.{LoadError}
use Rattle.erst_port.specs.declared.errors.LoadError.TheVariants as errors
use Rattle.erst_port.specs.Parts.{nothing_made}
use Rattle.erst_port.specs.PortState.{PortState, flash_of, IsMade}
use Rattle.erst_port.specs.Saved.{signature, head_size, operation_number, IsSaved}

-- bytes begin as those of a saved device do, of whatever version
pub record IsSigned (saved : List ℕ) : Type 0 where
  pub long : head_size ≤ length saved
  pub signed : number_at saved 0 8 ≡ signature

abbrev pub version_of : List ℕ → ℕ
version_of saved = number_at saved 8 4

abbrev pub addresses_in : List ℕ → Addresses
addresses_in saved = record { registers = number_at saved 32 8; range = number_at saved 40 8 }

-- they hold the registers of a device in which no execution runs
pub record HoldRegisters (saved : List ℕ) (device : DeviceState) : Type 0 where
  pub operation : operation_number device.operation ≡ number_at saved 24 4
  pub status : number_of device.status ≡ number_at saved 28 4
  pub value : device.value ≡ number_at saved 48 8
  pub offset : device.offset ≡ number_at saved 56 8
  pub id : device.id ≡ number_at saved 64 8
  pub cursor : device.cursor ≡ number_at saved 72 8
  pub still : device.reading ≡ None

-- their operation and their status are ones that there are
abbrev pub HaveNames : List ℕ → Type 0
HaveNames saved =
    ((operation : Option Operation) × (operation_number operation ≡ number_at saved 24 4)) × ((status : CommandStatus) × (number_of status ≡ number_at saved 28 4))

-- they are those of a device
pub record AreOfDevice (saved : List ℕ) : Type 0 where
  pub signed : IsSigned saved
  pub version : version_of saved ≡ 1
  pub names : HaveNames saved

-- its flash was divided so
pub record AreOfLayout (saved : List ℕ) (layout : Layout) : Type 0 where
  pub sector : number_at saved 12 4 ≡ layout.sector
  pub per_slot : number_at saved 16 4 ≡ layout.per_slot
  pub slots : number_at saved 20 4 ≡ layout.slots

-- a port that was opened, with the registers and the log range that bytes hold
pub record Resumes (saved : List ℕ) (opened new : PortState) : Type 0 where
  pub device : AreOfDevice saved
  pub layout : AreOfLayout saved opened.device.store.layout
  pub size : length saved ≡ head_size + length opened.range
  pub registers : HoldRegisters saved new.device
  pub store : new.device.store ≡ opened.device.store
  pub range : new.range ≡ drop head_size saved
  pub others : new ≡ record opened { device = new.device; range = new.range }

-- a port goes on where another one stopped: all that is seen of it is the same, but for the counts and the past of its flash. The records
-- are those of the other one. Where its flash has no second copy, every byte of it is the same, and no change is due; else the opening
-- has ended each of them by a change that is due
pub record GoesOn (old new : PortState) : Type 0 where
  pub port : new ≡ record old { device = record old.device { store = new.device.store }; origin = new.origin; made = new.made }
  pub layout : new.device.store.layout ≡ old.device.store.layout
  pub records_are : records new.device ≡ records old.device
  pub ready : IsReady new.device.store
  pub settled : IsSettled new.device.store
  pub image : copies_in old.device.store ≡ 0 → (flash_of new).told.image ≡ (flash_of old).told.image
  pub made : copies_in old.device.store ≡ 0 → IsMade new
  pub changes : (flash_of new).steps ≡ copies_in old.device.store
  pub none_made : new.made ≡ nothing_made

-- so does a port that was loaded from the bytes as which the other one was saved, over the same image
abbrev pub AnswersAsSaved : (image saved : List ℕ) → PortState → Type 0
AnswersAsSaved image saved new = (old : PortState) → IsSaved old saved → (flash_of old).told.image ≡ image → GoesOn old new

-- the numbers before the log range are these addresses, and the registers of a device in which nothing runs
pub record IsStateIn (saved : List ℕ) (addresses : Addresses) (registers : Registers) : Type 0 where
  pub device : AreOfDevice saved
  pub places : addresses ≡ addresses_in saved
  pub holds : (store : StoreView) → HoldRegisters saved (seen registers store)
  pub nothing : registers.running ≡ Nothing

-- why they are none
abbrev pub RefusesState : List ℕ → LoadError → Type 0
RefusesState saved errors.Foreign = IsSigned saved → ⊥
RefusesState saved (errors.Version found) = IsSigned saved × (found ≡ version_of saved) × (found ≢ 1)
RefusesState saved errors.Registers = IsSigned saved × (version_of saved ≡ 1) × (HaveNames saved → ⊥)
RefusesState saved (errors.Medium error) = ⊥
RefusesState saved errors.Geometry = ⊥
RefusesState saved (errors.Size found wanted) = ⊥

-- why a port that was opened does not go on with them
abbrev pub RefusesResume : List ℕ → PortState → LoadError → Type 0
RefusesResume saved opened errors.Foreign = ⊥
RefusesResume saved opened (errors.Version found) = ⊥
RefusesResume saved opened errors.Registers = ⊥
RefusesResume saved opened (errors.Medium error) = ⊥
RefusesResume saved opened errors.Geometry = AreOfDevice saved × (AreOfLayout saved opened.device.store.layout → ⊥)
RefusesResume saved opened (errors.Size found wanted) =
    AreOfDevice saved × AreOfLayout saved opened.device.store.layout
    × (found ≡ length saved) × (wanted ≡ head_size + length opened.range) × (found ≢ wanted)

-- how a port is loaded: as one that is opened in this way, with these addresses
pub record LoadedBy (Opens : Addresses → PortState → Type 0) (saved : List ℕ) (new : PortState) : Type 0 where
  pub opened : PortState
  pub is_opened : Opens (addresses_in saved) opened
  pub resumes : Resumes saved opened new

-- why it is not: exactly one reason applies, but for want of memory
abbrev pub RefusesLoad : (Addresses → PortState → Type 0) → (Addresses → OpenError → Type 0) → List ℕ → LoadError → Type 0
RefusesLoad Opens Refuses saved errors.Foreign = RefusesState saved errors.Foreign
RefusesLoad Opens Refuses saved (errors.Version found) = RefusesState saved (errors.Version found)
RefusesLoad Opens Refuses saved errors.Registers = RefusesState saved errors.Registers
RefusesLoad Opens Refuses saved (errors.Medium error) = AreOfDevice saved × Refuses (addresses_in saved) error
RefusesLoad Opens Refuses saved errors.Geometry = (opened : PortState) × Opens (addresses_in saved) opened × RefusesResume saved opened errors.Geometry
RefusesLoad Opens Refuses saved (errors.Size found wanted) =
    (opened : PortState) × Opens (addresses_in saved) opened × RefusesResume saved opened (errors.Size found wanted)
