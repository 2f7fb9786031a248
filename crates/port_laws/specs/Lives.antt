-- A medium's life: ports over it, one after another, each over what lost power or a stop left of it.
use Rattle.std.specs.Prelude.{◌≡◌, ℕ, ◌-◌, ◌^◌, ◌<◌, ◌≤◌, List, [], ◌∷◌, ◌++◌, length, take, drop, Ok}
use Rattle.record_model.specs.RecordMap.{Command}
use Rattle.flash_model.specs.declared.geometry.Geometry.{Geometry}
use Rattle.flash_model.specs.Layouts.{layout_of}
use Rattle.apei_space.specs.Accesses.{Trail}
use Rattle.erst_port.specs.declared.windows.Addresses.{Addresses}
use Rattle.erst_port.specs.Failures.{Fails}
use Rattle.erst_port.specs.LastCount.{FailsLast}
use Rattle.erst_port.specs.Openings.{OpenedAs}
use Rattle.erst_port.specs.Loaded.{LoadedBy}
use Rattle.erst_port.specs.PortState.{PortState, flash_of}
use Rattle.port_laws.specs.Calls.{Embedded, Happens}
use Rattle.port_laws.specs.Losses.{IsLeft}
use Rattle.port_laws.specs.Prefixes.{Calls, IsTaken, commands_in}

-- a port that was opened over the bytes behind the first ones of its medium, or loaded over them; or one that goes on over them, because
-- the medium failed a change of it
pub data Starts (origin : ℕ) (geometry : Geometry) (first : Embedded) : Type 0 where
  Opened : (addresses : Addresses) → OpenedAs origin geometry (drop origin first.medium) addresses first.port → Starts origin geometry first
  Loaded : (saved : List ℕ) → LoadedBy (OpenedAs origin geometry (drop origin first.medium)) saved first.port → Starts origin geometry first
  Failed : (old : PortState) → old.origin ≡ origin → layout_of geometry ≡ old.device.store.layout → Fails first.medium old (Ok tt) first.port → Starts origin geometry first

-- a port, the calls that were made of it, and what they left
pub record Run : Type 0 where
  pub first : Embedded
  pub calls : Calls
  pub last : Embedded

-- a run over a medium, as long as one more change can be counted. Port::fails_last says `fails_last` of every port
pub record IsRun (origin : ℕ) (geometry : Geometry) (medium : List ℕ) (run : Run) : Type 0 where
  pub over : run.first.medium ≡ medium
  pub starts : Starts origin geometry run.first
  pub happened : Trail Happens run.first run.calls run.last
  pub fails_last : FailsLast (flash_of run.last.port)
  pub countable : (flash_of run.last.port).steps < 2 ^ 64 - 1

-- runs over a medium, and what the last of them left of it. Power may be lost wherever in each
abbrev pub IsLife : (origin : ℕ) → Geometry → (medium : List ℕ) → List Run → (left : List ℕ) → Type 0
IsLife origin geometry medium [] left = left ≡ medium
IsLife origin geometry medium (run ∷ rest) left =
    IsRun origin geometry medium run × ((next : List ℕ) × IsLeft run.last next × IsLife origin geometry next rest left)

-- the writes and clears of a run that stay: the first ones that its calls carried out, with each that was completed before a call for which
-- ACTION took a code, and so with each whose status was told
pub record IsKeptOf (run : Run) (kept : List Command) : Type 0 where
  pub count : ℕ
  pub within : count ≤ length (commands_in (length run.calls) run.first run.calls)
  pub settled : (n : ℕ) → IsTaken n run.first run.calls → length (commands_in n run.first run.calls) ≤ count
  pub first_ones : kept ≡ take count (commands_in (length run.calls) run.first run.calls)

-- those of all runs, one after another
abbrev pub AreKept : List Run → List Command → Type 0
AreKept [] kept = kept ≡ []
AreKept (run ∷ rest) kept = (front : List Command) × (back : List Command) × IsKeptOf run front × AreKept rest back × (kept ≡ front ++ back)
