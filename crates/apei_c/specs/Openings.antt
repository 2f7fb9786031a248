-- How a handle gets a device, and how it loses it.
use Rattle.std.specs.Prelude.{◌≡◌, ◌⊎◌, ℕ, List, Option, Some, None}
use Rattle.flash_model.specs.declared.geometry.Geometry.{Geometry}
use Rattle.erst_port.specs.declared.windows.Addresses.{Addresses}
use Rattle.erst_port.specs.declared.errors.OpenError.{OpenError}
use Rattle.erst_port.specs.PortState.{PortState}
use Rattle.erst_port.specs.Openings.{OpenedAs, OpenedOn, RefusesImage, RefusesOpening}
use Rattle.apei_c.specs.declared.status.Status.{Status}
use Rattle.apei_c.specs.declared.status.Status.TheVariants.{Done, Closed, Open, Memory, Geometry as BadGeometry}
use Rattle.apei_c.specs.declared.structs.MediumGeometry.{MediumGeometry}
use Rattle.apei_c.specs.Statuses.{number_of, status_of_opening}
use Rattle.apei_c.specs.Formats.{Divides, DividesNothing}

-- why a medium is not opened, by its status: want of memory for a port that was, or the port's own reason
abbrev pub RefusedOpening : List ℕ → Addresses → Status → Type 0
RefusedOpening medium addresses status =
    ((status ≡ Memory) × ((port : PortState) × OpenedOn medium addresses port))
    ⊎ ((error : OpenError) × RefusesOpening medium addresses error × (status ≡ status_of_opening error))

-- the same of a flash that is all of its medium
abbrev pub MeansRaw : MediumGeometry → List ℕ → Addresses → PortState → Type 0
MeansRaw numbers flash addresses port = (geometry : Geometry) × Divides numbers geometry × OpenedAs 0 geometry flash addresses port

abbrev pub RefusedRaw : MediumGeometry → List ℕ → Addresses → Status → Type 0
RefusedRaw numbers flash addresses status =
    ((status ≡ BadGeometry) × DividesNothing numbers)
    ⊎ ((status ≡ Memory) × ((port : PortState) × MeansRaw numbers flash addresses port))
    ⊎ ((geometry : Geometry) × (error : OpenError) × Divides numbers geometry × RefusesImage geometry flash addresses error × (status ≡ status_of_opening error))

-- a handle that has a device keeps it; one without gets one, or stays without
abbrev pub OpensBy : (PortState → Type 0) → (Status → Type 0) → Option PortState → (number : ℕ) → Option PortState → Type 0
OpensBy Opened Refused (Some old) number new = (number ≡ number_of Open) × (new ≡ Some old)
OpensBy Opened Refused None number new =
    ((number ≡ number_of Done) × ((port : PortState) × (new ≡ Some port) × Opened port))
    ⊎ (((status : Status) × (number ≡ number_of status) × Refused status) × (new ≡ None))

abbrev pub Opens : List ℕ → Addresses → Option PortState → ℕ → Option PortState → Type 0
Opens medium addresses = OpensBy (OpenedOn medium addresses) (RefusedOpening medium addresses)

abbrev pub OpensRaw : MediumGeometry → List ℕ → Addresses → Option PortState → ℕ → Option PortState → Type 0
OpensRaw numbers flash addresses = OpensBy (MeansRaw numbers flash addresses) (RefusedRaw numbers flash addresses)

abbrev pub Closes : Option PortState → ℕ → Option PortState → Type 0
Closes (Some old) number new = (number ≡ number_of Done) × (new ≡ None)
Closes None number new = (number ≡ number_of Closed) × (new ≡ None)
