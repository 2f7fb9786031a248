-- Which sources may be served together, and why others are refused.
use Rattle.std.specs.Prelude.{◌≡◌, ◌⊎◌, ℕ, ◌+◌, ◌-◌, ◌*◌, ◌%◌, ◌^◌, ◌<◌, nat_lt, ◌==◌, ◌&&◌, ◌||◌, not, Bool, true, false, if◌then◌else◌, List, [], ◌∷◌, ◌++◌, length, map, Option, Some, None, Ok, Err}
use Rattle.base_model.specs.Bytes.{number_at}
use Rattle.apei_tables.specs.declared.registers.Place.{Place}
use Rattle.apei_tables.specs.declared.registers.Place.TheVariants.{Memory as InMemory, Io}
use Rattle.apei_tables.specs.declared.registers.Register.{Register}
use Rattle.apei_tables.specs.Access.{bits}
use Rattle.apei_tables.specs.Check.{checked, register_of}
use Rattle.hest_sources.specs.declared.sources.Ghes.{Ghes}
use Rattle.hest_sources.specs.declared.sources.Ack.{Ack}
use Rattle.ghes_port.specs.declared.maps.SourceMap.{SourceMap}
use Rattle.ghes_port.specs.declared.maps.AckRegister.{AckRegister as AckMap}
use Rattle.ghes_port.specs.declared.setups.Setup.{Setup}
use Rattle.ghes_port.specs.declared.stages.Stage.TheVariants.{Hide}
use Rattle.ghes_port.specs.declared.errors.OpenError.{OpenError}
use Rattle.ghes_port.specs.declared.errors.OpenError.TheVariants.{Count, Reserved, Preallocation, Notification, Length, Places, AddressRegister, Address}
use Rattle.ghes_port.specs.declared.errors.OpenError.TheVariants.{AckRegister, Mask, Zero, Alignment, Late, Clash, Id, Memory}
use Rattle.ghes_port.specs.Places.{index_of, octets}
use Rattle.ghes_port.specs.Machine.{SourceState}

-- where a source lies, by its structure: the masks of an acknowledge register moved up to its field
abbrev pub moved_up : ℕ → Register → ℕ
moved_up mask register = mask * 2 ^ register.offset % 2 ^ 64

abbrev pub ack_by : Ack → Register → AckMap
ack_by ack register = record { place = register.place; access = register.access; keep = moved_up ack.preserve register; set = moved_up ack.write register }

abbrev pub ack_of : Option Ack → Option AckMap
ack_of None = None
ack_of (Some ack) = Some (ack_by ack (register_of ack.register))

abbrev pub map_of : Setup → SourceMap
map_of s = record { address = register_of s.source.status; block = s.block; len = s.source.block_len; ack = ack_of s.source.ack }

-- a source before its first access
abbrev pub begun : Setup → SourceState
begun s = record { id = s.source.id; map = map_of s; stage = Hide; queue = []; places = s.places }

-- the first of two reasons
abbrev pub first : Option OpenError → Option OpenError → Option OpenError
first (Some fault) later = Some fault
first None later = later

-- of the structure's own fields
abbrev pub is_notification : List ℕ → Bool
is_notification notify = number_at notify 1 1 == 28 && nat_lt (number_at notify 0 1) 12

abbrev pub structure_fault : ℕ → Ghes → Option OpenError
structure_fault i source =
    if not (source.flags == 0) || nat_lt 1 source.enabled then Some (Reserved i)
    else if source.records == 0 || source.sections == 0 then Some (Preallocation i)
    else if not (is_notification source.notify) then Some (Notification i)
    else None

-- of the window and the places
abbrev pub size_fault : ℕ → Setup → Option OpenError
size_fault i s =
    if nat_lt s.source.block_len 20 || nat_lt 65536 s.source.block_len then Some (Length i)
    else if s.places == 0 || nat_lt 65536 s.places then Some (Places i)
    else None

-- of the registers
abbrev pub lies_within : ℕ → Register → Bool
lies_within number register = nat_lt (number * 2 ^ register.offset) (2 ^ bits register.access)

abbrev pub address_fault : ℕ → Setup → Option OpenError
address_fault i s = elim (checked s.source.status) [
  | Err why ↦ Some (AddressRegister i why)
  | Ok register ↦ if nat_lt s.block (2 ^ s.source.status.width) then None else Some (Address i)
]

abbrev pub ack_fault : ℕ → Option Ack → Option OpenError
ack_fault i None = None
ack_fault i (Some ack) = elim (checked ack.register) [
  | Err why ↦ Some (AckRegister i why)
  | Ok register ↦ if nat_lt 0 ack.write && lies_within ack.write register then None else Some (Mask i)
]

-- of the places: aligned, not too late, and apart
abbrev pub is_aligned : Place → ℕ → Bool
is_aligned (InMemory at) n = at % n == 0
is_aligned (Io at) n = at % n == 0

abbrev pub is_late : Place → ℕ → Bool
is_late (InMemory at) n = nat_lt (2 ^ 64 - 1) (at + n)
is_late (Io at) n = nat_lt 65536 (at + n)

-- the n bytes at an index and the m bytes at another one have one in common
abbrev pub cross : ℕ → ℕ → ℕ → ℕ → Bool
cross at n other m = nat_lt other (at + n) && nat_lt at (other + m)

abbrev pub ack_is_aligned : Option AckMap → Bool
ack_is_aligned None = true
ack_is_aligned (Some ack) = is_aligned ack.place (octets ack.access)

abbrev pub ack_is_late : Option AckMap → Bool
ack_is_late None = false
ack_is_late (Some ack) = is_late ack.place (octets ack.access)

abbrev pub ack_crosses : Option AckMap → ℕ → ℕ → Bool
ack_crosses None at n = false
ack_crosses (Some ack) at n = cross (index_of ack.place) (octets ack.access) at n

abbrev pub address_crosses : SourceMap → ℕ → ℕ → Bool
address_crosses map at n = cross (index_of map.address.place) (octets map.address.access) at n

abbrev pub are_aligned : SourceMap → Bool
are_aligned map = (map.block % 4 == 0 && is_aligned map.address.place (octets map.address.access)) && ack_is_aligned map.ack

abbrev pub ends_late : SourceMap → Bool
ends_late map = (is_late (InMemory map.block) map.len || is_late map.address.place (octets map.address.access)) || ack_is_late map.ack

abbrev pub meets_itself : SourceMap → Bool
meets_itself map =
    (address_crosses map map.block map.len || ack_crosses map.ack (index_of map.address.place) (octets map.address.access))
    || ack_crosses map.ack map.block map.len

abbrev pub place_fault : ℕ → SourceMap → Option OpenError
place_fault i map =
    if map.block == 0 then Some (Zero i)
    else if not (are_aligned map) then Some (Alignment i)
    else if ends_late map then Some (Late i)
    else if meets_itself map then Some (Clash i)
    else None

-- the first reason why a source is not served by itself
abbrev pub register_fault : ℕ → Setup → Option OpenError
register_fault i s = first (address_fault i s) (ack_fault i s.source.ack)

abbrev pub setup_fault : ℕ → Setup → Option OpenError
setup_fault i s = first (structure_fault i s.source) (first (size_fault i s) (first (register_fault i s) (place_fault i (map_of s))))

-- some bytes have one in common with a source's parts, and two sources with each other
abbrev pub meets : SourceMap → ℕ → ℕ → Bool
meets map at n = (address_crosses map at n || cross map.block map.len at n) || ack_crosses map.ack at n

abbrev pub ack_meets : SourceMap → Option AckMap → Bool
ack_meets map None = false
ack_meets map (Some ack) = meets map (index_of ack.place) (octets ack.access)

abbrev pub maps_meet : SourceMap → SourceMap → Bool
maps_meet one other =
    (meets one (index_of other.address.place) (octets other.address.access) || meets one other.block other.len) || ack_meets one other.ack

-- the first reason why a source is not served beside an earlier one, and beside some
abbrev pub pair_fault : ℕ → SourceState → ℕ → SourceMap → Option OpenError
pair_fault i earlier id map = if earlier.id == id then Some (Id i) else if maps_meet earlier.map map then Some (Clash i) else None

abbrev pub earlier_fault : ℕ → List SourceState → ℕ → SourceMap → Option OpenError
earlier_fault i [] id map = None
earlier_fault i (one ∷ rest) id map = first (pair_fault i one id map) (earlier_fault i rest id map)

-- the first reason why sources are not served after others
abbrev pub setups_fault : List SourceState → ℕ → List Setup → Option OpenError
setups_fault earlier i [] = None
setups_fault earlier i (s ∷ rest) =
    first (setup_fault i s) (first (earlier_fault i earlier s.source.id (map_of s)) (setups_fault (earlier ++ begun s ∷ []) (i + 1) rest))

-- the first reason why sources are not served
abbrev pub open_fault : List Setup → Option OpenError
open_fault setups = if length setups == 0 || nat_lt 64 (length setups) then Some (Count (length setups)) else setups_fault [] 0 setups

-- an error is that reason, and want of memory comes only if there are 1 to 64 sources
abbrev pub IsRefusal : List Setup → OpenError → Type 0
IsRefusal setups error = (open_fault setups ≡ Some error) ⊎ ((error ≡ Memory) × (0 < length setups) × (length setups < 65))
