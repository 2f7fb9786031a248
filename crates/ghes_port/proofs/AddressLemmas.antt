-- The register of the block's address, from the access that writes it on.
use Rattle.std.proofs.Common.{◌≡◌, ◌∙◌, ℕ, ◌/◌, ◌^◌, ◌<◌, Some, List, All, sym, ap, subst}
use Rattle.std.proofs.Math.Nat.{mul-div_cancel}
use Rattle.std.proofs.lemmas.Nat.{pow_pos}
use Rattle.base_model.specs.Bytes.{little, spelled}
use Rattle.ghes_port.specs.declared.maps.SourceMap.{SourceMap}
use Rattle.ghes_port.specs.declared.maps.AckRegister.{AckRegister}
use Rattle.ghes_port.specs.declared.stages.Stage.{Stage}
use Rattle.ghes_port.specs.declared.stages.Stage.TheVariants.{Hide, TellAddress, ReadFirst, SetAck, Fill, ReadAck, ClearAck, Show, Notify, Await}
use Rattle.ghes_port.specs.Places.{index_of, octets}
use Rattle.ghes_port.specs.Memories.{bytes_from, with_bytes}
use Rattle.ghes_port.specs.Machine.{told_at, stage_after, address_number, IsGood}
use Rattle.ghes_port.specs.Sound.{IsPlaced, IsReached}
use Rattle.ghes_port.specs.Readers.{memory_after, address_in, AreOff, IsApart, IsAckApart, IsBegun}
use Rattle.ghes_port.proofs.WidthLemmas.{octets_fit, read_back, swapped}
use Rattle.ghes_port.proofs.AccessLemmas.{bytes_seen, access_only}

-- the register holds the address
abbrev pub HoldsAddress : SourceMap → (ℕ → ℕ) → Type 0
HoldsAddress map memory = little (bytes_from memory (index_of map.address.place) (octets map.address.access)) ≡ address_number map

abbrev pub IsAddressed : SourceMap → (ℕ → ℕ) → Stage → Type 0
IsAddressed map memory Hide = Unit {0}
IsAddressed map memory TellAddress = Unit {0}
IsAddressed map memory ReadFirst = HoldsAddress map memory
IsAddressed map memory (SetAck read) = HoldsAddress map memory
IsAddressed map memory (Fill piece) = HoldsAddress map memory
IsAddressed map memory ReadAck = HoldsAddress map memory
IsAddressed map memory (ClearAck read) = HoldsAddress map memory
IsAddressed map memory Show = HoldsAddress map memory
IsAddressed map memory Notify = HoldsAddress map memory
IsAddressed map memory Await = HoldsAddress map memory

at_any : (map : SourceMap) (m : ℕ → ℕ) (stage : Stage) → HoldsAddress map m → IsAddressed map m stage
at_any map m Hide holds = tt
at_any map m TellAddress holds = tt
at_any map m ReadFirst holds = holds
at_any map m (SetAck read) holds = holds
at_any map m (Fill piece) holds = holds
at_any map m ReadAck holds = holds
at_any map m (ClearAck read) holds = holds
at_any map m Show holds = holds
at_any map m Notify holds = holds
at_any map m Await holds = holds

begun : (map : SourceMap) (m : ℕ → ℕ) (stage : Stage) → IsBegun stage → IsAddressed map m stage → HoldsAddress map m
begun map m Hide is at = absurd is
begun map m TellAddress is at = absurd is
begun map m ReadFirst is at = at
begun map m (SetAck read) is at = at
begun map m (Fill piece) is at = at
begun map m ReadAck is at = at
begun map m (ClearAck read) is at = at
begun map m Show is at = at
begun map m Notify is at = at
begun map m Await is at = at

-- what the guest reads there is the block's address
pub address_is : (map : SourceMap) (m : ℕ → ℕ) (stage : Stage) → IsBegun stage → IsAddressed map m stage → address_in map m ≡ map.block
address_is map m stage is at = ap (λ (x : ℕ). x / 2 ^ map.address.offset) (begun map m stage is at) ∙ mul-div_cancel map.block (pow_pos map.address.offset)

-- while the register's bytes are as before
pub address_same : (map : SourceMap) (m new : ℕ → ℕ) (stage : Stage)
    → bytes_from new (index_of map.address.place) (octets map.address.access) ≡ bytes_from m (index_of map.address.place) (octets map.address.access)
    → IsAddressed map m stage → IsAddressed map new stage
address_same map m new Hide same at = tt
address_same map m new TellAddress same at = tt
address_same map m new ReadFirst same at = ap little same ∙ at
address_same map m new (SetAck read) same at = ap little same ∙ at
address_same map m new (Fill piece) same at = ap little same ∙ at
address_same map m new ReadAck same at = ap little same ∙ at
address_same map m new (ClearAck read) same at = ap little same ∙ at
address_same map m new Show same at = ap little same ∙ at
address_same map m new Notify same at = ap little same ∙ at
address_same map m new Await same at = ap little same ∙ at

off_ack : (map : SourceMap) (ack : AckRegister) → IsAckApart map (Some ack) → AreOff (index_of map.address.place) (octets map.address.access) (index_of ack.place) (octets ack.access)
off_ack map ack apart = swapped (index_of ack.place) (octets ack.access) (index_of map.address.place) (octets map.address.access) apart.0

kept : (map : SourceMap) (queue : List (List ℕ)) (m : ℕ → ℕ) (stage : Stage) → IsPlaced map → IsApart map → All (IsGood map.len) queue → IsReached map queue stage → (stage ≡ TellAddress → ⊥)
    → bytes_from (memory_after (told_at map queue stage) m) (index_of map.address.place) (octets map.address.access) ≡ bytes_from m (index_of map.address.place) (octets map.address.access)
kept map queue m stage placed apart good reached other =
    access_only (bytes_seen (index_of map.address.place) (octets map.address.access)) map queue stage m placed.head good reached (λ e. absurd (other e)) apart.address
    (λ ack some. off_ack map ack (subst (IsAckApart map) some apart.ack))

-- the next access
pub address_accessed : (map : SourceMap) (queue : List (List ℕ)) (m : ℕ → ℕ) (stage : Stage) (value : ℕ) → IsPlaced map → IsApart map → All (IsGood map.len) queue → IsReached map queue stage
    → IsAddressed map m stage → IsAddressed map (memory_after (told_at map queue stage) m) (stage_after map queue stage value)
address_accessed map queue m Hide value placed apart good reached at = tt
address_accessed map queue m TellAddress value placed apart good reached at =
    let where_to : ℕ = index_of map.address.place in
    let n : ℕ = octets map.address.access in
    let number : ℕ = address_number map in
    let small : number < 256 ^ n = subst (λ (k : ℕ). number < k) (sym (octets_fit map.address.access)) placed.address in
    at_any map (with_bytes m where_to (spelled n number)) (stage_after map queue TellAddress value) (read_back m where_to n number small)
address_accessed map queue m ReadFirst value placed apart good reached at =
    at_any map (memory_after (told_at map queue ReadFirst) m) (stage_after map queue ReadFirst value)
    (ap little (kept map queue m ReadFirst placed apart good reached (λ e. let f : ReadFirst ≡ TellAddress = e in cc)) ∙ at)
address_accessed map queue m (SetAck v) value placed apart good reached at =
    at_any map (memory_after (told_at map queue (SetAck v)) m) (stage_after map queue (SetAck v) value)
    (ap little (kept map queue m (SetAck v) placed apart good reached (λ e. let f : SetAck v ≡ TellAddress = e in cc)) ∙ at)
address_accessed map queue m (Fill piece) value placed apart good reached at =
    at_any map (memory_after (told_at map queue (Fill piece)) m) (stage_after map queue (Fill piece) value)
    (ap little (kept map queue m (Fill piece) placed apart good reached (λ e. let f : Fill piece ≡ TellAddress = e in cc)) ∙ at)
address_accessed map queue m ReadAck value placed apart good reached at =
    at_any map (memory_after (told_at map queue ReadAck) m) (stage_after map queue ReadAck value)
    (ap little (kept map queue m ReadAck placed apart good reached (λ e. let f : ReadAck ≡ TellAddress = e in cc)) ∙ at)
address_accessed map queue m (ClearAck v) value placed apart good reached at =
    at_any map (memory_after (told_at map queue (ClearAck v)) m) (stage_after map queue (ClearAck v) value)
    (ap little (kept map queue m (ClearAck v) placed apart good reached (λ e. let f : ClearAck v ≡ TellAddress = e in cc)) ∙ at)
address_accessed map queue m Show value placed apart good reached at =
    at_any map (memory_after (told_at map queue Show) m) (stage_after map queue Show value)
    (ap little (kept map queue m Show placed apart good reached (λ e. let f : Show ≡ TellAddress = e in cc)) ∙ at)
address_accessed map queue m Notify value placed apart good reached at = at
address_accessed map queue m Await value placed apart good reached at =
    at_any map (memory_after (told_at map queue Await) m) (stage_after map queue Await value)
    (ap little (kept map queue m Await placed apart good reached (λ e. let f : Await ≡ TellAddress = e in cc)) ∙ at)
