-- What the bytes of a saved port hold.
use Rattle.std.proofs.Common.{◌≡◌, ℕ, ◌+◌, ◌*◌, ◌<◌, ◌≤◌, true, false, List, ◌++◌, length, drop, Option, Some, None, Ok, refl, sym, ap, subst, ◌∙◌, arith, lit<, length-append}
use Rattle.std.specs.Prelude.{if◌then◌else◌, ◌==◌}
use Rattle.std.proofs.Math.Bridge.{le_prop}
use Rattle.std.proofs.Math.Nat.{ℕ_set}
use Rattle.std.proofs.lemmas.List.{drop_at}
use Rattle.std.proofs.lemmas.Option.{same_Some}
use Rattle.base_model.specs.Bytes.{part, number_at, little, spelled}
use Rattle.base_model.proofs.BytesLemmas.{little-spelled}
use Rattle.base_model.specs.Layout.{Layout}
use Rattle.erst_device.specs.declared.registers.Operation.{Operation}
use Rattle.erst_device.specs.declared.registers.Operation.TheVariants.{Write, Read, Clear, Dummy}
use Rattle.erst_device.specs.declared.status.CommandStatus.{CommandStatus}
use Rattle.erst_device.specs.declared.status.CommandStatus.TheVariants.{Success, NotEnoughSpace, HardwareNotAvailable, Failed, RecordStoreEmpty, RecordNotFound}
use Rattle.erst_device.specs.Statuses.{number_of}
use Rattle.erst_device.specs.declared.registers.Registers.{Registers}
use Rattle.erst_device.specs.declared.registers.Running.{Running}
use Rattle.erst_device.specs.declared.registers.Running.TheVariants.{Nothing, Reading, Changing}
use Rattle.erst_device.specs.Registers.{reading_of, seen, Runs}
use Rattle.erst_device.specs.DeviceState.{DeviceState, IsStill, IsRunning, Reads, Changes}
use Rattle.apei_bytes.specs.Writing.{Wrote}
use Rattle.apei_bytes.proofs.Puts.{wrote_then}
use Rattle.record_store.specs.Store.{StoreView}
use Rattle.erst_port.specs.declared.windows.Addresses.{Addresses}
use Rattle.erst_port.specs.PortState.{PortState, IsPort, IsMade}
use Rattle.erst_port.specs.Saved.{operation_number, saved_head, HasSmallNumbers, IsSaved, Saves}

pub length-saved_head : (layout : Layout) (addresses : Addresses) (device : DeviceState) → length (saved_head layout addresses device) ≡ 80
unfolding saved_head spelled
length-saved_head layout addresses device = refl

-- the log range stands behind the head
pub range_behind : (layout : Layout) (addresses : Addresses) (device : DeviceState) (range : List ℕ) → drop 80 (saved_head layout addresses device ++ range) ≡ range
range_behind layout addresses device range = drop_at (saved_head layout addresses device) range 80 (length-saved_head layout addresses device)

-- the numbers of a saved port, each at its place
pub record HasNumbers (layout : Layout) (addresses : Addresses) (device : DeviceState) (bytes : List ℕ) : Type 0 where
  pub sector : number_at bytes 12 4 ≡ layout.sector
  pub per_slot : number_at bytes 16 4 ≡ layout.per_slot
  pub slots : number_at bytes 20 4 ≡ layout.slots
  pub operation : number_at bytes 24 4 ≡ operation_number device.operation
  pub status : number_at bytes 28 4 ≡ number_of device.status
  pub registers : number_at bytes 32 8 ≡ addresses.registers
  pub range : number_at bytes 40 8 ≡ addresses.range
  pub value : number_at bytes 48 8 ≡ device.value
  pub offset : number_at bytes 56 8 ≡ device.offset
  pub id : number_at bytes 64 8 ≡ device.id
  pub cursor : number_at bytes 72 8 ≡ device.cursor

few_operations : (operation : Option Operation) → operation_number operation < 5
few_operations None = lit< tt
few_operations (Some Write) = lit< tt
few_operations (Some Read) = lit< tt
few_operations (Some Clear) = lit< tt
few_operations (Some Dummy) = lit< tt

few_statuses : (status : CommandStatus) → number_of status < 6
few_statuses Success = lit< tt
few_statuses NotEnoughSpace = lit< tt
few_statuses HardwareNotAvailable = lit< tt
few_statuses Failed = lit< tt
few_statuses RecordStoreEmpty = lit< tt
few_statuses RecordNotFound = lit< tt

module _ (layout : Layout) (addresses : Addresses) (device : DeviceState) (range : List ℕ) where
  halves : (number_at (saved_head layout addresses device ++ range) 12 4 ≡ little (spelled 4 layout.sector))
      × (number_at (saved_head layout addresses device ++ range) 16 4 ≡ little (spelled 4 layout.per_slot))
      × (number_at (saved_head layout addresses device ++ range) 20 4 ≡ little (spelled 4 layout.slots))
      × (number_at (saved_head layout addresses device ++ range) 24 4 ≡ little (spelled 4 (operation_number device.operation)))
      × (number_at (saved_head layout addresses device ++ range) 28 4 ≡ little (spelled 4 (number_of device.status)))
  unfolding number_at part saved_head spelled
  halves = (refl, refl, refl, refl, refl)

  wholes : (number_at (saved_head layout addresses device ++ range) 32 8 ≡ little (spelled 8 addresses.registers))
      × (number_at (saved_head layout addresses device ++ range) 40 8 ≡ little (spelled 8 addresses.range))
      × (number_at (saved_head layout addresses device ++ range) 48 8 ≡ little (spelled 8 device.value))
      × (number_at (saved_head layout addresses device ++ range) 56 8 ≡ little (spelled 8 device.offset))
      × (number_at (saved_head layout addresses device ++ range) 64 8 ≡ little (spelled 8 device.id))
      × (number_at (saved_head layout addresses device ++ range) 72 8 ≡ little (spelled 8 device.cursor))
  unfolding number_at part saved_head spelled
  wholes = (refl, refl, refl, refl, refl, refl)

  pub has_numbers : HasSmallNumbers layout addresses device → HasNumbers layout addresses device (saved_head layout addresses device ++ range)
  has_numbers small = record {
    sector = halves.0 ∙ little-spelled 4 layout.sector (let s = small.sector in omega arith);
    per_slot = halves.1 ∙ little-spelled 4 layout.per_slot (let s = small.per_slot in omega arith);
    slots = halves.2 ∙ little-spelled 4 layout.slots (let s = small.slots in omega arith);
    operation = halves.3 ∙ little-spelled 4 (operation_number device.operation) (let s = few_operations device.operation in omega arith);
    status = halves.4 ∙ little-spelled 4 (number_of device.status) (let s = few_statuses device.status in omega arith);
    registers = wholes.0 ∙ little-spelled 8 addresses.registers (let s = small.registers in omega arith);
    range = wholes.1 ∙ little-spelled 8 addresses.range (let s = small.range in omega arith);
    value = wholes.2 ∙ little-spelled 8 device.value (let s = small.value in omega arith);
    offset = wholes.3 ∙ little-spelled 8 device.offset (let s = small.offset in omega arith);
    id = wholes.4 ∙ little-spelled 8 device.id (let s = small.id in omega arith);
    cursor = wholes.5 ∙ little-spelled 8 device.cursor (let s = small.cursor in omega arith);
  }

-- A number names one operation, and one status

numbered : ℕ → Option (Option Operation)
numbered n =
    if n == 0 then Some None else (if n == 1 then Some (Some Write) else (if n == 2 then Some (Some Read) else (if n == 3 then Some (Some Clear) else (if n == 4 then Some (Some Dummy) else None))))

is_numbered : (operation : Option Operation) → numbered (operation_number operation) ≡ Some operation
unfolding numbered
is_numbered None = refl
is_numbered (Some Write) = refl
is_numbered (Some Read) = refl
is_numbered (Some Clear) = refl
is_numbered (Some Dummy) = refl

pub same_operation : (one other : Option Operation) → operation_number one ≡ operation_number other → one ≡ other
same_operation one other same = same_Some _ _ (sym (is_numbered one) ∙ ap numbered same ∙ is_numbered other)

status_numbered : ℕ → Option CommandStatus
status_numbered n =
    if n == 0 then Some Success else (if n == 1 then Some NotEnoughSpace else (if n == 2 then Some HardwareNotAvailable
    else (if n == 3 then Some Failed else (if n == 4 then Some RecordStoreEmpty else (if n == 5 then Some RecordNotFound else None)))))

is_status_numbered : (status : CommandStatus) → status_numbered (number_of status) ≡ Some status
unfolding status_numbered
is_status_numbered Success = refl
is_status_numbered NotEnoughSpace = refl
is_status_numbered HardwareNotAvailable = refl
is_status_numbered Failed = refl
is_status_numbered RecordStoreEmpty = refl
is_status_numbered RecordNotFound = refl

pub same_status : (one other : CommandStatus) → number_of one ≡ number_of other → one ≡ other
same_status one other same = same_Some _ _ (sym (is_status_numbered one) ∙ ap status_numbered same ∙ is_status_numbered other)

-- A layout is its numbers

abbrev Rest : (sector per_slot slots slot_size : ℕ) → Type 0
Rest sector per_slot slots slot_size =
    (slot_size ≡ sector * per_slot) × (256 ≤ sector) × (2 ≤ per_slot) × (2 ≤ slots) × (slots ≤ 1024) × (512 ≤ slot_size) × (slot_size ≤ 65600)

abbrev made_of : (sector per_slot slots slot_size : ℕ) → Rest sector per_slot slots slot_size → Layout
made_of sector per_slot slots slot_size rest = record {
  sector = sector;
  per_slot = per_slot;
  slots = slots;
  slot_size = slot_size;
  product = rest.0;
  least_sector = rest.1;
  few_sectors = rest.2;
  few_slots = rest.3;
  many_slots = rest.4;
  least_slot = rest.5;
  greatest_slot = rest.6;
}

one_rest : (sector per_slot slots slot_size : ℕ) → IsProp (Rest sector per_slot slots slot_size)
one_rest sector per_slot slots slot_size = hlevel (ℕ_set, le_prop)

same_made : (a b c d a' b' c' d' : ℕ) (rest : Rest a b c d) (other : Rest a' b' c' d') → a ≡ a' → b ≡ b' → c ≡ c' → d ≡ d' → made_of a b c d rest ≡ made_of a' b' c' d' other
same_made a b c d a' b' c' d' rest other sector per_slot slots slot_size =
    subst (λ (n : ℕ). (other : Rest n b' c' d') → made_of a b c d rest ≡ made_of n b' c' d' other) sector
    (subst (λ (n : ℕ). (other : Rest a n c' d') → made_of a b c d rest ≡ made_of a n c' d' other) per_slot
    (subst (λ (n : ℕ). (other : Rest a b n d') → made_of a b c d rest ≡ made_of a b n d' other) slots
    (subst (λ (n : ℕ). (other : Rest a b c n) → made_of a b c d rest ≡ made_of a b c n other) slot_size
    (λ other. ap (made_of a b c d) (one_rest a b c d rest other))))) other

pub same_layout : (one other : Layout) → one.sector ≡ other.sector → one.per_slot ≡ other.per_slot → one.slots ≡ other.slots → one ≡ other
same_layout one other sector per_slot slots =
    same_made one.sector one.per_slot one.slots one.slot_size other.sector other.per_slot other.slots other.slot_size
    (one.product, one.least_sector, one.few_sectors, one.few_slots, one.many_slots, one.least_slot, one.greatest_slot)
    (other.product, other.least_sector, other.few_sectors, other.few_slots, other.many_slots, other.least_slot, other.greatest_slot)
    sector per_slot slots
    (one.product ∙ ap (λ (n : ℕ). n * one.per_slot) sector ∙ ap (λ (n : ℕ). other.sector * n) per_slot ∙ sym other.product)

-- What runs

by_running : (tells : Type 0) (device : DeviceState) (running : Running) (offset : ℕ) → device.reading ≡ reading_of running →
    Runs tells running offset device.store → (running ≡ Nothing → ⊥) → IsRunning device
by_running tells device Nothing offset reading runs some = absurd (some refl)
by_running tells device (Reading id) offset reading runs some = Reads id reading
by_running tells device Changing offset reading runs some = Changes runs

pub is_running : (tells : Type 0) (device : DeviceState) (registers : Registers) → device ≡ seen registers device.store → Runs tells registers.running registers.offset device.store
    → (registers.running ≡ Nothing → ⊥) → IsRunning device
is_running tells device registers is runs some = by_running tells device registers.running registers.offset (ap (λ (d : DeviceState). d.reading) is) runs some

pub is_still : (tells : Type 0) (device : DeviceState) (registers : Registers) → device ≡ seen registers device.store → Runs tells registers.running registers.offset device.store
    → registers.running ≡ Nothing → IsStill device
is_still tells device registers is runs nothing = record {
  no_read = ap (λ (d : DeviceState). d.reading) is ∙ ap reading_of nothing;
  no_change = subst (λ (running : Running). Runs tells running registers.offset device.store) nothing runs;
}

-- What is put out

pub saves : (tells : Type 0) (port : PortState) (registers : Registers) (layout : Layout) (head before middle after : List ℕ) (end size : ℕ)
    → IsPort port → layout ≡ port.device.store.layout → port.device ≡ seen registers port.device.store → Runs tells registers.running registers.offset port.device.store
    → registers.running ≡ Nothing → IsMade port → ((store : StoreView) → head ≡ saved_head layout port.addresses (seen registers store))
    → ((store : StoreView) → HasSmallNumbers layout port.addresses (seen registers store)) → Wrote before middle 0 end head → Wrote middle after end size port.range
    → Saves port before (Ok size) after
saves tells port registers layout head before middle after end size whole layout_is device_is runs nothing made form small first second =
    let both : Wrote before after 0 size (head ++ port.range) = wrote_then before middle after 0 end size head port.range first second in
    let head_is : head ≡ saved_head port.device.store.layout port.addresses port.device =
    form port.device.store ∙ ap (λ (l : Layout). saved_head l port.addresses (seen registers port.device.store)) layout_is
    ∙ ap (saved_head port.device.store.layout port.addresses) (sym device_is) in
    let long : length head ≡ 80 = ap (λ (xs : List ℕ). length xs) head_is ∙ length-saved_head port.device.store.layout port.addresses port.device in
    let all : length (head ++ port.range) ≡ length head + length port.range = length-append head port.range in
    let size_is : size ≡ 80 + length port.range = let e = both.end_is in omega arith in
    let is : IsSaved port (head ++ port.range) = record {
      form = ap (λ (xs : List ℕ). xs ++ port.range) head_is;
      small = subst (λ (l : Layout). HasSmallNumbers l port.addresses port.device) layout_is
          (subst (HasSmallNumbers layout port.addresses) (sym device_is) (small port.device.store));
      still = is_still tells port.device registers device_is runs nothing;
      made = made;
      whole = whole;
    } in
    (size_is, (let f = both.fits in let e = both.end_is in omega arith), (head ++ port.range, is, (let e = both.end_is in omega arith), both.put))

-- where it is not so that they differ, two counts are the same
pub same_count : (one other : ℕ) → ((one ≡ other → ⊥) → false ≡ true) → one ≡ other
same_count one other not_apart = grind (arith, not_apart)
