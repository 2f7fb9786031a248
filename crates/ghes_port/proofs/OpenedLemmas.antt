-- Sources that are opened together.
use Rattle.std.proofs.Common.{◌≡◌, ◌≢◌, ℕ, zero, suc, ◌+◌, ◌-◌, ◌*◌, ◌%◌, ◌<◌, ◌≤◌, ◌^◌, inl, inr, Bool, true, false, ◌&&◌, ◌||◌, ◌==◌, not, nat_lt}
use Rattle.std.proofs.Common.{if◌then◌else◌, Option, Some, None, Result, Ok, Err, List, [], ◌∷◌, ◌++◌, length, map, refl, subst, arith, slice_get, All}
use Rattle.std.proofs.lemmas.Bool.{cases_lt}
use Rattle.std.proofs.lemmas.Grind.{common_steps}
use Rattle.apei_tables.specs.declared.registers.Register.{Register}
use Rattle.apei_tables.specs.declared.registers.BadRegister.{BadRegister}
use Rattle.apei_tables.specs.Access.{bits}
use Rattle.apei_tables.specs.Check.{checked}
use Rattle.apei_tables.specs.declared.registers.Place.TheVariants.{Memory as InMemory}
use Rattle.hest_sources.specs.declared.sources.Ack.{Ack}
use Rattle.ghes_port.specs.declared.maps.SourceMap.{SourceMap}
use Rattle.ghes_port.specs.declared.maps.AckRegister.{AckRegister as AckMap}
use Rattle.ghes_port.specs.declared.setups.Setup.{Setup}
use Rattle.ghes_port.specs.declared.errors.OpenError.{OpenError}
use Rattle.ghes_port.specs.declared.errors.OpenError.TheVariants.{AddressRegister, Address, AckRegister, Mask, Length, Zero, Alignment, Late, Clash, Id}
use Rattle.ghes_port.specs.Places.{index_of, octets}
use Rattle.ghes_port.specs.Machine.{SourceState, address_number}
use Rattle.ghes_port.specs.Sound.{HasBits, IsPlaced, IsSource}
use Rattle.ghes_port.specs.Setups.{first, begun, map_of, ack_of, structure_fault, size_fault, register_fault, address_fault, ack_fault, lies_within}
use Rattle.ghes_port.specs.Setups.{place_fault, setup_fault, pair_fault, earlier_fault, setups_fault, cross, address_crosses, ack_crosses, is_late, ack_is_late}
use Rattle.ghes_port.specs.Setups.{are_aligned, ends_late, meets_itself, meets, ack_meets, maps_meet}
use Rattle.ghes_port.specs.Readers.{IsApart, IsAckApart}
use Rattle.ghes_port.proofs.BesideLemmas.{off_of, none_left, none_right}
use Rattle.ghes_port.proofs.RegisterLemmas.{has_bits, fits_field, found, inside_is, is_below}

-- neither of two reasons
pub none_first : (one other : Option OpenError) → first one other ≡ None → (one ≡ None) × (other ≡ None)
none_first (Some fault) other e = absurd (let f : Some fault ≡ None = e in cc)
none_first None other e = (refl, e)

-- a test whose reason is not given
passed : (test : Bool) (fault : OpenError) (later : Option OpenError) → (if test then Some fault else later) ≡ None → (test ≡ false) × (later ≡ None)
passed true fault later e = absurd (let f : Some fault ≡ None = e in cc)
passed false fault later e = (refl, e)

held : (test : Bool) (fault : OpenError) → (if test then None else Some fault) ≡ None → test ≡ true
held true fault e = refl
held false fault e = absurd (let f : Some fault ≡ None = e in cc)

both_true : (a b : Bool) → (a && b) ≡ true → (a ≡ true) × (b ≡ true)
both_true true b e = (refl, e)
both_true false b e = absurd (let f : false ≡ true = e in cc)

not_below : (n m : ℕ) → nat_lt n m ≡ false → m ≤ n
not_below n m is = elim (cases_lt n m) [ inl below ↦ grind (arith, common_steps, is, below) | inr above ↦ above ]

-- the register of the address
abbrev address_judged : ℕ → Setup → Result Register BadRegister → Option OpenError
address_judged i s (Err why) = Some (AddressRegister i why)
address_judged i s (Ok register) = if nat_lt s.block (2 ^ s.source.status.width) then None else Some (Address i)

address_sound : (i : ℕ) (s : Setup) → address_fault i s ≡ None → ((map_of s).address.offset < 64) × (address_number (map_of s) < 2 ^ bits (map_of s).address.access)
address_sound i s none = go (checked s.source.status) refl none
  where
    go : (r : Result Register BadRegister) → checked s.source.status ≡ r
        → address_judged i s r ≡ None
        → ((map_of s).address.offset < 64) × (address_number (map_of s) < 2 ^ bits (map_of s).address.access)
    go (Err why) is e = absurd (let f : Some (AddressRegister i why) ≡ None = e in cc)
    go (Ok register) is e =
        let f = found s.source.status register is in
        let small = is_below s.block (2 ^ s.source.status.width) (held (nat_lt s.block (2 ^ s.source.status.width)) (Address i) e) in
        (f.offset, subst (λ (r : Register). s.block * 2 ^ r.offset < 2 ^ bits r.access) f.is (fits_field s.source.status register s.block is small))

-- the acknowledge bits
abbrev ack_judged : ℕ → Ack → Result Register BadRegister → Option OpenError
ack_judged i ack (Err why) = Some (AckRegister i why)
ack_judged i ack (Ok register) = if nat_lt 0 ack.write && lies_within ack.write register then None else Some (Mask i)

ack_sound : (i : ℕ) (ack : Option Ack) → ack_fault i ack ≡ None → HasBits (ack_of ack)
ack_sound i None none = tt
ack_sound i (Some ack) none = go (checked ack.register) refl none
  where
    go : (r : Result Register BadRegister) → checked ack.register ≡ r
        → ack_judged i ack r ≡ None
        → HasBits (ack_of (Some ack))
    go (Err why) is e = absurd (let f : Some (AckRegister i why) ≡ None = e in cc)
    go (Ok register) is e =
        let f = found ack.register register is in
        let b = both_true (nat_lt 0 ack.write) (lies_within ack.write register) (held (nat_lt 0 ack.write && lies_within ack.write register) (Mask i) e) in
        let some = is_below 0 ack.write b.0 in
        let inside = inside_is ack.write register b.1 in
        subst (λ (r : Register). (0 < ack.write * 2 ^ r.offset % 2 ^ 64) × (ack.write * 2 ^ r.offset % 2 ^ 64 < 2 ^ bits r.access)) f.is
        (has_bits ack.write register.offset register.access some inside)

-- the places
ack_apart : (map : SourceMap) (ack : Option AckMap) → ack_crosses ack (index_of map.address.place) (octets map.address.access) ≡ false → ack_crosses ack map.block map.len ≡ false → IsAckApart map ack
ack_apart map None address block = tt
ack_apart map (Some ack) address block =
    (off_of (index_of ack.place) (octets ack.access) (index_of map.address.place) (octets map.address.access) address, off_of (index_of ack.place) (octets ack.access) map.block map.len block)

places_sound : (i : ℕ) (map : SourceMap) → place_fault i map ≡ None → (map.block + map.len < 2 ^ 64) × IsApart map
places_sound i map none =
    let zero_not = passed (map.block == 0) (Zero i) _ none in
    let aligned = passed (not (are_aligned map)) (Alignment i) _ zero_not.1 in
    let early = passed (ends_late map) (Late i) _ aligned.1 in
    let apart = passed (meets_itself map) (Clash i) None early.1 in
    let block_late : Bool = is_late (InMemory map.block) map.len in
    let address_late : Bool = is_late map.address.place (octets map.address.access) in
    let end : block_late ≡ false = none_left block_late address_late (none_left (block_late || address_late) (ack_is_late map.ack) early.0) in
    let below = not_below (2 ^ 64 - 1) (map.block + map.len) end in
    let address : Bool = address_crosses map map.block map.len in
    let ack : Bool = ack_crosses map.ack (index_of map.address.place) (octets map.address.access) in
    let window : Bool = ack_crosses map.ack map.block map.len in
    let two = none_left (address || ack) window apart.0 in (
      omega (arith, below),
      record {
        address = off_of (index_of map.address.place) (octets map.address.access) map.block map.len (none_left address ack two);
        ack = ack_apart map map.ack (none_right address ack two) (none_right (address || ack) window apart.0);
      },
    )

sound_one : (i : ℕ) (s : Setup) → setup_fault i s ≡ None → IsPlaced (map_of s) × IsApart (map_of s)
sound_one i s none =
    let fields = none_first (structure_fault i s.source) _ none in
    let sizes = none_first (size_fault i s) _ fields.1 in
    let registers = none_first (register_fault i s) (place_fault i (map_of s)) sizes.1 in
    let kinds = none_first (address_fault i s) (ack_fault i s.source.ack) registers.0 in
    let short : Bool = nat_lt s.source.block_len 20 in
    let long = passed (short || nat_lt 65536 s.source.block_len) (Length i) _ sizes.0 in
    let low = not_below s.source.block_len 20 (none_left short (nat_lt 65536 s.source.block_len) long.0) in
    let address = address_sound i s kinds.0 in
    let places = places_sound i (map_of s) registers.1 in
    (record { head = low; block = places.0; offset = address.0; address = address.1; ack = ack_sound i s.source.ack kinds.1 }, places.1)

-- a source before its first access
abbrev pub IsServed : SourceState → Type 0
IsServed s = IsSource s × IsApart s.map

served : (i : ℕ) (s : Setup) → setup_fault i s ≡ None → IsServed (begun s)
served i s none = let one = sound_one i s none in (record { placed = one.0; good = λ k d within. absurd (omega (arith, within)); reached = tt }, one.1)

all_with : (one : SourceState) (rest : List SourceState) → IsServed one → All IsServed rest → All IsServed (one ∷ rest)
all_with one rest is others zero d within = is
all_with one rest is others (suc k) d within = others k d (omega (arith, within))

each_after : (earlier : List SourceState) (i : ℕ) (setups : List Setup) → setups_fault earlier i setups ≡ None → All IsServed (map begun setups)
each_after earlier i [] none = λ k d within. absurd (omega (arith, within))
each_after earlier i (s ∷ rest) none =
    let own = none_first (setup_fault i s) _ none in
    let beside = none_first (earlier_fault i earlier s.source.id (map_of s)) _ own.1 in
    all_with (begun s) (map begun rest) (served i s own.0) (each_after (earlier ++ begun s ∷ []) (i + 1) rest beside.1)

pub each_sound : (setups : List Setup) → setups_fault [] 0 setups ≡ None → All (λ s. IsSource s × IsApart s.map) (map begun setups)
each_sound setups none = each_after [] 0 setups none

-- two sources that do not meet do not meet the other way round
cross_swapped : (at n other m : ℕ) → cross at n other m ≡ false → cross other m at n ≡ false
cross_swapped at n other m none = swapped (nat_lt other (at + n)) (nat_lt at (other + m)) none
  where
    swapped : (a b : Bool) → (a && b) ≡ false → (b && a) ≡ false
    swapped true true e = e
    swapped true false e = refl
    swapped false true e = refl
    swapped false false e = refl

none_of : (a b : Bool) → a ≡ false → b ≡ false → (a || b) ≡ false
none_of true b e f = e
none_of false b e f = f

-- the three parts of a source off some bytes
record IsClear (map : SourceMap) (at n : ℕ) : Type 0 where
  pub address : address_crosses map at n ≡ false
  pub block : cross map.block map.len at n ≡ false
  pub ack : ack_crosses map.ack at n ≡ false

clear_of : (map : SourceMap) (at n : ℕ) → meets map at n ≡ false → IsClear map at n
clear_of map at n none =
    let address : Bool = address_crosses map at n in
    let block : Bool = cross map.block map.len at n in
    let ack : Bool = ack_crosses map.ack at n in
    let two = none_left (address || block) ack none in
    record { address = none_left address block two; block = none_right address block two; ack = none_right (address || block) ack none }

meets_none : (map : SourceMap) (at n : ℕ) → IsClear map at n → meets map at n ≡ false
meets_none map at n clear =
    none_of (address_crosses map at n || cross map.block map.len at n) (ack_crosses map.ack at n)
    (none_of (address_crosses map at n) (cross map.block map.len at n) clear.address clear.block) clear.ack

-- what is known of one's parts, at each of the other's
abbrev AreClear : (ℕ → ℕ → Type 0) → Option AckMap → Type 0
AreClear P None = Unit {0}
AreClear P (Some ack) = P (index_of ack.place) (octets ack.access)

ack_clear : (one : SourceMap) (ack : Option AckMap) → ack_meets one ack ≡ false → AreClear (IsClear one) ack
ack_clear one None none = tt
ack_clear one (Some ack) none = clear_of one (index_of ack.place) (octets ack.access) none

pub meet_swapped : (one other : SourceMap) → maps_meet one other ≡ false → maps_meet other one ≡ false
meet_swapped one other none =
    let address_b : Bool = meets one (index_of other.address.place) (octets other.address.access) in
    let block_b : Bool = meets one other.block other.len in
    let two = none_left (address_b || block_b) (ack_meets one other.ack) none in
    let address = clear_of one (index_of other.address.place) (octets other.address.access) (none_left address_b block_b two) in
    let block = clear_of one other.block other.len (none_right address_b block_b two) in
    let ack = ack_clear one other.ack (none_right (address_b || block_b) (ack_meets one other.ack) none) in
    let at_address = meets_none other (index_of one.address.place) (octets one.address.access) (record {
      address = cross_swapped (index_of one.address.place) (octets one.address.access) (index_of other.address.place) (octets other.address.access) address.address;
      block = cross_swapped (index_of one.address.place) (octets one.address.access) other.block other.len block.address;
      ack = by_address other.ack ack;
    }) in
    let at_block = meets_none other one.block one.len (record {
      address = cross_swapped one.block one.len (index_of other.address.place) (octets other.address.access) address.block;
      block = cross_swapped one.block one.len other.block other.len block.block;
      ack = by_block other.ack ack;
    }) in
    none_of (meets other (index_of one.address.place) (octets one.address.access) || meets other one.block one.len) (ack_meets other one.ack)
    (none_of (meets other (index_of one.address.place) (octets one.address.access)) (meets other one.block one.len) at_address at_block)
    (at_ack one.ack address.ack block.ack (λ a some. by_ack a some other.ack ack))
  where
    by_address : (ack : Option AckMap) → AreClear (IsClear one) ack → ack_crosses ack (index_of one.address.place) (octets one.address.access) ≡ false
    by_address None clear = refl
    by_address (Some ack) clear = cross_swapped (index_of one.address.place) (octets one.address.access) (index_of ack.place) (octets ack.access) clear.address

    by_block : (ack : Option AckMap) → AreClear (IsClear one) ack → ack_crosses ack one.block one.len ≡ false
    by_block None clear = refl
    by_block (Some ack) clear = cross_swapped one.block one.len (index_of ack.place) (octets ack.access) clear.block

    by_ack : (a : AckMap) → one.ack ≡ Some a → (ack : Option AckMap) → AreClear (IsClear one) ack → ack_crosses ack (index_of a.place) (octets a.access) ≡ false
    by_ack a some None clear = refl
    by_ack a some (Some ack) clear =
        cross_swapped (index_of a.place) (octets a.access) (index_of ack.place) (octets ack.access)
        (subst (λ (o : Option AckMap). ack_crosses o (index_of ack.place) (octets ack.access) ≡ false) some clear.ack)

    at_ack : (ack : Option AckMap) → ack_crosses ack (index_of other.address.place) (octets other.address.access) ≡ false → ack_crosses ack other.block other.len ≡ false
        → ((a : AckMap) → ack ≡ Some a → ack_crosses other.ack (index_of a.place) (octets a.access) ≡ false) → ack_meets other ack ≡ false
    at_ack None address block others = refl
    at_ack (Some a) address block others = meets_none other (index_of a.place) (octets a.access) (record {
      address = cross_swapped (index_of a.place) (octets a.access) (index_of other.address.place) (octets other.address.access) address;
      block = cross_swapped (index_of a.place) (octets a.access) other.block other.len block;
      ack = others a refl;
    })

-- an earlier source and a later one
beside_earlier : (i : ℕ) (earlier : List SourceState) (id : ℕ) (new : SourceMap) → earlier_fault i earlier id new ≡ None → (k : ℕ) (one : SourceState) → slice_get earlier k ≡ Some one
    → maps_meet one.map new ≡ false
beside_earlier i [] id new none k one is = absurd (let e : None ≡ Some one = is in cc)
beside_earlier i (first_one ∷ rest) id new none zero one is =
    let e : first_one ≡ one = (let f : Some first_one ≡ Some one = is in cc) in
    let own = none_first (pair_fault i first_one id new) (earlier_fault i rest id new) none in
    let other = passed (first_one.id == id) (Id i) _ own.0 in
    subst (λ (s : SourceState). maps_meet s.map new ≡ false) e (passed (maps_meet first_one.map new) (Clash i) None other.1).0
beside_earlier i (first_one ∷ rest) id new none (suc k) one is =
    beside_earlier i rest id new (none_first (pair_fault i first_one id new) (earlier_fault i rest id new) none).1 k one is

-- sources of which each is refused by none of those before it
at_end : (earlier : List SourceState) (new : SourceState) (k : ℕ) (one : SourceState) → slice_get earlier k ≡ Some one → slice_get (earlier ++ new ∷ []) k ≡ Some one
at_end [] new k one is = absurd (let e : None ≡ Some one = is in cc)
at_end (x ∷ xs) new zero one is = is
at_end (x ∷ xs) new (suc k) one is = at_end xs new k one is

last_at : (earlier : List SourceState) (new : SourceState) → slice_get (earlier ++ new ∷ []) (length earlier) ≡ Some new
last_at [] new = refl
last_at (x ∷ xs) new = last_at xs new

-- a source among the earlier ones and one among the rest
across : (earlier : List SourceState) (i : ℕ) (setups : List Setup) → setups_fault earlier i setups ≡ None
    → (k j : ℕ) (one other : SourceState) → slice_get earlier k ≡ Some one → slice_get (map begun setups) j ≡ Some other → maps_meet one.map other.map ≡ false
across earlier i [] none k j one other is_one is_other = absurd (let e : None ≡ Some other = is_other in cc)
across earlier i (s ∷ rest) none k zero one other is_one is_other =
    let own = none_first (setup_fault i s) _ none in
    let beside = none_first (earlier_fault i earlier s.source.id (map_of s)) _ own.1 in
    let e : begun s ≡ other = (let f : Some (begun s) ≡ Some other = is_other in cc) in
    subst (λ (x : SourceState). maps_meet one.map x.map ≡ false) e (beside_earlier i earlier s.source.id (map_of s) beside.0 k one is_one)
across earlier i (s ∷ rest) none k (suc j) one other is_one is_other =
    let own = none_first (setup_fault i s) _ none in
    let beside = none_first (earlier_fault i earlier s.source.id (map_of s)) _ own.1 in
    across (earlier ++ begun s ∷ []) (i + 1) rest beside.1 k j one other (at_end earlier (begun s) k one is_one) is_other

in_order : (earlier : List SourceState) (i : ℕ) (setups : List Setup) → setups_fault earlier i setups ≡ None
    → (k j : ℕ) (one other : SourceState) → k < j → slice_get (map begun setups) k ≡ Some one → slice_get (map begun setups) j ≡ Some other → maps_meet one.map other.map ≡ false
in_order earlier i [] none k j one other before is_one is_other = absurd (let e : None ≡ Some one = is_one in cc)
in_order earlier i (s ∷ rest) none k zero one other before is_one is_other = absurd (omega (arith, before))
in_order earlier i (s ∷ rest) none zero (suc j) one other before is_one is_other =
    let own = none_first (setup_fault i s) _ none in
    let beside = none_first (earlier_fault i earlier s.source.id (map_of s)) _ own.1 in
    let e : begun s ≡ one = (let f : Some (begun s) ≡ Some one = is_one in cc) in
    subst (λ (x : SourceState). maps_meet x.map other.map ≡ false) e
    (across (earlier ++ begun s ∷ []) (i + 1) rest beside.1 (length earlier) j (begun s) other (last_at earlier (begun s)) is_other)
in_order earlier i (s ∷ rest) none (suc k) (suc j) one other before is_one is_other =
    let own = none_first (setup_fault i s) _ none in
    let beside = none_first (earlier_fault i earlier s.source.id (map_of s)) _ own.1 in
    in_order (earlier ++ begun s ∷ []) (i + 1) rest beside.1 k j one other (omega (arith, before)) is_one is_other

pub pairs_apart : (setups : List Setup) (i j : ℕ) (one other : SourceState) → setups_fault [] 0 setups ≡ None → i ≢ j → slice_get (map begun setups) i ≡ Some one
    → slice_get (map begun setups) j ≡ Some other
    → maps_meet one.map other.map ≡ false
pairs_apart setups i j one other none differ is_one is_other = elim (cases_lt i j) [
  | inl before ↦ in_order [] 0 setups none i j one other before is_one is_other
  | inr after ↦ meet_swapped other.map one.map (in_order [] 0 setups none j i other one (omega (arith, after, differ)) is_other is_one)
]
