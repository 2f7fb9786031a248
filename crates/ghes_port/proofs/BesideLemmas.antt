-- Sources that have no byte in common, and bytes off a source's parts.
use Rattle.std.proofs.Common.{◌≡◌, ℕ, ◌+◌, ◌≤◌, inl, inr, Bool, true, false, ◌||◌, Option, Some, None, List, length, refl, subst, arith}
use Rattle.std.proofs.lemmas.Bool.{cases_lt}
use Rattle.std.proofs.lemmas.Grind.{common_steps}
use Rattle.ghes_port.specs.declared.maps.SourceMap.{SourceMap}
use Rattle.ghes_port.specs.declared.maps.AckRegister.{AckRegister}
use Rattle.ghes_port.specs.Places.{index_of, octets}
use Rattle.ghes_port.specs.Memories.{bytes_from, with_bytes}
use Rattle.ghes_port.specs.Machine.{SourceState, told}
use Rattle.ghes_port.specs.Sound.{IsSource}
use Rattle.ghes_port.specs.Setups.{cross, address_crosses, ack_crosses, meets, ack_meets, maps_meet}
use Rattle.ghes_port.specs.Readers.{memory_after, AreOff, SameAck, SameParts, IsOffParts}
use Rattle.ghes_port.proofs.MemoryLemmas.{far}
use Rattle.ghes_port.proofs.AccessLemmas.{View, off_inner, bytes_seen, access_only}

-- n bytes at an index have none in common with a source's parts
abbrev pub AreClearOfAck : Option AckRegister → ℕ → ℕ → Type 0
AreClearOfAck None at n = Unit {0}
AreClearOfAck (Some ack) at n = AreOff (index_of ack.place) (octets ack.access) at n

pub record AreClear (one : SourceMap) (at n : ℕ) : Type 0 where
  pub address : AreOff (index_of one.address.place) (octets one.address.access) at n
  pub block : AreOff one.block one.len at n
  pub ack : AreClearOfAck one.ack at n

off_part : (a k at n b j : ℕ) → a ≤ b → b + j ≤ a + k → AreOff a k at n → AreOff b j at n
off_part a k at n b j low high (inl before) = inl (omega (arith, before, high))
off_part a k at n b j low high (inr after) = inr (omega (arith, after, low))

ack_inner : (ack : Option AckRegister) (at n other k : ℕ) → at ≤ other → other + k ≤ at + n → AreClearOfAck ack at n → AreClearOfAck ack other k
ack_inner None at n other k low high clear = tt
ack_inner (Some ack) at n other k low high clear = off_inner (index_of ack.place) (octets ack.access) at n other k low high clear

pub clear_inner : (one : SourceMap) (at n other k : ℕ) → at ≤ other → other + k ≤ at + n → AreClear one at n → AreClear one other k
clear_inner one at n other k low high clear = record {
  address = off_inner (index_of one.address.place) (octets one.address.access) at n other k low high clear.address;
  block = off_inner one.block one.len at n other k low high clear.block;
  ack = ack_inner one.ack at n other k low high clear.ack;
}

same_ack : (ack : Option AckRegister) (m : ℕ → ℕ) (at : ℕ) (bytes : List ℕ) → AreClearOfAck ack at (length bytes) → SameAck ack m (with_bytes m at bytes)
same_ack None m at bytes clear = tt
same_ack (Some ack) m at bytes clear = far m at bytes (index_of ack.place) (octets ack.access) clear

pub clear_same : (one : SourceMap) (m : ℕ → ℕ) (at : ℕ) (bytes : List ℕ) → AreClear one at (length bytes) → SameParts one m (with_bytes m at bytes)
clear_same one m at bytes clear = record {
  address = far m at bytes (index_of one.address.place) (octets one.address.access) clear.address;
  block = λ b j low high. far m at bytes b j (off_part one.block one.len at (length bytes) b j low high clear.block);
  ack = same_ack one.ack m at bytes clear.ack;
}

pub unchanged_ack : (ack : Option AckRegister) (m : ℕ → ℕ) → SameAck ack m m
unchanged_ack None m = tt
unchanged_ack (Some ack) m = refl

-- a source's parts, as they are seen
abbrev pub parts_seen : SourceMap → View
parts_seen one = record {
  Same = SameParts one;
  Clear = AreClear one;
  same = λ m. record { address = refl; block = λ b j low high. refl; ack = unchanged_ack one.ack m };
  inner = clear_inner one;
  written = clear_same one;
}

-- the parts of another source are clear of this one's
pub record IsBeside (one other : SourceMap) : Type 0 where
  pub address : AreClear one (index_of other.address.place) (octets other.address.access)
  pub block : AreClear one other.block other.len
  pub ack : (ack : AckRegister) → other.ack ≡ Some ack → AreClear one (index_of ack.place) (octets ack.access)

-- bytes that have none in common are off
pub off_of : (at n other m : ℕ) → cross at n other m ≡ false → AreOff at n other m
off_of at n other m none = elim (cases_lt other (at + n)) [
  | inl reaches ↦ elim (cases_lt at (other + m)) [
    | inl reached ↦ grind (arith, common_steps, none, reaches, reached)
    | inr past ↦ inr past
  ]
  | inr before ↦ inl before
]

pub none_left : (a b : Bool) → (a || b) ≡ false → a ≡ false
none_left true b e = absurd (let f : true ≡ false = e in cc)
none_left false b e = refl

pub none_right : (a b : Bool) → (a || b) ≡ false → b ≡ false
none_right true b e = absurd (let f : true ≡ false = e in cc)
none_right false b e = e

clear_of_ack : (ack : Option AckRegister) (at n : ℕ) → ack_crosses ack at n ≡ false → AreClearOfAck ack at n
clear_of_ack None at n none = tt
clear_of_ack (Some ack) at n none = off_of (index_of ack.place) (octets ack.access) at n none

clear_of : (one : SourceMap) (at n : ℕ) → meets one at n ≡ false → AreClear one at n
clear_of one at n none =
    let address : Bool = address_crosses one at n in
    let block : Bool = cross one.block one.len at n in
    let ack : Bool = ack_crosses one.ack at n in
    let both = none_left (address || block) ack none in
    record {
      address = off_of (index_of one.address.place) (octets one.address.access) at n (none_left address block both);
      block = off_of one.block one.len at n (none_right address block both);
      ack = clear_of_ack one.ack at n (none_right (address || block) ack none);
    }

pub beside_of : (one other : SourceMap) → maps_meet one other ≡ false → IsBeside one other
beside_of one other none =
    let address : Bool = meets one (index_of other.address.place) (octets other.address.access) in
    let block : Bool = meets one other.block other.len in
    let ack : Bool = ack_meets one other.ack in
    let both = none_left (address || block) ack none in
    record {
      address = clear_of one (index_of other.address.place) (octets other.address.access) (none_left address block both);
      block = clear_of one other.block other.len (none_right address block both);
      ack = λ a some. clear_of one (index_of a.place) (octets a.access) (subst (λ (o : Option AckRegister). ack_meets one o ≡ false) some (none_right (address || block) ack none));
    }

pub access_elsewhere : (one other : SourceState) (memory : ℕ → ℕ) → IsSource other → maps_meet one.map other.map ≡ false → SameParts one.map memory (memory_after (told other) memory)
access_elsewhere one other memory is apart =
    let beside = beside_of one.map other.map apart in
    access_only (parts_seen one.map) other.map other.queue other.stage memory is.placed.head is.good is.reached (λ e. beside.address) beside.block beside.ack

pub stays_inside : (source : SourceState) (memory : ℕ → ℕ) (at n : ℕ) → IsSource source → IsOffParts source.map at n → bytes_from (memory_after (told source) memory) at n ≡ bytes_from memory at n
stays_inside source memory at n is off =
    access_only (bytes_seen at n) source.map source.queue source.stage memory is.placed.head is.good is.reached (λ e. off.address) off.block off.ack
