-- Memory outside the windows of a handover.
use Rattle.std.specs.Prelude.{◌≡◌, ℕ, length}
use Rattle.apei_tables.specs.declared.registers.Place.{Place}
use Rattle.apei_tables.specs.declared.registers.Place.TheVariants.{Memory}
use Rattle.apei_space.specs.RamState.{RamState}
use Rattle.apei_space.specs.Mapped.{AreDisjoint}
use Rattle.ghes_ack.specs.declared.maps.HandoverMap.{HandoverMap}
use Rattle.ghes_ack.specs.Maps.{ack_bytes, bytes_at}

-- n bytes at a place have none in common with the acknowledge register and the block's window
abbrev pub IsOffBlock : HandoverMap → Place → ℕ → Type 0
IsOffBlock map at n = AreDisjoint at n map.ack.place (ack_bytes map) × AreDisjoint at n (Memory map.block) map.len

-- nor with the block's address
abbrev pub IsOffMap : HandoverMap → Place → ℕ → Type 0
IsOffMap map at n = AreDisjoint at n (Memory map.status) 8 × IsOffBlock map at n

-- all bytes that are far are as before
pub record SameWhere (is_far : Place → ℕ → Type 0) (old new : RamState) : Type 0 where
  pub windows : new.windows ≡ old.windows
  pub size : length new.bytes ≡ length old.bytes
  pub waited : new.waited ≡ old.waited
  pub bytes : (at : Place) (n : ℕ) → is_far at n → bytes_at new at n ≡ bytes_at old at n

-- the three windows are as before, whatever was written elsewhere
pub record SameInMap (map : HandoverMap) (old new : RamState) : Type 0 where
  pub windows : new.windows ≡ old.windows
  pub size : length new.bytes ≡ length old.bytes
  pub status : bytes_at new (Memory map.status) 8 ≡ bytes_at old (Memory map.status) 8
  pub ack : bytes_at new map.ack.place (ack_bytes map) ≡ bytes_at old map.ack.place (ack_bytes map)
  pub block : bytes_at new (Memory map.block) map.len ≡ bytes_at old (Memory map.block) map.len
