-- What a move needs of its addresses.
use Rattle.std.specs.Prelude.{ℕ, ◌+◌, ◌*◌, ◌<◌, ◌^◌}

-- there is something to move, and both ranges end below the last address
pub record AreAddressable (from target count : ℕ) : Type 0 where
  pub source : from + 128 * count < 2 ^ 64
  pub target_is : target + 128 * count < 2 ^ 64
  pub some : 0 < count
