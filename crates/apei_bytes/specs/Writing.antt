-- Bytes that were put at a place.
use Rattle.std.specs.Prelude.{◌≡◌, ℕ, ◌+◌, ◌≤◌, List, length}
use Rattle.base_model.specs.Bytes.{put_at}

-- the bytes stand at a place, which leads to `end`, and nothing else changed
pub record Wrote (old new : List ℕ) (at end : ℕ) (bytes : List ℕ) : Type 0 where
  pub fits : at + length bytes ≤ length old
  pub end_is : end ≡ at + length bytes
  pub put : new ≡ put_at old at bytes
