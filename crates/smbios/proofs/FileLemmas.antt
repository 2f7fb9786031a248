-- Bytes at a place after the last one.
use Rattle.std.proofs.Common.{◌≡◌, ℕ, List, [], ◌≤◌, length, drop}
use Rattle.std.proofs.Math.ListN.{drop_of_length-le}

pub clipped_end : (bytes : List ℕ) (at : ℕ) → length bytes ≤ at → drop at bytes ≡ []
clipped_end bytes at long = drop_of_length-le bytes long
