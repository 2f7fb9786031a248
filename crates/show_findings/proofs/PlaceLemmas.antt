-- Bytes behind the end.
use Rattle.std.proofs.Common.{◌≡◌, ℕ, List, ◌≤◌, length, drop, []}
use Rattle.std.proofs.Math.ListN.{drop_of_length-le}

pub drop_behind : (bytes : List ℕ) (at : ℕ) → length bytes ≤ at → drop at bytes ≡ []
drop_behind bytes at long = drop_of_length-le bytes long
