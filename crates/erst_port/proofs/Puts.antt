-- Bytes that were put into an image differ from it in their range alone.
use Rattle.std.proofs.Common.{◌≡◌, ℕ, ◌+◌, ◌≤◌, List, length}
use Rattle.base_model.specs.Bytes.{put_at, SameOutside}
use Rattle.base_model.proofs.BytesLemmas.{SameOutside-put_at}

pub rest_stays : (old new : List ℕ) (at : ℕ) (bytes : List ℕ) → at + length bytes ≤ length old → new ≡ put_at old at bytes → SameOutside at (length bytes) old new
rest_stays old new at bytes within put = rw put (SameOutside-put_at old at bytes within)
