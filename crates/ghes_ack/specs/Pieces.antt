-- Blocks in pieces of 64 bytes.
use Rattle.std.specs.Prelude.{ℕ, ◌+◌, ◌-◌, ◌*◌, ◌/◌, min, List, ◌++◌, length, drop}
use Rattle.base_model.specs.Bytes.{part, put_at}
pub use Rattle.base_model.specs.Bytes.{zeros}

-- a block's pieces have 64 bytes, the last one the rest
abbrev pub pieces : List ℕ → ℕ
pieces block = (length block + 63) / 64

-- a block as it is filled: its status word is 0 until it is published
abbrev pub hidden : List ℕ → List ℕ
hidden block = zeros (min 4 (length block)) ++ drop 4 block

abbrev pub with_piece : List ℕ → List ℕ → ℕ → List ℕ
with_piece window block k = put_at window (64 * k) (part (hidden block) (64 * k) 64)

-- n pieces, one behind the other
abbrev pub with_pieces : List ℕ → List ℕ → ℕ → ℕ → List ℕ
with_pieces window block k n = put_at window (64 * k) (part (hidden block) (64 * k) (64 * n))

abbrev pub with_status : List ℕ → List ℕ → List ℕ
with_status window word = put_at window 0 word

-- a block over whose pieces from number k on n of the window's are written
abbrev pub read_over : List ℕ → List ℕ → ℕ → ℕ → List ℕ
read_over window block k n = put_at block (64 * k) (part window (64 * k) (min (64 * n) (length block - 64 * k)))
