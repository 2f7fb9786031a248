-- Sources and sinks that are held in memory: what their callers see.
use Rattle.std.specs.Prelude.{ℕ, ◌-◌, List}

-- bytes that are read in pieces, and the numbers of the reads that fail
pub record BytesToRead : Type 0 where
  pub rest : List ℕ
  pub piece : ℕ
  pub failing : List ℕ
  pub reads : ℕ
  pub faults : ℕ

-- bytes that were written, and the numbers of the writes that fail
pub record BytesWritten : Type 0 where
  pub written : List ℕ
  pub failing : List ℕ
  pub writes : ℕ
  pub faults : ℕ
  pub starved : ℕ
