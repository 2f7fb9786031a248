-- What a call took from a source, or gave to a sink.
use Rattle.std.specs.Prelude.{ℕ, List}

-- whether it tells its bytes, and these before the call and after it: of a source the rest, of a sink what was written
pub record Stream : Type 1 where
  pub tells : Type 0
  pub before : List ℕ
  pub after : List ℕ

abbrev pub stream_of : (tells : Type 0) (before after : List ℕ) → Stream
stream_of tells before after = record { tells = tells; before = before; after = after }
