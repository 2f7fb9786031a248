use Rattle.std.proofs.Common.{◌≡◌, ℕ, ◌++◌, length, take, drop}
use Rattle.apei_bytes.proofs.streams.write_all.Given as goal

-- the first n bytes are written, and the rest is behind them
abbrev pub invariant-loop-rest : goal.invariant-loop-rest
invariant-loop-rest g l = record {
  no_fault : g.S.Sink.faults l.sink ≡ g.S.Sink.faults l.fn.sink;
  so_far : (n : ℕ) × (l.rest ≡ drop n l.bytes) × (g.S.Sink.tells → g.S.Sink.written l.sink ≡ g.S.Sink.written l.fn.sink ++ take n l.bytes);
}

abbrev pub decreases-loop-rest : goal.decreases-loop-rest
decreases-loop-rest g l = length l.rest
