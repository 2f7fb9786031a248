-- That the marks of a slot differ where they have to, and that none is what an erased flash has. No proof asks more of their values.
use Rattle.std.proofs.Common.{◌≡◌, ℕ, arith}
use Rattle.record_model.specs.Heads.{gate_open, gate_further, kill_mark, not_killed, tail_mark}

pub open_is_not_further : {byte : ℕ} → byte ≡ gate_open → byte ≡ gate_further → ⊥
open_is_not_further open_gate further = omega arith

pub open_is_not_erased : {byte : ℕ} → byte ≡ gate_open → byte ≡ 0xFF → ⊥
open_is_not_erased open_gate erased = omega arith

pub tail_is_not_erased : {byte : ℕ} → byte ≡ tail_mark → byte ≡ 0xFF → ⊥
tail_is_not_erased mark erased = omega arith

pub killed_is_not_erased : {byte : ℕ} → byte ≡ kill_mark → byte ≡ not_killed → ⊥
killed_is_not_erased mark erased = omega arith
