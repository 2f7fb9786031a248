-- Plain memory: a fault leaves everything as it was.
use Rattle.std.proofs.Common.{◌≡◌, ℕ, ◌/◌, List, length, Result, Ok, Err, refl, sym, subst, arith}
use Rattle.base_model.specs.Bytes.{spelled}
use Rattle.apei_tables.specs.declared.registers.Place.TheVariants.{Memory}
use Rattle.apei_tables.specs.Access.{bits}
use Rattle.apei_space.specs.declared.faults.SpaceFault.{SpaceFault}
use Rattle.apei_space.specs.Calls.{Call, Read, Write, Wait, Copy, ReadBytes, WriteBytes, HasReason, Leaves, fault_in, IsOfAccess, IsOfCopy}
use Rattle.apei_space.specs.RamState.{RamState, Allows, found, refused, number_in, answer_of, stored, copied}

-- a read
of_number : (old new : RamState) (place : Result ℕ ℕ) (bytes : List ℕ) (n : ℕ) → new ≡ old →
    Leaves (λ (_ : RamState). 0) old new (fault_in (number_in (refused place) bytes n)) × IsOfAccess (fault_in (number_in (refused place) bytes n))
of_number old new (Ok start) bytes n same = (tt, tt)
of_number old new (Err at) bytes n same = (same, tt)

-- a store, and what it left
of_answer : (old : RamState) (place : Result ℕ ℕ) (others : List ℕ) →
    Leaves (λ (_ : RamState). 0) old (stored (refused place) old others) (fault_in (answer_of (refused place))) × IsOfAccess (fault_in (answer_of (refused place)))
of_answer old (Ok start) others = (tt, tt)
of_answer old (Err at) others = (refl, tt)

of_bytes : (old new : RamState) (place : Result ℕ ℕ) → new ≡ old →
    Leaves (λ (_ : RamState). 0) old new (fault_in (answer_of (refused place))) × IsOfAccess (fault_in (answer_of (refused place)))
of_bytes old new (Ok start) same = (tt, tt)
of_bytes old new (Err at) same = (same, tt)

of_copy : (old : RamState) (source target : Result ℕ ℕ) (n : ℕ) →
    Leaves (λ (_ : RamState). 0) old (copied (refused source) (refused target) n old).1 (fault_in (copied (refused source) (refused target) n old).0)
    × IsOfCopy (fault_in (copied (refused source) (refused target) n old).0)
of_copy old (Err at) target n = (refl, tt)
of_copy old (Ok source) (Err at) n = (refl, tt)
of_copy old (Ok source) (Ok target) n = (tt, tt)

pub reasons : (old new : RamState) (call : Call) → Allows old call new → HasReason (λ (_ : RamState). 0) old call new
reasons old new (Read at width answer) allowed =
    let why = of_number old new (found old.windows at (bits width / 8)) old.bytes (bits width / 8) allowed.1 in
    subst (λ (a : Result ℕ SpaceFault). HasReason (λ (_ : RamState). 0) old (Read at width a) new) (sym allowed.0) (record { never_falls = omega arith; leaves = why.0; of_call = why.1 })
reasons old new (Write at width value answer) allowed =
    let place = found old.windows at (bits width / 8) in
    let why = of_answer old place (spelled (bits width / 8) value) in
    subst (λ (a : Result (Unit {0}) SpaceFault). HasReason (λ (_ : RamState). 0) old (Write at width value a) new) (sym allowed.0)
    (subst (λ (s : RamState). HasReason (λ (_ : RamState). 0) old (Write at width value (answer_of (refused place))) s) (sym allowed.1)
    (record { never_falls = omega arith; leaves = why.0; of_call = why.1 }))
reasons old new (Wait micros) allowed = record { never_falls = omega arith; leaves = tt; of_call = tt }
reasons old new (Copy from target len answer) allowed =
    let why = of_copy old (found old.windows (Memory from) len) (found old.windows (Memory target) len) len in
    subst (λ (a : Result (Unit {0}) SpaceFault). HasReason (λ (_ : RamState). 0) old (Copy from target len a) new) (sym allowed.0)
    (subst (λ (s : RamState). HasReason (λ (_ : RamState). 0) old
    (Copy from target len (copied (refused (found old.windows (Memory from) len)) (refused (found old.windows (Memory target) len)) len old).0) s)
    (sym allowed.1) (record { never_falls = omega arith; leaves = why.0; of_call = why.1 }))
reasons old new (ReadBytes at before after answer) allowed =
    let why = of_bytes old new (found old.windows (Memory at) (length before)) allowed.2 in
    subst (λ (a : Result (Unit {0}) SpaceFault). HasReason (λ (_ : RamState). 0) old (ReadBytes at before after a) new) (sym allowed.0)
    (record { never_falls = omega arith; leaves = why.0; of_call = why.1 })
reasons old new (WriteBytes at bytes answer) allowed =
    let place = found old.windows (Memory at) (length bytes) in
    let why = of_answer old place bytes in
    subst (λ (a : Result (Unit {0}) SpaceFault). HasReason (λ (_ : RamState). 0) old (WriteBytes at bytes a) new) (sym allowed.0)
    (subst (λ (s : RamState). HasReason (λ (_ : RamState). 0) old (WriteBytes at bytes (answer_of (refused place))) s) (sym allowed.1)
    (record { never_falls = omega arith; leaves = why.0; of_call = why.1 }))
