-- A client's write over the machine.
use Rattle.std.proofs.Common.{◌≡◌, ℕ, List, length, Result, Ok, Err, refl, sym, ap, subst, ◌∙◌, arith}
use Rattle.std.specs.Prelude.{codes}
use Rattle.base_model.specs.Bytes.{put_at}
use Rattle.base_model.proofs.BytesLemmas.{length-put_at}
use Rattle.apei_space.specs.Calls.{WriteBytes}
use Rattle.apei_space.specs.declared.faults.SpaceFault.{SpaceFault}
use Rattle.erst_client.specs.declared.errors.ClientError.{ClientError}
use Rattle.erst_client.specs.Commands.{Puts, NotPut, NotMarked, IsPut, Writes, IsNoRecord as refused, IsNotPut, IsAsked}
use Rattle.erst_client.specs.Sequences.{write_requests, Sequence}
use Rattle.erst_machine.specs.declared.areas.Location.{Location}
use Rattle.erst_machine.specs.MachineState.{MachineState, IsMachine, reach_in}
use Rattle.erst_machine.specs.Allowed.{Allows, bytes_stored}
use Rattle.erst_machine.specs.OwnTables.{own_entries}
use Rattle.erst_commands.specs.OwnPrograms.{with_range, OwnProgramsRun}
use Rattle.erst_commands.specs.Attached.{own_client}
use Rattle.erst_commands.specs.Writes.{marked, id_of, WriteAnswered, IsNoRecord, IsWritten}
use Rattle.erst_commands.proofs.RangeLemmas.{location-start, location-mark, IsRecord, not_refused, marked-put, holds-marked}
use Rattle.erst_commands.proofs.StartLemmas.{write_command}

no_fault : (fault : SpaceFault) → ◌≡◌ {A = Result (Unit {0}) SpaceFault} (Err fault) (Ok tt) → ⊥
no_fault fault e = absurd (cc e)

no_error : (error : ClientError) → ◌≡◌ {A = Result (Unit {0}) ClientError} (Ok tt) (Err error) → ⊥
no_error error e = absurd (cc e)

-- the machine with these bytes at the start of its log range
abbrev with_record : List ℕ → MachineState → MachineState
with_record bytes state = with_range (put_at state.memory.range 0 bytes) state

module _ (tells : Type 0) (first : MachineState) (machine : IsMachine first) (bytes : List ℕ) (is : IsRecord bytes (reach_in first.device)) where
  start_location : (answer : Result (Unit {0}) SpaceFault) (new : MachineState) → Allows tells first (WriteBytes 0x100000 bytes answer) new
      → (answer ≡ Ok tt) × (new ≡ with_record bytes first)
  start_location answer new allowed =
      let location = location-start (length first.memory.range) (length bytes) (omega (arith, is.least)) (omega (arith, is.fits, machine.sizes.range)) in
      (allowed.0 ∙ ap (λ (s : Location). (bytes_stored s first 0x100000 bytes).0) location, allowed.1 ∙ ap (λ (s : Location). (bytes_stored s first 0x100000 bytes).1) location)

  mark_location : (mid : MachineState) (answer : Result (Unit {0}) SpaceFault) (new : MachineState) → mid ≡ with_record bytes first → Allows tells mid (WriteBytes 0x10006C (codes "ER") answer) new
      → (answer ≡ Ok tt) × (new ≡ with_record (marked bytes) first)
  mark_location mid answer new mid_is allowed_at =
      let allowed = subst (λ (m : MachineState). Allows tells m (WriteBytes 0x10006C (codes "ER") answer) new) mid_is allowed_at in
      let same = length-put_at first.memory.range 0 bytes (omega (arith, is.fits, machine.sizes.range)) in
      let location = location-mark (length (put_at first.memory.range 0 bytes)) (omega (arith, same, is.least, is.fits, machine.sizes.range)) in (
        allowed.0 ∙ ap (λ (s : Location). (bytes_stored s (with_record bytes first) 0x10006C (codes "ER")).0) location,
        allowed.1 ∙ ap (λ (s : Location). (bytes_stored s (with_record bytes first) 0x10006C (codes "ER")).1) location
            ∙ ap (λ (range : List ℕ). record first { memory = record first.memory { range = range } }) (marked-put first.memory.range bytes (omega (arith, is.least))),
      )

  put_ok : (result : Result (Unit {0}) ClientError) (mid : MachineState) → Puts (Allows tells) 0x100000 bytes first result mid → (result ≡ Ok tt) × (mid ≡ with_record (marked bytes) first)
  put_ok result mid puts = elim puts as (λ result mid puts. (result ≡ Ok tt) × (mid ≡ with_record (marked bytes) first)) [
    | NotPut fault last allowed ↦ absurd (no_fault fault (start_location (Err fault) last allowed).0)
    | NotMarked between fault last allowed marks ↦ absurd (no_fault fault (mark_location between (Err fault) last (start_location (Ok tt) between allowed).1 marks).0)
    | IsPut between last allowed marks ↦ (refl, (mark_location between (Ok tt) last (start_location (Ok tt) between allowed).1 marks).1)
  ]

pub written : (tells : Type 0) → OwnProgramsRun tells → tells → (bytes : List ℕ) (budget : ℕ) (first : MachineState) (result : Result (Unit {0}) ClientError)
    (left : ℕ) (last : MachineState) → IsMachine first
    → Writes (Allows tells) (own_client first) bytes budget first result left last → WriteAnswered bytes budget first result left last
written tells own told bytes budget first result left last machine writes = elim writes as (λ result left last writes. WriteAnswered bytes budget first result left last) [
  | refused error is ↦ IsNoRecord error is
  | IsNotPut error last is puts ↦ absurd (no_error error (sym (put_ok tells first machine bytes (not_refused bytes (reach_in first.device) is) (Err error) last puts).0))
  | IsAsked mid result left last is puts sequence ↦
      let framed = not_refused bytes (reach_in first.device) is in
      let there = (put_ok tells first machine bytes framed (Ok tt) mid puts).1 in
      let holds = holds-marked first.memory.range bytes (record { least = framed.least; size = framed.size; fits = omega (arith, framed.fits, machine.sizes.range) }) in
      IsWritten result left last is
      (write_command tells own told (with_record (marked bytes) first) (id_of bytes) (marked bytes) holds
      (omega (arith, length-put_at bytes 108 (codes "ER") (omega (arith, framed.least)), framed.fits)) budget result left last
      (subst (λ (m : MachineState). Sequence (Allows tells) own_entries (own_client first).timings write_requests budget m result left last) there sequence))
]
