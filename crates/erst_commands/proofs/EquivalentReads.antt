-- Reads of two machines that are equivalent, into buffers of the same length.
use Rattle.std.proofs.Common.{◌≡◌, ℕ, ◌+◌, ◌≤◌, List, ◌++◌, length, take, drop, Result, Ok, Err, refl, sym, ap, subst, ◌∙◌, arith, length-append, length-drop}
use Rattle.std.specs.Prelude.{IfOk}
use Rattle.std.proofs.lemmas.List.{take_at, length-take-le, take-append-drop}
use Rattle.base_model.specs.Bytes.{number_at}
use Rattle.base_model.proofs.BytesLemmas.{length-part}
use Rattle.apei_tables.specs.declared.registers.Place.TheVariants.{Memory}
use Rattle.apei_space.specs.declared.faults.SpaceFault.{SpaceFault}
use Rattle.apei_space.specs.Accesses.{Stays}
use Rattle.apei_space.specs.Windows.{total}
use Rattle.erst_client.specs.declared.errors.ClientError.{ClientError}
use Rattle.erst_client.specs.Sequences.{read_requests}
use Rattle.erst_client.specs.Commands.{ClientState, CopiesOut, IsFilled, IsNotFilled, copied, Reads, IsNotRead, HasNoLength, IsNotCopied, IsCopied}
use Rattle.erst_client.proofs.SequenceLemmas.{sequence_on}
use Rattle.erst_machine.specs.declared.areas.Area.{Area}
use Rattle.erst_machine.specs.declared.areas.Area.TheVariants.{Device, Scratch, LogRange, Handover, BootErrors, Ports}
use Rattle.erst_machine.specs.declared.areas.Location.{Location}
use Rattle.erst_machine.specs.declared.areas.Location.TheVariants.{Inside, Beyond, Nowhere}
use Rattle.erst_machine.specs.Areas.{size_of, IsPlaced}
use Rattle.erst_machine.specs.MachineState.{MachineState, IsMachine, location_of}
use Rattle.erst_machine.specs.Allowed.{bytes_read, Allows}
use Rattle.erst_machine.proofs.KeptLemmas.{location_placed}
use Rattle.erst_machine.proofs.CrashTrail.{reached_is_machine}
use Rattle.erst_commands.specs.Equivalence.{EquivalentMachines, FailedNothing, EndAlike, record_in}
use Rattle.erst_commands.proofs.Dialogues.{Held}
use Rattle.erst_commands.proofs.ClientDialogues.{Copied, copy_fits, read, reads_held}
use Rattle.erst_commands.proofs.MachineDialogues.{pair_alike}

-- a read of bytes fills the whole buffer, or leaves it

shared_length : (state : MachineState) → IsMachine state → length state.memory.shared.bytes ≡ 8192
shared_length state machine = sym machine.stands.1.windows.fills.as_long ∙ ap total machine.sizes.shared

area_length : (area : Area) (start at : ℕ) (state : MachineState) (before : List ℕ) → IsMachine state →
    start + length before ≤ size_of (length state.memory.range) area → length (bytes_read (Inside area start) state at before).1 ≡ length before
area_length Device start at state before machine fits = refl
area_length Scratch start at state before machine fits = length-part state.memory.scratch start (length before) (omega (arith, fits, machine.sizes.scratch))
area_length LogRange start at state before machine fits = length-part state.memory.range start (length before) fits
area_length Handover start at state before machine fits = length-part state.memory.shared.bytes start (length before) (omega (arith, fits, shared_length state machine))
area_length BootErrors start at state before machine fits = length-part state.memory.region start (length before) (omega (arith, fits, machine.sizes.region))
area_length Ports start at state before machine fits = length-part state.memory.ports start (length before) (omega (arith, fits, machine.sizes.ports))

location_length : (location : Location) (at : ℕ) (state : MachineState) (before : List ℕ) → IsMachine state → IsPlaced (length state.memory.range)
    (length before) location → length (bytes_read location state at before).1 ≡ length before
location_length (Inside area start) at state before machine fits = area_length area start at state before machine fits
location_length (Beyond area address) at state before machine fits = refl
location_length (Nowhere address) at state before machine fits = refl

area_left : (area : Area) (start at : ℕ) (state : MachineState) (before : List ℕ) (fault : SpaceFault) → (bytes_read (Inside area start) state at before).0
    ≡ Err fault → (bytes_read (Inside area start) state at before).1 ≡ before
area_left Device start at state before fault is = refl
area_left Scratch start at state before fault is = absurd (cc)
area_left LogRange start at state before fault is = absurd (cc)
area_left Handover start at state before fault is = absurd (cc)
area_left BootErrors start at state before fault is = absurd (cc)
area_left Ports start at state before fault is = absurd (cc)

location_left : (location : Location) (at : ℕ) (state : MachineState) (before : List ℕ) (fault : SpaceFault) → (bytes_read location state at before).0
    ≡ Err fault → (bytes_read location state at before).1 ≡ before
location_left (Inside area start) at state before fault is = area_left area start at state before fault is
location_left (Beyond area address) at state before fault is = refl
location_left (Nowhere address) at state before fault is = refl

-- what a read leaves of its buffer: as long as it was, and as it was where it failed
abbrev filled : Result ℕ ClientError → List ℕ → List ℕ → List ℕ
filled (Ok size) whole out = whole ++ drop size out
filled (Err error) whole out = out

whole_length : (whole out : List ℕ) (len : ℕ) → length whole ≡ length (take len out) → len ≤ length out → length (whole ++ drop len out) ≡ length out
whole_length whole out len is fits = omega (arith, length-append whole (drop len out), length-drop len out, length-take-le len out fits, is)

module _ (tells : Type 0) where
  copies_length : (address : ℕ) (before after : List ℕ) (state : MachineState) (answer : Result (Unit {0}) ClientError) (new : MachineState) → IsMachine state →
      CopiesOut (Allows tells) address before after state answer new → length after ≡ length before
  copies_length address before after state answer new machine copies =
      let fits = location_length (location_of state (Memory address) (length before)) address state before machine (location_placed (length state.memory.range) (Memory address) (length before)) in
      elim copies as (λ answer new copies. length after ≡ length before) [
        | IsFilled new allowed ↦ ap (λ (xs : List ℕ). length xs) allowed.1 ∙ fits
        | IsNotFilled fault new allowed ↦ ap (λ (xs : List ℕ). length xs) allowed.1 ∙ fits
      ]

  copies_left : (address len : ℕ) (out whole : List ℕ) (state : MachineState) (answer : Result (Unit {0}) ClientError) (new : MachineState)
      (error : ClientError) → CopiesOut (Allows tells) address (take len out) whole state answer new
      → copied answer len ≡ Err error → whole ++ drop len out ≡ out
  copies_left address len out whole state answer new error copies = elim copies as (λ answer new copies. copied answer len ≡ Err error → whole ++ drop len out ≡ out) [
    | IsFilled new allowed ↦ λ is. absurd (cc)
    | IsNotFilled fault new allowed ↦ λ is.
        ap (λ (xs : List ℕ). xs ++ drop len out) (allowed.1 ∙ location_left (location_of state (Memory address) (length (take len out))) address state
        (take len out) fault (sym allowed.0)) ∙ take-append-drop {A = ℕ} len out
  ]

  module _ (client : ClientState) (id : ℕ) (out : List ℕ) (budget : ℕ) (first : MachineState) where
    read_length : IsMachine first → (result : Result ℕ ClientError) (after : List ℕ) (left : ℕ) (last : MachineState) →
        Reads (Allows tells) client id out budget first result after left last → length after ≡ length out
    read_length machine result after left last reads = elim reads as (λ result after left last reads. length after ≡ length out) [
      | IsNotRead error left last ran ↦ refl
      | HasNoLength left mid field fault last ran long ↦ refl
      | IsNotCopied left mid field error last ran long refused ↦ refl
      | IsCopied left mid field next whole answer last ran long taken copies ↦
          let still = reached_is_machine tells first mid (sequence_on (Allows tells) client.table.entries first client.timings (read_requests id) budget first (Ok tt) left mid Stays ran) machine in
          let next_machine = subst (λ (s : MachineState). IsMachine s) (sym long.2) still in
          whole_length whole out (number_at field 0 4) (copies_length client.address (take (number_at field 0 4) out) whole next answer last next_machine
          copies) (copy_fits (number_at field 0 4) client.range (length out) taken)
    ]

    read_left : (result : Result ℕ ClientError) (after : List ℕ) (left : ℕ) (last : MachineState) (error : ClientError) →
        Reads (Allows tells) client id out budget first result after left last → result ≡ Err error → after ≡ out
    read_left result after left last error reads = elim reads as (λ result after left last reads. result ≡ Err error → after ≡ out) [
      | IsNotRead error left last ran ↦ λ is. refl
      | HasNoLength left mid field fault last ran long ↦ λ is. refl
      | IsNotCopied left mid field error last ran long refused ↦ λ is. refl
      | IsCopied left mid field next whole answer last ran long taken copies ↦ λ is. copies_left client.address (number_at field 0 4) out whole next answer last error copies is
    ]

    read_filled : (result : Result ℕ ClientError) (after : List ℕ) (left : ℕ) (last : MachineState) (whole : List ℕ) → Reads (Allows tells) client id out budget first result after left last
        → IfOk result (λ size. (size ≤ length out) × (after ≡ whole ++ drop size out)) → after ≡ filled result whole out
    read_filled (Ok size) after left last whole reads is = is.1
    read_filled (Err error) after left last whole reads is = read_left (Err error) after left last error reads refl

-- the bytes of the record are those that were copied
whole_is : (size : ℕ) (whole out after : List ℕ) → length after ≡ length out → size ≤ length out → after ≡ whole ++ drop size out → length whole ≡ size
whole_is size whole out after long fits is =
    let all : length after ≡ length whole + length (drop size out) = ap (λ (xs : List ℕ). length xs) is ∙ length-append whole (drop size out) in
    omega (arith, all, length-drop size out, long, fits)

record_is : (size : ℕ) (whole out after : List ℕ) → length whole ≡ size → after ≡ whole ++ drop size out → take size after ≡ whole
record_is size whole out after long is = ap (λ (xs : List ℕ). take size xs) is ∙ take_at whole (drop size out) size long

same_record : (result : Result ℕ ClientError) (whole out others after afterwards : List ℕ) → length after ≡ length out → IfOk result (λ size. (size ≤ length out) × (after ≡ whole ++ drop size out))
    → IfOk result (λ size. (size ≤ length others) × (afterwards ≡ whole ++ drop size others)) → record_in result after ≡ record_in result afterwards
same_record (Ok size) whole out others after afterwards long first second =
    let size_is = whole_is size whole out after long first.0 first.1 in
    record_is size whole out after size_is first.1 ∙ sym (record_is size whole others afterwards size_is second.1)
same_record (Err error) whole out others after afterwards long first second = refl

module _ (tells : Type 0) (told : tells) (client : ClientState) (id budget : ℕ) (one other : MachineState) (equivalent : EquivalentMachines one other) where
  read_both : (out others : List ℕ) (result also : Result ℕ ClientError) (after afterwards : List ℕ) (left also_left : ℕ) (one_after other_after : MachineState) → length out ≡ length others
      → Reads (Allows tells) client id out budget one result after left one_after → FailedNothing one one_after → Reads (Allows tells) client id others budget
      other also afterwards also_left other_after → FailedNothing other other_after
      → EndAlike result also left also_left one_after other_after × ((whole : List ℕ) × IfOk result (λ size. (size ≤ length out) × (after ≡ whole ++ drop size out))
      × IfOk result (λ size. (size ≤ length others) × (afterwards ≡ whole ++ drop size others)))
  read_both out others result also after afterwards left also_left one_after other_after room first quiet second also_quiet =
      let own = reads_held (Allows tells) client id out budget one result after left one_after first in
      let theirs = reads_held (Allows tells) client id others budget other also afterwards also_left other_after second in
      let held = subst (λ (n : ℕ). Held (Allows tells) (read client id n budget) other ((also, theirs.whole), also_left) other_after) (sym room) theirs.held in
      let both = pair_alike tells told (read client id (length out) budget) one other (result, own.whole) (also, theirs.whole) left also_left one_after
      other_after equivalent own.held quiet held also_quiet in
      let answers : result ≡ also = ap (λ (p : Copied). p.0) both.same_answer in
      let bytes : own.whole ≡ theirs.whole = ap (λ (p : Copied). p.1) both.same_answer in (
        record { same_answer = answers; same_left = both.same_left; equivalent = both.equivalent },
        (
          own.whole,
          own.filled,
          subst (λ (r : Result ℕ ClientError). IfOk r (λ size. (size ≤ length others) × (afterwards ≡ own.whole ++ drop size others))) (sym answers)
              (subst (λ (w : List ℕ). IfOk also (λ size. (size ≤ length others) × (afterwards ≡ w ++ drop size others))) (sym bytes) theirs.filled),
        ),
      )

  pub record_alike : (out others : List ℕ) (result also : Result ℕ ClientError) (after afterwards : List ℕ) (left also_left : ℕ)
      (one_after other_after : MachineState) → IsMachine one → length out ≡ length others
      → Reads (Allows tells) client id out budget one result after left one_after → FailedNothing one one_after → Reads (Allows tells) client id others budget
      other also afterwards also_left other_after → FailedNothing other other_after
      → EndAlike result also left also_left one_after other_after × (record_in result after ≡ record_in also afterwards)
  record_alike out others result also after afterwards left also_left one_after other_after machine room first quiet second also_quiet =
      let both = read_both out others result also after afterwards left also_left one_after other_after room first quiet second also_quiet in (
        both.0,
        same_record result both.1.0 out others after afterwards (read_length tells client id out budget one machine result after left one_after first) both.1.1 both.1.2
            ∙ ap (λ (r : Result ℕ ClientError). record_in r afterwards) both.0.same_answer,
      )

  pub buffer_alike : (out : List ℕ) (result also : Result ℕ ClientError) (after afterwards : List ℕ) (left also_left : ℕ) (one_after other_after : MachineState)
      → Reads (Allows tells) client id out budget one result after left one_after → FailedNothing one one_after → Reads (Allows tells) client id out budget
      other also afterwards also_left other_after → FailedNothing other other_after
      → after ≡ afterwards
  buffer_alike out result also after afterwards left also_left one_after other_after first quiet second also_quiet =
      let both = read_both out out result also after afterwards left also_left one_after other_after refl first quiet second also_quiet in
      let others = subst (λ (r : Result ℕ ClientError). IfOk r (λ size. (size ≤ length out) × (afterwards ≡ both.1.0 ++ drop size out))) both.0.same_answer both.1.2 in
      read_filled tells client id out budget one result after left one_after both.1.0 first both.1.1
      ∙ ap (λ (r : Result ℕ ClientError). filled r both.1.0 out) both.0.same_answer
      ∙ sym (read_filled tells client id out budget other also afterwards also_left other_after both.1.0 second others)
