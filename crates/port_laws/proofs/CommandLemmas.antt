-- A client's commands by the table of a port are those of a client of the machine's own table.
use Rattle.std.proofs.Common.{◌≡◌, ℕ, ◌+◌, ◌%◌, ◌^◌, ◌<◌, ◌≤◌, List, [], ◌∷◌, length, take, Option, None, Result, Ok, Err, refl, ap, subst, ◌∙◌, arith}
use Rattle.std.specs.Prelude.{codes}
use Rattle.std.proofs.lemmas.List.{length-take}
use Rattle.base_model.specs.Bytes.{number_at}
use Rattle.base_model.specs.Layout.{Layout, room_of, reach_of}
use Rattle.apei_space.specs.declared.faults.SpaceFault.{SpaceFault}
use Rattle.apei_space.specs.Calls.{ReadBytes, WriteBytes}
use Rattle.erst_entries.specs.declared.actions.Action.TheVariants.{GetRecordCount}
use Rattle.erst_interp.proofs.StraightLemmas.{ran_straight}
use Rattle.erst_client.specs.declared.errors.ClientError.{ClientError}
use Rattle.erst_client.specs.declared.requests.Request.{Request}
use Rattle.erst_client.specs.Commands.{write_refusal, Puts, NotPut, NotMarked, IsPut, Writes, IsNoRecord, IsNotPut, IsAsked, CopiesOut, IsFilled, IsNotFilled}
use Rattle.erst_client.specs.Commands.{Reads, IsNotRead, HasNoLength, IsNotCopied, IsCopied, Counts}
use Rattle.erst_client.specs.Sequences.{Sequence, write_requests, read_requests, clear_requests, dummy_requests}
use Rattle.erst_client.proofs.RefusalLemmas.{copies}
use Rattle.erst_machine.specs.MachineState.{MachineState, reach_in}
use Rattle.erst_machine.specs.Allowed.{Allows}
use Rattle.erst_machine.specs.OwnTables.{own_entries}
use Rattle.erst_commands.specs.OwnPrograms.{OwnProgramsRun}
use Rattle.erst_commands.specs.Attached.{own_client}
use Rattle.erst_commands.specs.Reads.{ReadMade, IsRead, IsRefused, IsFailed, ReadCommand, Answers, StopsBehind, StopsBefore}
use Rattle.erst_commands.proofs.OwnProgramLemmas.{own_programs_run}
use Rattle.erst_commands.proofs.RangeLemmas.{location-start, location-length, location-mark, IsRecord, not_refused}
use Rattle.erst_commands.proofs.LimitLemmas.{reach-least}
use Rattle.erst_commands.proofs.ReadLemmas.{read_command}
use Rattle.erst_port.specs.declared.windows.Addresses.{Addresses}
use Rattle.erst_port.specs.PortState.{IsPort}
use Rattle.erst_port.specs.PortTables.{port_entries}
use Rattle.port_laws.specs.PortSpaces.{SpaceState, Goes}
use Rattle.port_laws.specs.Machines.{machine_of, IsShared, AreShared}
use Rattle.port_laws.specs.PortClients.{port_client}
use Rattle.port_laws.proofs.PlaceLemmas.{apart_says}
use Rattle.port_laws.proofs.SequenceLemmas.{AllCarried, sequence_carried}
use Rattle.port_laws.proofs.AccessLemmas.{bytes_written, bytes_told}
use Rattle.port_laws.proofs.MachineLemmas.{is_machine}
use Rattle.port_laws.proofs.ProgramLemmas.{performed, are_performed}

-- the machine's own programs run through
pub own_runs : OwnProgramsRun (Unit {0})
own_runs = own_programs_run (Unit {0}) (λ program straight given budget first result left last some run. ran_straight (Allows (Unit {0})) program straight some given budget first result left last run)

-- Sequences

all_carried : (requests : List Request) → AreShared requests → AllCarried IsShared requests
all_carried [] are = tt
all_carried (request ∷ requests) are = (are.0, all_carried requests are.1)

pub sequence_own : (addresses : Addresses) (timings : Option (ℕ × ℕ)) (requests : List Request) → AreShared requests →
    (budget : ℕ) (first : SpaceState) (result : Result (Unit {0}) ClientError) (left : ℕ) (last : SpaceState)
    → Sequence (Goes addresses) (port_entries addresses.registers) timings requests budget first result left last
    → Sequence (Allows (Unit {0})) own_entries timings requests budget (machine_of first) result left (machine_of last)
sequence_own addresses timings requests are budget first result left last sequence =
    sequence_carried (Goes addresses) (Allows (Unit {0})) machine_of (port_entries addresses.registers) own_entries IsShared (are_performed addresses) timings
    tt tt requests (all_carried requests are) budget first tt result left last sequence

pub write_carried : AreShared write_requests
write_carried = (tt, (tt, (tt, tt)))

pub read_carried : (id : ℕ) → AreShared (read_requests id)
read_carried id = (tt, (tt, (tt, (tt, tt))))

pub clear_carried : (id : ℕ) → AreShared (clear_requests id)
clear_carried id = (tt, (tt, (tt, tt)))

pub dummy_carried : AreShared dummy_requests
dummy_carried = (tt, (tt, (tt, tt)))

pub counts_own : (addresses : Addresses) (budget : ℕ) (first : SpaceState) (result : Result ℕ ClientError) (left : ℕ) (last : SpaceState) →
    Counts (Goes addresses) (port_entries addresses.registers) budget first result left last
    → Counts (Allows (Unit {0})) own_entries budget (machine_of first) result left (machine_of last)
counts_own addresses budget first result left last counts = record {
  answer = counts.answer;
  asks = performed addresses GetRecordCount tt 0 budget first counts.answer left last counts.asks;
  result_is = counts.result_is;
}

no_fault : (fault : SpaceFault) → ◌≡◌ {A = Result (Unit {0}) SpaceFault} (Err fault) (Ok tt) → ⊥
no_fault fault e = absurd (cc e)

-- A write

module _ (first : SpaceState) (port : IsPort first.port) (bytes : List ℕ) (is : IsRecord bytes (length first.port.range)) where
  abbrev put_at_start : Addresses → (answer : Result (Unit {0}) SpaceFault) (new : SpaceState) → Type 0
  put_at_start addresses answer new =
      (answer ≡ Ok tt) × Allows (Unit {0}) (machine_of first) (WriteBytes 0x100000 bytes answer) (machine_of new) × (length new.port.range ≡ length first.port.range)

  put : (addresses : Addresses) (answer : Result (Unit {0}) SpaceFault) (new : SpaceState) → Goes addresses first (WriteBytes addresses.range bytes answer) new
      → put_at_start addresses answer new
  put addresses answer new goes =
      bytes_written addresses first new addresses.range 0x100000 0 (omega arith) bytes answer (omega (arith, is.least)) (omega (arith, is.fits))
      (location-start (length first.port.range) (length bytes) (omega (arith, is.least)) is.fits) goes

  mark_at : (addresses : Addresses) → first.port.addresses ≡ addresses → (addresses.range + 108) % 2 ^ 64 ≡ addresses.range + 108
  mark_at addresses there =
      let below : addresses.range + length first.port.range < 2 ^ 64 = subst (λ (a : Addresses). a.range + length first.port.range < 2 ^ 64) there
      (apart_says (length first.port.range) first.port.addresses port.apart).range in
      omega (arith, below, is.least, is.fits)

  mark : (addresses : Addresses) → first.port.addresses ≡ addresses → (mid : SpaceState) → length mid.port.range ≡ length first.port.range → (answer : Result (Unit {0}) SpaceFault) (new : SpaceState)
      → Goes addresses mid (WriteBytes ((addresses.range + 108) % 2 ^ 64) (codes "ER") answer) new
      → (answer ≡ Ok tt) × Allows (Unit {0}) (machine_of mid) (WriteBytes 0x10006C (codes "ER") answer) (machine_of new)
  mark addresses there mid same answer new goes =
      let done = bytes_written addresses mid new ((addresses.range + 108) % 2 ^ 64) 0x10006C 108 (mark_at addresses there) (codes "ER") answer (omega arith) (omega (arith, same, is.least, is.fits))
      (location-mark (length mid.port.range) (omega (arith, same, is.least, is.fits))) goes in
      (done.0, done.1)

  puts_own : (result : Result (Unit {0}) ClientError) (mid : SpaceState) → Puts (Goes first.port.addresses) first.port.addresses.range bytes first result mid
      → (result ≡ Ok tt) × Puts (Allows (Unit {0})) 0x100000 bytes (machine_of first) (Ok tt) (machine_of mid)
  puts_own result mid puts = elim puts as (λ result mid puts. (result ≡ Ok tt) × Puts (Allows (Unit {0})) 0x100000 bytes (machine_of first) (Ok tt) (machine_of mid)) [
    | NotPut fault last allowed ↦ absurd (no_fault fault (put first.port.addresses (Err fault) last allowed).0)
    | NotMarked between fault last allowed marks ↦
        absurd (no_fault fault (mark first.port.addresses refl between (put first.port.addresses (Ok tt) between allowed).2 (Err fault) last marks).0)
    | IsPut between last allowed marks ↦
        let done = put first.port.addresses (Ok tt) between allowed in
        (refl, IsPut (machine_of between) (machine_of last) done.1 (mark first.port.addresses refl between done.2 (Ok tt) last marks).1)
  ]

no_error : (error : ClientError) → ◌≡◌ {A = Result (Unit {0}) ClientError} (Err error) (Ok tt) → ⊥
no_error error e = absurd (cc e)

pub writes_own : (first : SpaceState) → IsPort first.port → (bytes : List ℕ) (budget : ℕ) (result : Result (Unit {0}) ClientError) (left : ℕ) (last : SpaceState)
    → Writes (Goes first.port.addresses) (port_client first) bytes budget first result left last
    → Writes (Allows (Unit {0})) (own_client (machine_of first)) bytes budget (machine_of first) result left (machine_of last)
writes_own first port bytes budget result left last writes =
    elim writes as (λ result left last writes. Writes (Allows (Unit {0})) (own_client (machine_of first)) bytes budget (machine_of first) result left (machine_of last)) [
      | IsNoRecord error is ↦ IsNoRecord error is
      | IsNotPut error last is puts ↦ absurd (no_error error (puts_own first port bytes (framed is) (Err error) last puts).0)
      | IsAsked mid result left last is puts sequence ↦
          IsAsked (machine_of mid) result left (machine_of last) is (puts_own first port bytes (framed is) (Ok tt) mid puts).1
          (sequence_own first.port.addresses (own_client (machine_of first)).timings write_requests write_carried budget mid result left last sequence)
    ]
  where
    framed : write_refusal bytes (reach_in first.port.device) ≡ None → IsRecord bytes (length first.port.range)
    framed is = let record_is = not_refused bytes (reach_in first.port.device) is in record { least = record_is.least; size = record_is.size; fits = omega (arith, record_is.fits, port.range) }

-- A read

-- a read divides the flash as before
read_divides : (first last : MachineState) (id : ℕ) (result : Result (Unit {0}) ClientError) → ReadMade first last id result → last.device.store.layout ≡ first.device.store.layout
read_divides first last id result made = elim made as (λ result made. last.device.store.layout ≡ first.device.store.layout) [
  | IsRead found body generation asked is_named here fits range cursor ↦ asked.looked.equivalent.layout
  | IsRefused refusal error asked refused is range cursor ↦ asked.looked.equivalent.layout
  | IsFailed leaves rose range cursor ↦ leaves.equivalent.layout
]

divides : (first last : MachineState) (id budget : ℕ) (result : Result (Unit {0}) ClientError) (left : ℕ) → ReadCommand first last id budget result left →
    last.device.store.layout ≡ first.device.store.layout
divides first last id budget result left command = elim command as (λ result left command. last.device.store.layout ≡ first.device.store.layout) [
  | Answers result left made spent ↦ read_divides first last id result made
  | StopsBehind result made least short ↦ read_divides first last id result made
  | StopsBefore leaves range cursor which short ↦ leaves.equivalent.layout
]

module _ (addresses : Addresses) (mid : SpaceState) where
  length_own : (below : addresses.range + length mid.port.range < 2 ^ 64) → 24 ≤ length mid.port.range → (field : List ℕ) (answer : Result (Unit {0}) SpaceFault) (new : SpaceState)
      → Goes addresses mid (ReadBytes ((addresses.range + 20) % 2 ^ 64) (0 ∷ 0 ∷ 0 ∷ 0 ∷ []) field answer) new
      → (answer ≡ Ok tt) × Allows (Unit {0}) (machine_of mid) (ReadBytes 0x100014 (0 ∷ 0 ∷ 0 ∷ 0 ∷ []) field answer) (machine_of new)
  length_own below long field answer new goes =
      bytes_told addresses mid new ((addresses.range + 20) % 2 ^ 64) 0x100014 20 (omega (arith, below, long)) (0 ∷ 0 ∷ 0 ∷ 0 ∷ []) field answer (omega arith)
      (omega (arith, long)) (location-length (length mid.port.range) long) goes

  copies_own : (before after : List ℕ) (answer : Result (Unit {0}) ClientError) (new : SpaceState) → 0 < length before → length before ≤ length mid.port.range
      → CopiesOut (Goes addresses) addresses.range before after mid answer new → CopiesOut (Allows (Unit {0})) 0x100000 before after (machine_of mid) answer (machine_of new)
  copies_own before after answer new some fits copies = elim copies as (λ answer new copies. CopiesOut (Allows (Unit {0})) 0x100000 before after (machine_of mid) answer (machine_of new)) [
    | IsFilled new goes ↦ IsFilled (machine_of new) (told (Ok tt) new goes).1
    | IsNotFilled fault new goes ↦ absurd (no_fault fault (told (Err fault) new goes).0)
  ]
    where
      told : (answer : Result (Unit {0}) SpaceFault) (new : SpaceState) → Goes addresses mid (ReadBytes addresses.range before after answer) new
          → (answer ≡ Ok tt) × Allows (Unit {0}) (machine_of mid) (ReadBytes 0x100000 before after answer) (machine_of new)
      told answer new goes = bytes_told addresses mid new addresses.range 0x100000 0 (omega arith) before after answer some (omega (arith, fits))
          (location-start (length mid.port.range) (length before) some fits) goes

pub reads_own : (first : SpaceState) → IsPort first.port → (id : ℕ) → id < 2 ^ 64 → (out : List ℕ) (budget : ℕ) (result : Result ℕ ClientError) (after : List ℕ) (left : ℕ) (last : SpaceState)
    → Reads (Goes first.port.addresses) (port_client first) id out budget first result after left last
    → Reads (Allows (Unit {0})) (own_client (machine_of first)) id out budget (machine_of first) result after left (machine_of last)
reads_own first port id small out budget result after left last reads =
    elim reads as (λ result after left last reads. Reads (Allows (Unit {0})) (own_client (machine_of first)) id out budget (machine_of first) result after left (machine_of last)) [
      | IsNotRead error left last sequence ↦ IsNotRead error left (machine_of last) (own (Err error) left last sequence)
      | HasNoLength left mid field fault last sequence length_at ↦ absurd (no_fault fault (field_own left mid (Err fault) last field length_at).0)
      | IsNotCopied left mid field error last sequence length_at refused ↦
          IsNotCopied left (machine_of mid) field error (machine_of last) (own (Ok tt) left mid sequence) (field_own left mid (Ok tt) last field length_at).1 refused
      | IsCopied left mid field next whole answer last sequence length_at taken copying ↦
          let has = copies (number_at field 0 4) (reach_in first.port.device) (length out) taken in
          let cut : length (take (number_at field 0 4) out) ≡ number_at field 0 4 = length-take (number_at field 0 4) out ∙ (omega (arith, has.fits)) in
          let read = field_own left mid (Ok tt) next field length_at in
          IsCopied left (machine_of mid) field (machine_of next) whole answer (machine_of last) (own (Ok tt) left mid sequence) read.1 taken
          (copies_own first.port.addresses next (take (number_at field 0 4) out) whole answer last (omega (arith, cut, has.least))
          (omega (arith, cut, has.within, read.2, length_at.before.range, reach_is left mid sequence)) copying)
    ]
  where
    own : (result : Result (Unit {0}) ClientError) (left : ℕ) (mid : SpaceState) → Sequence (Goes first.port.addresses)
        (port_entries first.port.addresses.registers) (own_client (machine_of first)).timings (read_requests id) budget first result left mid
        → Sequence (Allows (Unit {0})) own_entries (own_client (machine_of first)).timings (read_requests id) budget (machine_of first) result left (machine_of mid)
    own result left mid sequence = sequence_own first.port.addresses (own_client (machine_of first)).timings (read_requests id) (read_carried id) budget first result left mid sequence

    same_layout : (left : ℕ) (mid : SpaceState) → Sequence (Goes first.port.addresses) (port_entries first.port.addresses.registers)
        (own_client (machine_of first)).timings (read_requests id) budget first (Ok tt) left mid
        → mid.port.device.store.layout ≡ first.port.device.store.layout
    same_layout left mid sequence =
        divides (machine_of first) (machine_of mid) id budget (Ok tt) left
        (read_command (Unit {0}) own_runs tt (machine_of first) (is_machine first port) id small (own_client (machine_of first)).timings budget (Ok tt) left
        (machine_of mid) (own (Ok tt) left mid sequence))

    reach_is : (left : ℕ) (mid : SpaceState) → Sequence (Goes first.port.addresses) (port_entries first.port.addresses.registers)
        (own_client (machine_of first)).timings (read_requests id) budget first (Ok tt) left mid
        → reach_in mid.port.device ≡ reach_in first.port.device
    reach_is left mid sequence = ap (λ (l : Layout). reach_of (room_of l)) (same_layout left mid sequence)

    field_own : (left : ℕ) (mid : SpaceState) (answer : Result (Unit {0}) SpaceFault) (new : SpaceState) (field : List ℕ)
        → Goes first.port.addresses mid (ReadBytes ((first.port.addresses.range + 20) % 2 ^ 64) (0 ∷ 0 ∷ 0 ∷ 0 ∷ []) field answer) new
        → (answer ≡ Ok tt) × Allows (Unit {0}) (machine_of mid) (ReadBytes 0x100014 (0 ∷ 0 ∷ 0 ∷ 0 ∷ []) field answer) (machine_of new) × (length new.port.range ≡ length mid.port.range)
    field_own left mid answer new field goes =
        let below : first.port.addresses.range + length mid.port.range < 2 ^ 64 =
        subst (λ (a : Addresses). a.range + length mid.port.range < 2 ^ 64) goes.there (apart_says (length mid.port.range) mid.port.addresses goes.before.apart).range in
        let done = length_own first.port.addresses mid below (omega (arith, goes.before.range, reach-least mid.port.device.store.layout)) field answer new goes in
        (done.0, done.1, ap (λ (s : SpaceState). length s.port.range) goes.does.2)
